-- A turn of a login, as the steps that it made.
use Rattle.std.specs.Prelude.{◌≡◌, ◌⊎◌, ℕ, ◌+◌, ◌≤◌, ◌&&◌, Bool, true, false, not, List, [], ◌∷◌, ◌++◌, Option, Some, None, Result, Ok, Err, ⊤, if◌then◌else◌}
use Rattle.std.specs.List.{list_any}
use Rattle.vio_num.specs.declared.entry.Entry.{Entry}
use Rattle.vio_num.specs.declared.memory.NoMemory.{NoMemory}
use Rattle.vio_num.specs.Entry.{srp_entry, initialize, initialization_complete}
use Rattle.crq_session.specs.declared.handshake.Handshake.{Handshake}
use Rattle.crq_session.specs.declared.handshake.Handshake.TheVariants.{Down, Waiting, Up}
use Rattle.crq_session.specs.declared.answers.RegAnswer.{RegAnswer}
use Rattle.crq_session.specs.declared.answers.RegAnswer.TheVariants as reg
use Rattle.crq_session.specs.declared.answers.SendAnswer.{SendAnswer}
use Rattle.crq_session.specs.declared.answers.SendAnswer.TheVariants as send
use Rattle.crq_session.specs.EndState.{EndState, OnlyRegisters, OnlyReserves, OnlySends, OnlyTakes}
use Rattle.crq_session.specs.Answers.{OnReached}
use Rattle.crq_session.specs.Answered.{MaySend, Sends, TurnsBack, FindsFull, FindsNone, FindsClosed, MeetsOpen, Opens, HoldsUp, Takes}
use Rattle.srp_iu.specs.declared.unit.Iu.TheVariants.{LoginReq}
use Rattle.srp_iu.specs.Grammar.{Canon}
use Rattle.tce_window.specs.PortState.{PortState, LaysNone, OnlyReads}
use Rattle.vscsi_client.specs.declared.answers.LoginTurn.{LoginTurn}
use Rattle.vscsi_client.specs.declared.answers.LoginTurn.TheVariants as turns
use Rattle.vscsi_client.specs.declared.found.Found.{Found}
use Rattle.vscsi_client.specs.declared.found.Found.TheVariants.{Granted, Rejected, Lost, InUse}
use Rattle.vscsi_client.specs.declared.stage.Stage.{Stage}
use Rattle.vscsi_client.specs.declared.stage.Stage.TheVariants.{Idle, Written, Sent}
use Rattle.vscsi_client.specs.declared.stage.Due.{Due}
use Rattle.vscsi_client.specs.declared.stage.Due.TheVariants as dues
use Rattle.vscsi_client.specs.declared.row.Row.TheVariants as rows
use Rattle.vscsi_client.specs.Units.{login_request, slot_address}
use Rattle.vscsi_client.specs.State.{ClientState, IsLoginSlot, next_tag}
use Rattle.vscsi_client.specs.Taking.{forgets}
use Rattle.vscsi_client.specs.Login.{Finds, found_by}
use Rattle.vscsi_client.specs.Ports.{Ports, Lays, MeetsUse, unit_write}

-- a client at its ports
pub record Site : Type 0 where
  pub client : ClientState
  pub at : Ports

abbrev pub site : ClientState → Ports → Site
site client at = record { client = client; at = at }

-- one step of a turn
pub data LoginStep : Type 0 where
  -- the own queue was registered, or was already
  Registered : (answer : RegAnswer) → LoginStep
  -- an entry was taken from the own queue
  Took : LoginStep
  -- none was there
  TookNone : LoginStep
  -- the entry that is held was this to the login
  Looked : (found : Found) → LoginStep
  -- a login became due
  Began : LoginStep
  -- its unit was written
  Wrote : LoginStep
  -- its unit was not, since a page was in use
  NotWritten : (page word : ℕ) → LoginStep
  -- what was due first was sent, with this answer
  Put : (due : Due) → (answer : SendAnswer) → LoginStep
  -- memory ran out, before anything more was taken, written or put
  RanOut : LoginStep

-- the client once it was told that its own queue was freed
abbrev pub unlinked : ClientState → ClientState
unlinked s = record s { handshake = Down; due = [] }

-- the client once it found its own queue not registered, and once it registered it
abbrev pub freed_by : ClientState → ClientState
freed_by s = record (forgets s) { handshake = Down; due = [] }

abbrev pub registered_by : ClientState → ClientState
registered_by s = record (forgets s) { handshake = Waiting; due = dues.Initialize ∷ [] }

-- what a registration left of the client and of its end
abbrev pub RegistersAs : (shared : Bool) → ClientState → ClientState → EndState → EndState → RegAnswer → Type 0
RegistersAs shared s s' old new reg.Resource = (old.registered ≡ true) × OnlyReserves old new × (s' ≡ s)
RegistersAs shared s s' old new reg.Success = Opens shared old new × MeetsOpen shared old × (s' ≡ registered_by s)
RegistersAs shared s s' old new (reg.Closed control) = Opens shared old new × FindsClosed shared old new control × (s' ≡ registered_by s)
RegistersAs shared s s' old new (reg.Busy number held) = HoldsUp shared old new number held × (s' ≡ freed_by s)
RegistersAs shared s s' old new reg.Parameter = ⊥

-- room was made at the end, and then the queue was registered, or found registered
pub record Registers (shared : Bool) (s s' : ClientState) (old new : EndState) (answer : RegAnswer) : Type 0 where
  pub room : EndState
  pub ready : OnlyReserves old room
  pub rest : OnlyRegisters shared room new
  pub registers : RegistersAs shared s s' room new answer

-- the next entry of the own queue was taken, and is held
pub record TakesNext (shared : Bool) (s s' : ClientState) (old new : EndState) : Type 0 where
  pub none_held : s.held ≡ None
  pub room : EndState
  pub ready : OnlyReserves old room
  pub number : ℕ
  pub entry : Entry
  pub taken : Takes shared room new number entry
  pub rest : OnlyTakes shared room new
  pub client : s' ≡ record s { held = Some entry }

-- the own queue was polled, and had none
pub record PollsNone (shared : Bool) (s s' : ClientState) (old new : EndState) : Type 0 where
  pub room : EndState
  pub ready : OnlyReserves old room
  pub number : ℕ
  pub none : FindsNone shared room new number ⊎ ((room.registered ≡ false) × OnlyReserves room new)
  pub rest : OnlyTakes shared room new
  pub client : s' ≡ s

-- the entry that is held was looked at
pub record Looks (shared : Bool) (s s' : ClientState) (old new : PortState) (found : Found) : Type 0 where
  pub entry : Entry
  pub held : s.held ≡ Some entry
  pub finds : Finds shared s entry old new found
  pub reads : OnlyReads shared old new
  pub client : s' ≡ found_by entry found s

abbrev pub is_login : Due → Bool
is_login dues.Login = true
is_login _ = false

abbrev pub is_up : Handshake → Bool
is_up Up = true
is_up _ = false

abbrev pub is_idle : Stage → Bool
is_idle Idle = true
is_idle _ = false

-- whether a login is to become due: the handshake is up, and none is under way or due
abbrev pub begins : ClientState → Bool
begins s = is_up s.handshake && (is_idle s.login && not (list_any is_login s.due))

abbrev pub login_due : ClientState → ClientState
login_due s = record s { due = s.due ++ dues.Login ∷ [] }

pub record Begins (s s' : ClientState) : Type 0 where
  pub begins_now : begins s ≡ true
  pub client : s' ≡ login_due s

-- this is due first
abbrev pub IsFirst : Due → List Due → Type 0
IsFirst due [] = ⊥
IsFirst due (first ∷ others) = first ≡ due

-- a login whose unit is not written is due first
pub record IsUnwritten (s : ClientState) : Type 0 where
  pub first : IsFirst dues.Login s.due
  pub idle : is_idle s.login ≡ true

-- the slot and the bytes of the next login's unit
pub record IsLoginUnit (s : ClientState) (slot : ℕ) (bytes : List ℕ) : Type 0 where
  pub slot_is : IsLoginSlot s slot
  pub canonical : Canon bytes (LoginReq (login_request s.id s.server (next_tag s)))

-- it was written
abbrev pub written_at : (slot : ℕ) → ClientState → ClientState
written_at slot s = record s { login = Written (next_tag s) slot; rows = s.rows ++ rows.Login ∷ [] }

pub record WritesLogin (shared : Bool) (line : ℕ) (s s' : ClientState) (old new : PortState) : Type 0 where
  pub slot : ℕ
  pub bytes : List ℕ
  pub unit : IsLoginUnit s slot bytes
  pub laid : Lays shared line (unit_write slot bytes) old new
  pub client : s' ≡ written_at slot s

-- it was not, since its page was in use
pub record WritesNone (shared : Bool) (s s' : ClientState) (old new : PortState) (page : ℕ) : Type 0 where
  pub slot : ℕ
  pub bytes : List ℕ
  pub unit : IsLoginUnit s slot bytes
  pub meets : MeetsUse shared (unit_write slot bytes) old new page
  pub place : new.place ≡ old.place
  pub client : s' ≡ s

-- the entry of what is due
abbrev pub IsEntryOf : Due → Stage → Entry → Type 0
IsEntryOf dues.Initialize stage entry = entry ≡ initialize
IsEntryOf dues.Complete stage entry = entry ≡ initialization_complete
IsEntryOf dues.Login (Written tag slot) entry = entry ≡ srp_entry 64 (slot_address slot)
IsEntryOf dues.Login (Sent tag slot) entry = entry ≡ srp_entry 64 (slot_address slot)
IsEntryOf dues.Login Idle entry = ⊥

-- what an answer to it says of the partner's queue
abbrev pub SentAs : (shared : Bool) → EndState → Entry → EndState → SendAnswer → Type 0
SentAs shared old entry new (send.Success number) = Sends shared old entry new number
SentAs shared old entry new (send.Closed control) = TurnsBack shared old new control
SentAs shared old entry new (send.Dropped number held) = FindsFull shared old new number held
SentAs shared old entry new send.NotRegistered = (old.registered ≡ false) × OnlyReserves old new
SentAs shared old entry new send.Parameter = ⊥

-- it is due no more once it was put or met a closed queue; a login then waits for its answer
abbrev pub sent_stage : Due → Stage → Stage
sent_stage dues.Login (Written tag slot) = Sent tag slot
sent_stage due stage = stage

abbrev pub is_dropped : SendAnswer → Bool
is_dropped (send.Dropped number held) = true
is_dropped _ = false

abbrev pub sent_by : Due → (others : List Due) → SendAnswer → ClientState → ClientState
sent_by due others answer s =
    if is_dropped answer then s else record s { due = others; login = sent_stage due s.login }

pub record Puts (shared : Bool) (s s' : ClientState) (old new : EndState) (due : Due) (answer : SendAnswer) : Type 0 where
  pub others : List Due
  pub first : s.due ≡ due ∷ others
  pub entry : Entry
  pub is_entry : IsEntryOf due s.login entry
  pub room : EndState
  pub ready : OnlyReserves old room
  pub may : OnReached answer (MaySend room entry)
  pub sent : SentAs shared room entry new answer
  pub rest : OnlySends shared room new
  pub client : s' ≡ sent_by due others answer s

-- the end, or the window, is as before
abbrev pub SameEnd : Site → Site → Type 0
SameEnd a b = b.at.crq ≡ a.at.crq

abbrev pub SameWindow : Site → Site → Type 0
SameWindow a b = b.at.own ≡ a.at.own

-- memory ran out before anything more was taken, written or put
pub record Exhausts (a b : Site) : Type 0 where
  pub crq : OnlyReserves a.at.crq b.at.crq
  pub own : LaysNone a.at.own_shared a.at.own b.at.own
  pub client : b.client ≡ a.client

abbrev pub Steps : (line : ℕ) → LoginStep → Site → Site → Type 0
Steps line (Registered answer) a b = Registers a.at.crq_shared a.client b.client a.at.crq b.at.crq answer × SameWindow a b
Steps line Took a b = TakesNext a.at.crq_shared a.client b.client a.at.crq b.at.crq × SameWindow a b
Steps line TookNone a b = PollsNone a.at.crq_shared a.client b.client a.at.crq b.at.crq × SameWindow a b
Steps line (Looked found) a b = Looks a.at.own_shared a.client b.client a.at.own b.at.own found × SameEnd a b
Steps line Began a b = Begins a.client b.client × SameEnd a b × SameWindow a b
Steps line Wrote a b = IsUnwritten a.client × WritesLogin a.at.own_shared line a.client b.client a.at.own b.at.own × SameEnd a b
Steps line (NotWritten page word) a b = IsUnwritten a.client × WritesNone a.at.own_shared a.client b.client a.at.own b.at.own page × SameEnd a b
Steps line (Put due answer) a b = Puts a.at.crq_shared a.client b.client a.at.crq b.at.crq due answer × SameWindow a b
Steps line RanOut a b = Exhausts a b

-- the hands in the queue and the window stay
pub record SameHands (a b : Site) : Type 0 where
  pub crq : b.at.crq_shared ≡ a.at.crq_shared
  pub own : b.at.own_shared ≡ a.at.own_shared

-- these steps, the latest first, lead from one site to another
abbrev pub Runs : (line : ℕ) → List LoginStep → Site → Site → Type 0
Runs line [] a b = b ≡ a
Runs line (step ∷ steps) a c = (b : Site) × Runs line steps a b × Steps line step b c × SameHands b c

-- whether the login has its answer, or lost its partner
abbrev pub ends_login : Found → Bool
ends_login (Granted credits) = true
ends_login (Rejected reason) = true
ends_login Lost = true
ends_login _ = false

-- whether a step ends the call
abbrev pub ends_turn : LoginStep → Bool
ends_turn (Registered (reg.Busy number held)) = true
ends_turn (Looked found) = ends_login found
ends_turn RanOut = true
ends_turn _ = false

-- none of these did
abbrev pub NoneEnds : List LoginStep → Type 0
NoneEnds steps = list_any ends_turn steps ≡ false

-- the entries that were taken from the own queue
abbrev pub taken_in : LoginStep → ℕ
taken_in Took = 1
taken_in _ = 0

abbrev pub times_taken : List LoginStep → ℕ
times_taken [] = 0
times_taken (step ∷ steps) = taken_in step + times_taken steps

-- whether the last poll of these steps, the latest of which stands first, found nothing
abbrev pub found_none_last : List LoginStep → Bool
found_none_last [] = false
found_none_last (Took ∷ steps) = false
found_none_last (TookNone ∷ steps) = true
found_none_last (Registered answer ∷ steps) = found_none_last steps
found_none_last (Looked found ∷ steps) = found_none_last steps
found_none_last (Began ∷ steps) = found_none_last steps
found_none_last (Wrote ∷ steps) = found_none_last steps
found_none_last (NotWritten page word ∷ steps) = found_none_last steps
found_none_last (Put due answer ∷ steps) = found_none_last steps
found_none_last (RanOut ∷ steps) = found_none_last steps

-- whether the page of its answer was read in use
abbrev pub is_found_used : Found → Bool
is_found_used (InUse page word) = true
is_found_used _ = false

-- whether an entry was looked at whose page was in use
abbrev pub finds_use : LoginStep → Bool
finds_use (Looked found) = is_found_used found
finds_use _ = false

-- an entry that is held was looked at, and its page was in use
abbrev pub IsLooked : Option Entry → List LoginStep → Type 0
IsLooked None steps = ⊤
IsLooked (Some entry) steps = list_any finds_use steps ≡ true

-- nothing more is to be taken in this call: the last poll found nothing, as many entries were taken as the queue
-- has slots, or the page of the entry that is held was in use
abbrev pub IsSpent : (slots : ℕ) → List LoginStep → Type 0
IsSpent slots steps =
    (found_none_last steps ≡ true) ⊎ ((times_taken steps ≡ slots) ⊎ (list_any finds_use steps ≡ true))

-- this was the last step
pub record LastIs (step : LoginStep) (steps : List LoginStep) : Type 0 where
  pub rest : List LoginStep
  pub is : steps ≡ step ∷ rest

-- nothing is due, or what is due first was dropped in the last step, or is a login whose page was then in use
abbrev pub IsHeldUp : List Due → List LoginStep → Type 0
IsHeldUp [] steps = ⊤
IsHeldUp (first ∷ others) steps =
    ((number : ℕ) × (held : ℕ) × LastIs (Put first (send.Dropped number held)) steps)
    ⊎ ((first ≡ dues.Login) × ((page : ℕ) × (word : ℕ) × LastIs (NotWritten page word) steps))

-- the login is to be tried again
pub record Pauses (slots : ℕ) (steps : List LoginStep) (b : Site) : Type 0 where
  pub going : NoneEnds steps
  pub registered : b.at.crq.registered ≡ true
  pub spent : IsSpent slots steps
  pub looked : IsLooked b.client.held steps
  pub begun : begins b.client ≡ false
  pub held_up : IsHeldUp b.client.due steps

-- this was the last step, and none before it ended the call
pub record EndsWith (step : LoginStep) (steps : List LoginStep) : Type 0 where
  pub rest : List LoginStep
  pub is : steps ≡ step ∷ rest
  pub going : NoneEnds rest

-- how a turn ends: its last step says so, and none before it did
abbrev pub Ends : (slots : ℕ) → Site → LoginTurn → List LoginStep → Type 0
Ends slots b turns.Again steps = Pauses slots steps b
Ends slots b (turns.Granted credits) steps = EndsWith (Looked (Granted credits)) steps
Ends slots b (turns.Rejected reason) steps = EndsWith (Looked (Rejected reason)) steps
Ends slots b turns.Lost steps = EndsWith (Looked Lost) steps
Ends slots b (turns.Busy number held) steps = EndsWith (Registered (reg.Busy number held)) steps

-- whether the own queue was not registered, since the event that is kept found its slot full
abbrev pub is_busy : LoginTurn → Bool
is_busy (turns.Busy number held) = true
is_busy _ = false

-- how a part of a turn ends: as is said of its steps, or by want of memory
abbrev pub EndsOr : {X : Type 0} → (X → List LoginStep → Type 0) → Result X NoMemory → List LoginStep → Type 0
EndsOr P (Ok x) steps = P x steps
EndsOr P (Err memory) steps = EndsWith RanOut steps

-- what a part of a turn did: its steps, and how it ended
pub record Did {X : Type 0} (line : ℕ) (a b : Site) (P : X → List LoginStep → Type 0) (result : Result X NoMemory) : Type 0 where
  pub steps : List LoginStep
  pub runs : Runs line steps a b
  pub ends : EndsOr P result steps

-- A turn has three parts: the queue is registered (0), entries are taken (1), and what is due is put (2). A step is of
-- one of them
abbrev pub part_of : LoginStep → ℕ
part_of (Registered answer) = 0
part_of Took = 1
part_of TookNone = 1
part_of (Looked found) = 1
part_of _ = 2

-- the part from which on steps may follow this one: none is taken once there is none, or a page is in use, and none is
-- put once what is due first is held up
abbrev pub part_behind : LoginStep → ℕ
part_behind (Registered answer) = 1
part_behind Took = 1
part_behind (Looked found) = if is_found_used found then 2 else 1
part_behind (NotWritten page word) = 3
part_behind (Put due answer) = if is_dropped answer then 3 else 2
part_behind _ = 2

-- the part from which on steps may follow these, of which the latest stands first and which began at one part
abbrev pub part_after : (first : ℕ) → List LoginStep → ℕ
part_after first [] = first
part_after first (step ∷ steps) = part_behind step

-- each of these steps is of the part that was reached, or of a later one
abbrev pub FollowOn : (first : ℕ) → List LoginStep → Type 0
FollowOn first [] = ⊤
FollowOn first (step ∷ steps) = (part_after first steps ≤ part_of step) × FollowOn first steps

-- the steps of a turn stand in the order of its parts, and begin with the registration
pub record AreInOrder (steps : List LoginStep) : Type 0 where
  pub answer : RegAnswer
  pub later : List LoginStep
  pub is : steps ≡ later ++ Registered answer ∷ []
  pub order : FollowOn 1 later

-- what a turn of a login did: it took at most as many entries as the queue has slots
abbrev pub Turned : (line : ℕ) → Site → Site → Result LoginTurn NoMemory → Type 0
Turned line a b = Did line a b (λ turn steps. (times_taken steps ≤ a.at.crq.place.own_slots)
    × Ends a.at.crq.place.own_slots b turn steps × AreInOrder steps)
