-- What a client takes, and what that leaves.
use Rattle.std.specs.Prelude.{◌≡◌, ◌≢◌, ◌⊎◌, ℕ, ◌-◌, ◌==◌, Bool, true, false, List, [], ◌∷◌, ◌++◌, Option, Some, None, find, filter, MatchOption, IsSomeAnd, slice_set, slice_index_or, ⊤, if◌then◌else◌}
use Rattle.std.specs.Option.{option_map}
use Rattle.vio_num.specs.declared.entry.Entry.{Entry}
use Rattle.vio_num.specs.Entry.{is_srp_entry}
use Rattle.tce_window.specs.PortState.{PortState}
use Rattle.crq_session.specs.declared.handshake.Step.{Step}
use Rattle.crq_session.specs.declared.handshake.Step.TheVariants.{Nothing, SendInitialize, SendComplete}
use Rattle.crq_session.specs.Handshake.{state_after, step_after}
use Rattle.crq_session.specs.EndState.{EndState, OnlyReserves}
use Rattle.crq_session.specs.Answered.{Takes, FindsNone}
use Rattle.srp_iu.specs.declared.response.Rsp.{Rsp as Response}
use Rattle.srp_iu.specs.declared.unit.Iu.{Iu}
use Rattle.srp_iu.specs.declared.unit.Iu.TheVariants as units
use Rattle.vscsi_client.specs.declared.answers.Taken.{Taken}
use Rattle.vscsi_client.specs.declared.answers.Taken.TheVariants.{Answer, Stray, Lost, Other, Again, Empty}
use Rattle.vscsi_client.specs.declared.outgoing.Outgoing.{Outgoing}
use Rattle.vscsi_client.specs.declared.stage.Due.{Due}
use Rattle.vscsi_client.specs.declared.stage.Due.TheVariants as dues
use Rattle.vscsi_client.specs.declared.stage.Stage.TheVariants.{Idle}
use Rattle.vscsi_client.specs.declared.row.Row.{Row}
use Rattle.vscsi_client.specs.declared.row.Row.TheVariants as rows
use Rattle.vscsi_client.specs.State.{ClientState}
use Rattle.vscsi_client.specs.Slots.{is_event, Holds, HoldsNone, IsSlotInUse}
use Rattle.vscsi_client.specs.Ports.{Ports}

-- the slot of the request with this tag
abbrev pub slot_of : ℕ → List Outgoing → Option ℕ
slot_of tag outgoing = option_map (λ (o : Outgoing). o.slot) (find (λ (o : Outgoing). o.tag == tag) outgoing)

-- it is an SRP entry of this tag
pub record IsOfTag (entry : Entry) (tag : ℕ) : Type 0 where
  pub no_event : is_event entry ≡ false
  pub srp : is_srp_entry entry ≡ true
  pub tag_is : entry.low ≡ tag

-- a unit that is no response of this tag
abbrev pub IsNoAnswer : ℕ → Iu → Type 0
IsNoAnswer tag (units.Rsp response) = response.tag ≢ tag
IsNoAnswer tag _ = ⊤

-- no response of this tag lies in the slot
abbrev pub HoldsNoAnswer : PortState → (tag slot : ℕ) → Type 0
HoldsNoAnswer own tag slot = HoldsNone own slot ⊎ ((iu : Iu) × Holds own slot iu × IsNoAnswer tag iu)

-- what an entry is to a client with these requests outstanding
abbrev pub Judges : (shared : Bool) → List Outgoing → Entry → PortState → PortState → Taken → Type 0
Judges shared outgoing entry old new (Answer tag response) =
    IsOfTag entry tag × (response.tag ≡ tag) × IsSomeAnd (slot_of tag outgoing) (λ slot. Holds new slot (units.Rsp response))
Judges shared outgoing entry old new (Stray tag) =
    IsOfTag entry tag × MatchOption (slot_of tag outgoing) (new ≡ old) (HoldsNoAnswer new tag)
Judges shared outgoing entry old new Lost = (is_event entry ≡ true) × (new ≡ old)
Judges shared outgoing entry old new Other = (is_event entry ≡ false) × (is_srp_entry entry ≡ false) × (new ≡ old)
Judges shared outgoing entry old new (Again page word) =
    IsOfTag entry entry.low × IsSomeAnd (slot_of entry.low outgoing) (λ slot. IsSlotInUse shared slot old new page)
Judges shared outgoing entry old new (Empty number) = ⊥

-- the requests without the first of this tag
abbrev pub without_tag : ℕ → List Outgoing → List Outgoing
without_tag tag [] = []
without_tag tag (o ∷ os) = if o.tag == tag then os else o ∷ without_tag tag os

-- the row of a command with what a response said of its data-in
abbrev pub row_answered : Response → Row → Row
row_answered response (rows.Command dir at len answer) =
    rows.Command dir at len (Some (record { flags = response.flags; in_residual = response.in_residual }))
row_answered response row = row

abbrev pub answered : ℕ → Response → List Row → List Row
answered tag response rs = slice_set rs (tag - 1) (row_answered response (slice_index_or rs (tag - 1) rows.Login))

-- what a step of the handshake makes due
abbrev pub due_by : Step → List Due
due_by Nothing = []
due_by SendInitialize = dues.Initialize ∷ []
due_by SendComplete = dues.Complete ∷ []

-- all that is due but a login
abbrev pub is_step : Due → Bool
is_step dues.Login = false
is_step _ = true

-- the client once an entry was given to the handshake
abbrev pub shaken_by : Entry → ClientState → ClientState
shaken_by entry s = record s { handshake = state_after s.handshake entry; due = s.due ++ due_by (step_after s.handshake entry) }

-- nothing of a login, of requests or of their answers is left
abbrev pub forgets : ClientState → ClientState
forgets s = record s { granted = None; outgoing = []; login = Idle; logout = None; kept = []; held = None }

-- the client once an event told that its partner is gone: steps of the handshake stay due
abbrev pub lost_by : Entry → ClientState → ClientState
lost_by entry s = record (forgets s) { handshake = state_after s.handshake entry; due = filter is_step s.due }

-- the client once the entry was taken as this
abbrev pub taken_by : Entry → Taken → ClientState → ClientState
taken_by entry (Answer tag response) s = record s { outgoing = without_tag tag s.outgoing; rows = answered tag response s.rows }
taken_by entry Lost s = lost_by entry s
taken_by entry Other s = shaken_by entry s
taken_by entry (Again page word) s = record s { kept = entry ∷ s.kept }
taken_by entry _ s = s

-- the next entry of the own queue was taken, once room was made
pub record Polls (shared : Bool) (old : EndState) (entry : Entry) (new : EndState) : Type 0 where
  pub room : EndState
  pub ready : OnlyReserves old room
  pub number : ℕ
  pub taken : Takes shared room new number entry

-- there was none in it, or it is not registered
pub record PollsEmpty (shared : Bool) (old : EndState) (number : ℕ) (new : EndState) : Type 0 where
  pub room : EndState
  pub ready : OnlyReserves old room
  pub none : FindsNone shared room new number ⊎ ((room.registered ≡ false) × (number ≡ 0) × OnlyReserves room new)

-- the entry is the first that is kept, or else the next of the own queue; these are kept besides
abbrev pub IsNext : List Entry → (shared : Bool) → EndState → Entry → List Entry → EndState → Type 0
IsNext (first ∷ more) shared old entry rest new = (entry ≡ first) × (rest ≡ more) × (new ≡ old)
IsNext [] shared old entry rest new = (rest ≡ []) × Polls shared old entry new

-- an entry was found, and is the first that is kept
pub record Fetches (shared : Bool) (s s' : ClientState) (old new : EndState) : Type 0 where
  pub entry : Entry
  pub rest : List Entry
  pub next : IsNext s.kept shared old entry rest new
  pub client : s' ≡ record s { kept = entry ∷ rest }

-- none was there
pub record FetchesNone (shared : Bool) (s s' : ClientState) (old new : EndState) (number : ℕ) : Type 0 where
  pub none_kept : s.kept ≡ []
  pub none : PollsEmpty shared old number new
  pub client : s' ≡ s

-- the first entry that is kept was this
pub record JudgesFirst (shared : Bool) (s s' : ClientState) (old new : PortState) (taken : Taken) : Type 0 where
  pub entry : Entry
  pub rest : List Entry
  pub first : s.kept ≡ entry ∷ rest
  pub judged : Judges shared s.outgoing entry old new taken
  pub client : s' ≡ taken_by entry taken (record s { kept = rest })

-- an entry was taken as this
pub record TakesAs (s s' : ClientState) (old new : Ports) (taken : Taken) : Type 0 where
  pub kept : ClientState
  pub fetched : Fetches old.crq_shared s kept old.crq new.crq
  pub judged : JudgesFirst old.own_shared kept s' old.own new.own taken

-- none was there
pub record TakesNone (s s' : ClientState) (old new : Ports) (number : ℕ) : Type 0 where
  pub fetched : FetchesNone old.crq_shared s s' old.crq new.crq number
  pub own : new.own ≡ old.own

-- it says that there is none
abbrev pub IsEmpty : Taken → Type 0
IsEmpty (Empty number) = ⊤
IsEmpty _ = ⊥

-- what a client takes
abbrev pub TakesEntry : ClientState → ClientState → Ports → Ports → Taken → Type 0
TakesEntry s s' old new (Empty number) = TakesNone s s' old new number
TakesEntry s s' old new taken = TakesAs s s' old new taken

-- memory ran out: an entry that was taken is kept
abbrev pub TakesLater : (shared : Bool) → ClientState → ClientState → EndState → EndState → Type 0
TakesLater shared s s' old new = ((s' ≡ s) × (new.taken ≡ old.taken)) ⊎ Fetches shared s s' old new

-- the response of this tag, where the unit is that
abbrev pub IsAnswer : ℕ → Iu → Option Response → Type 0
IsAnswer tag iu None = IsNoAnswer tag iu
IsAnswer tag iu (Some response) = (iu ≡ units.Rsp response) × (response.tag ≡ tag)
