-- What becomes of each request to log in, while its session goes on and no event was taken behind it (SRP, "Login process").
use Rattle.std.specs.Prelude.{◌≡◌, ◌⊎◌, ◌++◌, ◌∷◌, ◌≤◌, ℕ, Bool, true, false, List, [], Option, Some, IfSome, drop, filter, length, slice_get}
use Rattle.std.specs.List.{Contains}
use Rattle.crq_ring.specs.Sessions.{of_session}
use Rattle.crq_ring.specs.declared.rows.PipeRow.{PipeRow}
use Rattle.crq_session.specs.Answered.{MeetsClosed}
use Rattle.crq_session.specs.EndState.{EndState}
use Rattle.srp_iu.specs.Grammar.{Spells}
use Rattle.srp_iu.specs.declared.login.LoginReq.{LoginReq}
use Rattle.srp_iu.specs.declared.unit.Iu.TheVariants as units
use Rattle.vio_num.specs.Entry.{iu_address, iu_length}
use Rattle.vio_num.specs.declared.entry.Entry.{Entry}
use Rattle.vio_num.specs.declared.names.UnitId.{UnitId}
use Rattle.block_server.specs.Asked.{AskedAt}
use Rattle.block_server.specs.Causes.{Hearing, Told, told_to, units_at}
use Rattle.block_server.specs.Causes.News.{fetched}
use Rattle.block_server.specs.Closings.{is_event}
use Rattle.block_server.specs.Granting.{IsGrantedOver, IsRejectedOver, IsSrpAt}
use Rattle.block_server.specs.Judged.{is_login}
use Rattle.block_server.specs.Receipts.{is_ended}
use Rattle.block_server.specs.declared.request.Arrival.{Arrival}
use Rattle.block_server.specs.declared.request.Request.{Request}
use Rattle.block_server.specs.declared.unit.Unit.{Unit}

-- The information unit of the entry with this number is still to be fetched.
pub record IsStillWaiting (waiting : Option Arrival) (number : ℕ) : Type 0 where
  pub arrival : Arrival
  pub waits : waiting ≡ Some arrival
  pub number_is : arrival.number ≡ number

-- Its request asks for a login, and is pending.
pub record IsStillPending (pending : List Request) (number : ℕ) : Type 0 where
  pub before : List Request
  pub request : Request
  pub after : List Request
  pub parts : pending ≡ before ++ request ∷ after
  pub number_is : request.number ≡ number
  pub asks : is_login request.order ≡ true

-- A copy brought its information unit, which asks for no login.
pub record AsksNoLogin (Hears : Hearing) (entry : Entry) : Type 0 where
  pub bytes : List ℕ
  pub long : length bytes ≡ iu_length entry
  pub brought : Hears (fetched (iu_address entry) units_at bytes)
  pub none : (asked : LoginReq) → ¬ Spells bytes (units.LoginReq asked)

-- Its login was granted or rejected: a copy wrote the answer over the request.
abbrev pub IsLoginAnswered : Hearing → List PipeRow → (session number : ℕ) → Type 0
IsLoginAnswered Hears taken session number = ((credits : ℕ) × IsGrantedOver Hears taken session number credits) ⊎ IsRejectedOver Hears taken session number

-- What is known of the sends of answers to requests to log in: where the requests were asked whose answers were put, and whether a
-- send of a session may have found the client's queue closed.
pub record SendsSoFar : Type 0 where
  pub put : List AskedAt
  pub closed : (session : ℕ) → Bool

-- The answer was put, or a send may have found the client's queue closed.
abbrev pub IsPutOrLost : SendsSoFar → (session number : ℕ) → Type 0
IsPutOrLost sends session number = Contains sends.put (record { session = session; number = number }) ⊎ (sends.closed session ≡ true)

-- Its login was granted or rejected by a copy of the answer, whose entry was put.
pub record IsLoginSettled (Hears : Hearing) (taken : List PipeRow) (sends : SendsSoFar) (session number : ℕ) : Type 0 where
  pub answered : IsLoginAnswered Hears taken session number
  pub put : IsPutOrLost sends session number

-- What became of an SRP entry: one of these.
abbrev pub IsDealt : Hearing → (session : ℕ) → List PipeRow → Option Arrival → List Request → SendsSoFar → (number : ℕ) → Entry → Type 0
IsDealt Hears session taken waiting pending sends number entry =
    IsStillWaiting waiting number ⊎ (IsStillPending pending number ⊎ (AsksNoLogin Hears entry ⊎ IsLoginSettled Hears taken sends session number))

-- No event was taken in the session, and none from its entry of this number on.
abbrev pub TookNoEvent : (session : ℕ) → List PipeRow → Type 0
TookNoEvent session taken = filter is_event (of_session session taken) ≡ []

abbrev pub TookNoEventFrom : (session number : ℕ) → List PipeRow → Type 0
TookNoEventFrom session number taken = filter is_event (drop number (of_session session taken)) ≡ []

-- While the session goes on, each SRP entry that was taken in it was dealt with, unless an event was taken behind it.
abbrev pub AreDealt : Hearing → (session : ℕ) → List PipeRow → Option Arrival → List Request → (ended : Bool) → SendsSoFar → Type 0
AreDealt Hears session taken waiting pending ended sends = ended ≡ false → (number : ℕ) (entry : Entry) → IsSrpAt taken session number entry
    → TookNoEventFrom session number taken → IsDealt Hears session taken waiting pending sends number entry

-- So it is of the unit of this number, by what it was told, where the answers to the requests asked at these places were put, and a
-- send may have found the client's queue closed in these sessions.
abbrev pub HasDealt : (told : Told → Bool) → (put : List AskedAt) → (closed : ℕ → Bool) → List Unit → (number : ℕ) → UnitId → EndState → Type 0
HasDealt told put closed units number unit queue = IfSome (slice_get units number)
    (λ u. AreDealt (told_to told unit) queue.last_session queue.taken u.waiting u.pending.items (is_ended u.line) (record { put = put; closed = closed }))

-- Unless a send of each session so far may have found the client's queue closed: the unit takes its own queue for registered exactly where
-- it is, and none found the client's closed between these states of the end.
abbrev pub KnowsSends : (agrees : Type 0) → (shared : Bool) → (old new : EndState) → (closed : ℕ → Bool) → Type 0
KnowsSends agrees shared old new closed = (session : ℕ) → session ≤ new.last_session → closed session ≡ false → agrees × ¬ MeetsClosed shared old new
