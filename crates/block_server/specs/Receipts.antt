-- Intake: each SRP entry that a unit took has one copy that fetched its information unit, or ended its session.
use Rattle.std.specs.Prelude.{◌≡◌, ◌<◌, ◌≤◌, ◌||◌, ◌++◌, ℕ, Bool, true, false, All, List, [], ◌∷◌, Option, Some, None, IfSome, MatchOption, length, map, filter, ⊤}
use Rattle.std.specs.List.{AllPairs, Contains, filter_map, slice_get}
use Rattle.crq_ring.specs.Sessions.{of_session}
use Rattle.crq_ring.specs.declared.rows.PipeRow.{PipeRow}
use Rattle.crq_session.specs.EndState.{EndState}
use Rattle.crq_session.specs.declared.handshake.Handshake.{Handshake}
use Rattle.crq_session.specs.declared.handshake.Handshake.TheVariants.{Down}
use Rattle.rdma_copy.specs.declared.copy.CopyRecord.{CopyRecord}
use Rattle.tce_window.specs.PortState.{PortState}
use Rattle.vio_num.specs.Entry.{is_srp_entry, iu_address, iu_length}
use Rattle.vio_num.specs.declared.entry.Entry.{Entry}
use Rattle.vio_num.specs.declared.history.Grant.{Grant}
use Rattle.vio_num.specs.declared.history.Grant.TheVariants.{Granted, Lapsed}
use Rattle.vio_num.specs.declared.history.Lapse.{Lapse}
use Rattle.vio_num.specs.declared.history.Lapse.TheVariants.{Logout, Lost}
use Rattle.vio_num.specs.declared.names.UnitId.{UnitId}
use Rattle.block_server.specs.Advances.{Advances}
use Rattle.block_server.specs.Moves.{Fetches, is_intake}
use Rattle.block_server.specs.SiteState.{SameWindows, SiteState}
use Rattle.block_server.specs.declared.line.Line.{Line}
use Rattle.block_server.specs.declared.request.Arrival.{Arrival}
use Rattle.block_server.specs.declared.unit.Unit.{Unit}

-- an SRP entry that was taken: its place, the copy that fetched its information unit, if one did, and the bytes
pub record Receipt : Type 0 where
  pub session : ℕ
  pub number : ℕ
  pub entry : Entry
  pub copy : Option CopyRecord
  pub bytes : List ℕ

abbrev pub row_of : Receipt → PipeRow
row_of receipt = record { session = receipt.session; entry = receipt.entry }

abbrev pub copy_of : Receipt → Option CopyRecord
copy_of receipt = receipt.copy

-- the entry that waits to be fetched, as a row of the present session
abbrev pub waiting_rows : ℕ → Option Arrival → List PipeRow
waiting_rows session None = []
waiting_rows session (Some arrival) = record { session = session; entry = arrival.entry } ∷ []

-- the rows of SRP entries
abbrev pub srp_rows : List PipeRow → List PipeRow
srp_rows rows = filter (λ row. is_srp_entry row.entry) rows

-- whether a lapse ends its session
abbrev pub is_fatal : Lapse → Bool
is_fatal Logout = false
is_fatal Lost = false
is_fatal cause = true

-- whether the unit takes its queue for not registered
abbrev pub is_down : Handshake → Bool
is_down Down = true
is_down state = false

-- whether nothing more is taken in the session: it is to be freed, or the queue is not registered
abbrev pub is_ended : Line → Bool
is_ended line = line.closing || is_down line.handshake

-- what of a unit its intake goes by
pub record Standing : Type 0 where
  pub id : UnitId
  -- how many requests a login grants
  pub granted : ℕ
  pub waiting : Option Arrival
  pub ended : Bool

abbrev pub standing_of : Unit → Standing
standing_of unit = record { id = unit.id; granted = unit.logins.granted; waiting = unit.waiting; ended = is_ended unit.line }

-- what a unit's intake is judged by
pub record Intake : Type 0 where
  pub own : PortState
  pub client : PortState
  pub queue : EndState
  pub copies : List CopyRecord
  pub grants : List Grant
  pub waiting : Option Arrival
  -- whether nothing more is taken in the session
  pub ended : Bool

abbrev pub intake_of : Standing → SiteState → List Grant → Intake
intake_of unit site grants = record {
  own = site.own;
  client = site.client;
  queue = site.queue;
  copies = site.copies;
  grants = grants;
  waiting = unit.waiting;
  ended = unit.ended;
}

-- A line says for which cause the unit's session ended.
pub record EndedFor (unit : UnitId) (session : ℕ) (grants : List Grant) : Type 0 where
  pub login : ℕ
  pub cause : Lapse
  pub outstanding : ℕ
  pub granted : ℕ
  pub listed : Contains grants (Lapsed unit session login cause outstanding granted)
  pub fatal : is_fatal cause ≡ true

-- The entry stands at its place among those taken in its session. Its copy moved as many bytes as it names, these, from the
-- address that it names; or it has none, and its session ended.
pub record IsReceived (intake : Intake) (receipt : Receipt) : Type 0 where
  pub there : slice_get (of_session receipt.session intake.queue.taken) receipt.number ≡ Some receipt.entry
  pub long : IfSome receipt.copy (λ copy. length receipt.bytes ≡ iu_length receipt.entry)
  pub fetched : MatchOption receipt.copy (EndedFor intake.own.place.unit receipt.session intake.grants)
      (Fetches intake.own intake.client (iu_address receipt.entry) 0 (iu_length receipt.entry) receipt.bytes)

-- The first receipt has a copy, or the other is of a later session.
abbrev pub GoesOn : Receipt → Receipt → Type 0
GoesOn first other = first.copy ≡ None → first.session < other.session

-- A receipt without a copy is of a session before the present one, or the present one is over.
abbrev pub IsOver : Intake → Receipt → Type 0
IsOver intake receipt = receipt.copy ≡ None → receipt.session ≡ intake.queue.last_session → intake.ended ≡ true

-- There is one receipt for each SRP entry that was taken, in their order, but for the last one while its information unit is
-- still to be fetched; and the unit's intake copies are those of the receipts, in their order.
pub record IsIntake (intake : Intake) (receipts : List Receipt) : Type 0 where
  pub entries : map row_of receipts ++ waiting_rows intake.queue.last_session intake.waiting ≡ srp_rows intake.queue.taken
  pub copies_are : filter_map copy_of receipts ≡ filter (is_intake intake.own.place.unit) intake.copies
  pub each : All (IsReceived intake) receipts
  pub last : AllPairs GoesOn receipts
  pub over : All (IsOver intake) receipts
  pub begun : All (λ receipt. receipt.session ≤ intake.queue.last_session) receipts
  pub waits : IfSome intake.waiting
      (λ arrival. slice_get (of_session intake.queue.last_session intake.queue.taken) arrival.number ≡ Some arrival.entry)
  pub idle : intake.ended ≡ true → intake.waiting ≡ None

-- Receipts came behind those that were.
pub record ReceivesMore (intake : Intake) (receipts : List Receipt) : Type 0 where
  pub more : List Receipt
  pub is : IsIntake intake (receipts ++ more)

-- the unit that a line on a login is of
abbrev pub unit_of : Grant → UnitId
unit_of (Granted unit session login number credits) = unit
unit_of (Lapsed unit session login cause outstanding granted) = unit

-- A line that grants a login grants so many requests.
abbrev pub GrantsMany : ℕ → Grant → Type 0
GrantsMany granted (Granted unit session login number credits) = credits ≡ granted
GrantsMany granted (Lapsed unit session login cause outstanding most) = ⊤

-- Lines came behind those that were, each of this unit, whose logins grant so many requests.
pub record LinesMore (unit : UnitId) (granted : ℕ) (old new : List Grant) : Type 0 where
  pub more : List Grant
  pub added : new ≡ old ++ more
  pub of_unit : All (λ line. unit_of line ≡ unit) more
  pub many : All (GrantsMany granted) more

-- The unit of this number has these receipts.
abbrev pub HasIntake : List Unit → (unit : ℕ) → (own client : PortState) → EndState → List CopyRecord → List Grant → List Receipt → Type 0
HasIntake units unit own client queue copies grants receipts =
    IfSome (slice_get units unit) (λ u. IsIntake (record {
      own = own;
      client = client;
      queue = queue;
      copies = copies;
      grants = grants;
      waiting = u.waiting;
      ended = is_ended u.line;
    }) receipts)

-- What a part of a turn does to a unit's intake.
pub record TakesIn (unit unit' : Standing) (old new : SiteState) (grants grants' : List Grant) : Type 0 where
  pub id : unit'.id ≡ unit.id
  pub granted : unit'.granted ≡ unit.granted
  pub place : new.own.place.unit ≡ old.own.place.unit
  pub lines : LinesMore unit.id unit.granted grants grants'
  pub receipts : unit.id ≡ old.own.place.unit → (receipts : List Receipt) → IsIntake (intake_of unit old grants) receipts
      → ReceivesMore (intake_of unit' new grants') receipts

-- The unit may take the next entry: none waits to be fetched, and its session goes on.
pub record MayTake (unit : Standing) : Type 0 where
  pub none : unit.waiting ≡ None
  pub goes_on : unit.ended ≡ false

-- No unit has an entry that waits to be fetched.
abbrev pub AwaitNone : List Unit → Type 0
AwaitNone units = (number : ℕ) → IfSome (slice_get units number) (λ u. u.waiting ≡ None)

-- The next entry was taken, and has this number in its session.
pub record TakesEntry (old new : SiteState) (number : ℕ) (entry : Entry) : Type 0 where
  pub number_is : number ≡ length (of_session old.queue.last_session old.queue.taken)
  pub taken : new.queue.taken ≡ old.queue.taken ++ record { session = old.queue.last_session; entry = entry } ∷ []
  pub session : new.queue.last_session ≡ old.queue.last_session
  pub windows : SameWindows old new
  pub advances : Advances old new
