-- Each row of a unit has its answer at last, or a line says why not: which answers a unit still owes between the steps of a turn.
use Rattle.std.specs.Prelude.{◌≡◌, ◌⊎◌, ◌++◌, ◌≤◌, ℕ, Bool, true, false, List, [], ◌∷◌, Some, None, IfSome, length, map, slice_get}
use Rattle.std.specs.List.{Contains}
use Rattle.vio_num.specs.declared.entry.Entry.{Entry as QueueEntry}
use Rattle.vio_num.specs.declared.history.Grant.{Grant}
use Rattle.vio_num.specs.declared.history.Grant.TheVariants.{Granted, Lapsed}
use Rattle.vio_num.specs.declared.history.Lapse.{Lapse}
use Rattle.vio_num.specs.declared.history.Served.{Served as ServedRow}
use Rattle.vio_num.specs.declared.names.UnitId.{UnitId}
use Rattle.vio_num.specs.Entry.{first_byte}
use Rattle.crq_session.specs.EndState.{EndState}
use Rattle.crq_session.specs.Answered.{received_now, taken_now}
use Rattle.block_server.specs.Answering.{has_bytes}
use Rattle.block_server.specs.Judged.{AreKept, Books, Judged, gets_row, is_logout}
pub use Rattle.block_server.specs.Judged.{row_in}
use Rattle.block_server.specs.Makers.{same_unit}
use Rattle.block_server.specs.Books.{books_at}
use Rattle.block_server.specs.Receipts.{IsIntake, Receipt, intake_of, is_ended, standing_of}
use Rattle.block_server.specs.SiteState.{SiteState}
use Rattle.block_server.specs.declared.records.Records.{Records}
use Rattle.block_server.specs.declared.request.Request.{Request}
use Rattle.block_server.specs.declared.service.Stage.{Stage}
use Rattle.block_server.specs.declared.unit.Unit.{Unit}

-- THE CLIENT IS GONE ------------------------------------------------------------------------------

-- A transport event was put into the own queue in its session, and is not taken yet (LoPAR, "Transport Events").
pub record IsEventAhead (queue : EndState) : Type 0 where
  pub number : ℕ
  pub event : QueueEntry
  pub there : slice_get (received_now queue) number ≡ Some event
  pub ahead : length (taken_now queue) ≤ number
  pub says : first_byte event ≡ 0xFF

-- The partner keeps one that is still to be put.
pub record IsEventKept (queue : EndState) : Type 0 where
  pub event : QueueEntry
  pub kept : queue.place.partner_kept ≡ Some event
  pub says : first_byte event ≡ 0xFF

-- An event that says that the partner is gone is on its way to the own queue, which is registered.
pub record IsLossAhead (queue : EndState) : Type 0 where
  pub registered : queue.registered ≡ true
  pub comes : IsEventAhead queue ⊎ IsEventKept queue

-- Behind the grant of the login a line says that its session lost its partner, or ended for a cause: anything but a logout.
pub record IsCutOff (unit : UnitId) (grants : List Grant) (session login : ℕ) : Type 0 where
  pub before : List Grant
  pub after : List Grant
  pub parts : grants ≡ before ++ after
  pub number : ℕ
  pub credits : ℕ
  pub granted : Contains before (Granted unit session login number credits)
  pub of : ℕ
  pub cause : Lapse
  pub outstanding : ℕ
  pub limit : ℕ
  pub ended : Contains after (Lapsed unit session of cause outstanding limit)
  pub other : is_logout cause ≡ false

-- WHAT A UNIT OWES --------------------------------------------------------------------------------

-- what of a row says whose it is, and whether it has its answer
pub record RowState : Type 0 where
  pub unit : UnitId
  pub session : ℕ
  pub login : ℕ
  pub answered : Bool

abbrev pub row_state : ServedRow → RowState
row_state row = record { unit = row.unit; session = row.session; login = row.login; answered = has_bytes row.answer }

abbrev pub row_states : List ServedRow → List RowState
row_states rows = map row_state rows

-- what of a unit says which answers it owes
pub record Owing : Type 0 where
  pub id : UnitId
  -- the login that is on, or 0
  pub current : ℕ
  pub stage : Stage
  pub pending : List Request
  -- whether nothing more is taken in the session
  pub ended : Bool
  pub queue : EndState
  pub rows : List RowState
  pub grants : List Grant

-- The row is of a login that was granted in the present session, which goes on: its answer is still to be put, or the client
-- is gone.
pub record IsAwaited (owing : Owing) (at : ℕ) (row : RowState) : Type 0 where
  pub number : ℕ
  pub credits : ℕ
  pub granted : Contains owing.grants (Granted owing.id row.session row.login number credits)
  pub session : row.session ≡ owing.queue.last_session
  pub going : owing.ended ≡ false
  pub why : (row_in owing.stage ≡ Some at) ⊎ IsLossAhead owing.queue

-- The row in service is there, and the oldest request is a command or a task.
pub record IsRowInService (owing : Owing) (at : ℕ) : Type 0 where
  pub row : RowState
  pub there : slice_get owing.rows at ≡ Some row
  pub front : Request
  pub rest : List Request
  pub parts : owing.pending ≡ front ∷ rest
  pub gets : gets_row front.order ≡ true

-- Each row of the unit has its answer, is cut off, or is awaited; and under a login whose client is gone an event says so.
pub record HasAnswers (owing : Owing) : Type 0 where
  pub each : (at : ℕ) (row : RowState) → slice_get owing.rows at ≡ Some row → same_unit row.unit owing.id ≡ true → row.answered ≡ false
      → IsCutOff owing.id owing.grants row.session row.login ⊎ IsAwaited owing at row
  pub serving : (at : ℕ) → row_in owing.stage ≡ Some at → IsRowInService owing at
  pub owed : 1 ≤ owing.current → owing.queue.place.partner_registered ≡ false → IsLossAhead owing.queue
  pub goes_on : 1 ≤ owing.current → (owing.queue.registered ≡ true) × (owing.ended ≡ false)

-- Each row of the unit has its answer, or is cut off.
abbrev pub AreCutOff : UnitId → List RowState → List Grant → Type 0
AreCutOff id rows grants = (at : ℕ) (row : RowState) → slice_get rows at ≡ Some row → same_unit row.unit id ≡ true → row.answered ≡ false
    → IsCutOff id grants row.session row.login

-- THE STEPS OF A TURN -----------------------------------------------------------------------------

abbrev pub owing_of : Unit → EndState → Records → Owing
owing_of unit queue records = record {
  id = unit.id;
  current = unit.logins.current;
  stage = unit.service.stage;
  pending = unit.pending.items;
  ended = is_ended unit.line;
  queue = queue;
  rows = row_states records.history.items;
  grants = records.grants.items;
}

-- What a part of a turn leaves, where no other has a hand in the link.
abbrev pub KeepsAnswers : (shared : Bool) → (unit unit' : Unit) → (old new : SiteState) → (records records' : Records) → Type 0
KeepsAnswers shared unit unit' old new records records' =
    shared ≡ false → HasAnswers (owing_of unit old.queue records) → HasAnswers (owing_of unit' new.queue records')

-- the same of a part that goes by the unit's books
abbrev pub KeepsAnswersBy : Books → (shared : Bool) → (unit unit' : Unit) → (old new : SiteState) → (records records' : Records) → Type 0
KeepsAnswersBy books shared unit unit' old new records records' =
    (judged : List Judged) → AreKept books judged → KeepsAnswers shared unit unit' old new records records'

-- and of a turn as a whole, of a unit whose intake and books are in order
abbrev pub KeepsAnswersAll : (shared : Bool) → (unit unit' : Unit) → (old new : SiteState) → (records records' : Records) → Type 0
KeepsAnswersAll shared unit unit' old new records records' =
    unit.id ≡ old.own.place.unit → (receipts : List Receipt) → IsIntake (intake_of (standing_of unit) old records.grants.items) receipts
    → KeepsAnswersBy (books_at unit old records) shared unit unit' old new records records'

-- The own queue and the partner's are registered.
pub record IsUp (queue : EndState) : Type 0 where
  pub own : queue.registered ≡ true
  pub partner : queue.place.partner_registered ≡ true

-- What a part of the service of the oldest request does to the rows: nothing that is seen here, or its row comes.
pub record BeginsRow (id : UnitId) (session : ℕ) (request : Request) (stage stage' : Stage) (rows rows' : List ServedRow) : Type 0 where
  pub none : row_in stage ≡ None
  pub at : row_in stage' ≡ Some (length rows)
  pub gets : gets_row request.order ≡ true
  pub adds : row_states rows' ≡ row_states rows ++ record { unit = id; session = session; login = request.login; answered = false } ∷ []

abbrev pub MovesRow : UnitId → (session : ℕ) → Request → (stage stage' : Stage) → (rows rows' : List ServedRow) → Type 0
MovesRow id session request stage stage' rows rows' =
    ((row_in stage' ≡ row_in stage) × (row_states rows' ≡ row_states rows)) ⊎ BeginsRow id session request stage stage' rows rows'

-- BETWEEN TURNS -----------------------------------------------------------------------------------

-- a unit of this name, over its queue, the rows and the lines
abbrev pub owing_seen : Unit → UnitId → EndState → List ServedRow → List Grant → Owing
owing_seen unit id queue history grants = record {
  id = id;
  current = unit.logins.current;
  stage = unit.service.stage;
  pending = unit.pending.items;
  ended = is_ended unit.line;
  queue = queue;
  rows = row_states history;
  grants = grants;
}

-- The unit of this number, of this name, owes no other answers than these.
abbrev pub HaveAnswers : List Unit → (unit : ℕ) → UnitId → EndState → List ServedRow → List Grant → Type 0
HaveAnswers units unit id queue history grants = IfSome (slice_get units unit) (λ u. HasAnswers (owing_seen u id queue history grants))

-- Units that served nothing owe none, whatever their names and their queues are.
abbrev pub OweNone : List Unit → Type 0
OweNone units = (number : ℕ) → (id : UnitId) → (queue : EndState) → HaveAnswers units number id queue [] []

-- What the client's side leaves of a unit's queue: its session and its registration, and an event that is on its way. Where the
-- client is gone it was, or an event says so.
pub record SeesAnswers (queue queue' : EndState) : Type 0 where
  pub session : queue'.last_session ≡ queue.last_session
  pub registered : queue'.registered ≡ queue.registered
  pub ahead : IsLossAhead queue → IsLossAhead queue'
  pub gone : queue.registered ≡ true → queue'.place.partner_registered ≡ false → (queue.place.partner_registered ≡ false) ⊎ IsLossAhead queue'

-- A row of the unit has its answer, or is cut off.
abbrev pub IsGiven : UnitId → List Grant → ServedRow → Type 0
IsGiven unit grants row = same_unit row.unit unit ≡ true → (has_bytes row.answer ≡ true) ⊎ IsCutOff unit grants row.session row.login
