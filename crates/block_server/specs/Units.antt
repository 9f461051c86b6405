-- The units of a server between their turns, and what a turn adds to the answers of one.
use Rattle.std.specs.Prelude.{◌≡◌, ℕ, All, Bool, List, Option, None, Some, slice_get}
use Rattle.crq_session.specs.EndState.{EndState}
use Rattle.vio_num.specs.declared.history.Grant.{Grant}
use Rattle.vio_num.specs.declared.names.UnitId.{UnitId}
use Rattle.vio_num.specs.declared.history.Served.{Served as ServedRow}
use Rattle.block_server.specs.Answering.{AnswersMore, OnlyRowsOf}
use Rattle.block_server.specs.Causes.{Told}
use Rattle.block_server.specs.Receipts.{GrantsMany}
use Rattle.block_server.specs.Serving.{IsServing, Terms, desk_of, terms_of}
use Rattle.block_server.specs.declared.records.Records.{Records}
use Rattle.block_server.specs.declared.unit.Unit.{Unit}

-- A unit bears its number, and its desk is in order, on these terms.
pub record IsUnitOf (terms : Terms) (partition number : ℕ) (unit : Unit) (history : List ServedRow) : Type 0 where
  pub id : unit.id ≡ record { partition = partition; unit = number }
  pub serving : IsServing terms (desk_of unit) history

-- Each unit of a server does.
abbrev pub AreServing : (terms : Terms) (partition : ℕ) → List Unit → List ServedRow → Type 0
AreServing terms partition units history = (number : ℕ) (unit : Unit) → slice_get units number ≡ Some unit → IsUnitOf terms partition number unit history

-- how many requests a login of the unit of this number grants
abbrev pub granted_by : Option Unit → ℕ
granted_by None = 0
granted_by (Some unit) = unit.logins.granted

abbrev pub grant_of : List Unit → (number : ℕ) → ℕ
grant_of units number = granted_by (slice_get units number)

-- each unit's logins grant so many
abbrev pub AreGranting : ℕ → List Unit → Type 0
AreGranting granted units = All (λ unit. unit.logins.granted ≡ granted) units

-- Each login that these units grant, and each that a line says was granted, grants so many requests.
pub record GrantEach (granted : ℕ) (units : List Unit) (lines : List Grant) : Type 0 where
  pub each : AreGranting granted units
  pub said : All (GrantsMany granted) lines

-- Each response that was put is that of one row more of the unit which has its answer: in the order of the rows, with the
-- answer's length and the request's tag.
abbrev pub AnswersItsRows : UnitId → (queue queue' : EndState) → (records records' : Records) → Type 0
AnswersItsRows unit queue queue' records records' = AnswersMore unit queue.sent queue'.sent records.history.items records'.history.items

-- Only rows of this unit changed or came.
abbrev pub ServesItsRows : UnitId → (records records' : Records) → Type 0
ServesItsRows unit records records' = OnlyRowsOf unit records.history.items records'.history.items

-- Each unit is in order, on a disk of so many blocks and by what the units were told.
abbrev pub AreInOrder : (Told → Bool) → (size partition : ℕ) → List Unit → Records → Type 0
AreInOrder told size partition units records = AreServing (terms_of told size) partition units records.history.items
