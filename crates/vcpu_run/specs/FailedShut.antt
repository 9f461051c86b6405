-- The clients of a partition that failed: their queues are not registered, and each login of their server units is ended.
use Rattle.std.specs.Prelude.{◌≡◌, ℕ, ◌<◌, ◌≤◌, List, Option, Some, None, length, true}
use Rattle.std.specs.List.{slice_get}
use Rattle.vio_num.specs.declared.history.Grant.{Grant}
use Rattle.vio_num.specs.declared.history.Grant.TheVariants.{Granted, Lapsed}
use Rattle.vio_num.specs.declared.history.Lapse.{Lapse}
use Rattle.vio_num.specs.declared.names.UnitId.{UnitId}
use Rattle.boot_text.specs.declared.plan.Line.{Line}
use Rattle.vio_trace.specs.declared.rows.LogRow.{LogRow}
use Rattle.vio_trace.specs.declared.rows.Trace.{Trace}
use Rattle.block_server.specs.Makers.{same_unit}
use Rattle.vcpu_run.specs.declared.pair.Pair.{Pair}
use Rattle.vcpu_run.specs.declared.script.Script.{Script}
use Rattle.vcpu_run.specs.declared.unit_seat.Seat.{Seat}
use Rattle.vcpu_run.specs.declared.unit_seat.Seat.TheVariants as sits
use Rattle.vcpu_run.specs.EventsMade.{times_open}
use Rattle.vcpu_run.specs.Works.{fails}

-- whether the client's queue is registered, where there is a pair, as a number
abbrev pub opens_if : Option Pair → ℕ
opens_if None = 0
opens_if (Some pair) = times_open pair

-- no queue of a client is registered that was not
abbrev pub AllStayShut : List Pair → List Pair → Type 0
AllStayShut old new = (k : ℕ) → opens_if (slice_get new k) ≤ opens_if (slice_get old k)

-- the queue of the client that sits here, if one does, is not registered
abbrev pub IsShutAt : Seat → List Pair → Type 0
IsShutAt seat pairs = (k : ℕ) → seat ≡ sits.Client k → opens_if (slice_get pairs k) ≡ 0

-- so it is of the first of these seats
abbrev pub AreShutTo : (count : ℕ) → List Seat → List Pair → Type 0
AreShutTo count seats pairs = (unit k : ℕ) → unit < count → slice_get seats unit ≡ Some (sits.Client k) → opens_if (slice_get pairs k) ≡ 0

-- and of all
abbrev pub SeatsShut : List Seat → List Pair → Type 0
SeatsShut seats pairs = (unit k : ℕ) → slice_get seats unit ≡ Some (sits.Client k) → opens_if (slice_get pairs k) ≡ 0

-- Of the first of these lines, as many as ended, one fails the partition.
pub record HasFailed (lines : List Line) (ended : ℕ) : Type 0 where
  pub at : ℕ
  pub line : Line
  pub there : slice_get lines at ≡ Some line
  pub failing : fails line.verb ≡ true
  pub below : at < ended

abbrev pub IsFailed : Script → Type 0
IsFailed script = HasFailed script.lines.now (length script.logs.items)

-- while a line is left, none that ended fails the partition
abbrev pub FailsLast : Script → Type 0
FailsLast script = (line : Line) → slice_get script.lines.now script.at ≡ Some line → ¬ (IsFailed script)

-- A line that fails the partition ends last; where one ended, no client's queue is registered.
pub record IsDown (pairs : List Pair) (script : Script) : Type 0 where
  pub going : FailsLast script
  pub shut : IsFailed script → SeatsShut script.seats.items pairs

-- Behind this place among lines on logins one ends this login of a unit.
pub record HasEndBehind (unit : UnitId) (session login : ℕ) (lines : List Grant) (place : ℕ) : Type 0 where
  pub at : ℕ
  pub later : place < at
  pub cause : Lapse
  pub outstanding : ℕ
  pub granted : ℕ
  pub of : UnitId
  pub there : slice_get lines at ≡ Some (Lapsed of session login cause outstanding granted)
  pub unit_is : same_unit of unit ≡ true

-- each login that a line grants in a session of this unit is ended by a later one
abbrev pub AreAllEnded : UnitId → List Grant → Type 0
AreAllEnded unit lines = (place session login number credits : ℕ) → 1 ≤ session
    → slice_get lines place ≡ Some (Granted unit session login number credits) → HasEndBehind unit session login lines place

-- Where a line that fails the partition has a record, each login of the client's server unit is ended.
abbrev pub AreFailedTold : Trace → (server : UnitId) → List Line → List LogRow → Type 0
AreFailedTold trace server lines rows = (i : ℕ) (line : Line) (row : LogRow) → slice_get lines i ≡ Some line → slice_get rows i ≡ Some row
    → fails line.verb ≡ true → ∥ AreAllEnded server trace.grants ∥₁
