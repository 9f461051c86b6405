-- What the lines of a LAN unit say of its own region, and what the trace shows of the strokes there.
use Rattle.std.specs.Prelude.{◌≡◌, ◌⊎◌, ◌<◌, nat_lt, ℕ, true, false, IfSome, List, Option, Some, None, if◌then◌else◌, map}
use Rattle.std.specs.List.{Contains, slice_get}
use Rattle.vio_num.specs.declared.names.UnitId.{UnitId}
use Rattle.boot_text.specs.declared.plan.Line.{Line}
use Rattle.boot_text.specs.declared.plan.Partition.{Partition}
use Rattle.page_slots.specs.Stroke.{StrokeValue}
use Rattle.tce_window.specs.Strokes.{with_strokes}
use Rattle.unit_region.specs.Marks.{step_wrote}
use Rattle.unit_region.specs.RegionLines.{IsFront, IsFrontOn, IsOn, RegionSeen, StepTold, region_seen, written_by}
use Rattle.unit_region.specs.declared.step.Step.{Step}
use Rattle.vio_trace.specs.declared.rows.LogRow.{LogRow}
use Rattle.vio_trace.specs.declared.rows.Trace.{Trace}
use Rattle.lan_script.specs.Regions.{RegionGrows, strokes_at}
use Rattle.lan_script.specs.Seats.{is_in_region, seat_at}
use Rattle.lan_script.specs.Units.{LanValue}
use Rattle.lan_script.specs.declared.seat.PortSeat.{PortSeat}
pub use Rattle.vcpu_run.specs.Moments.{AreInTurn, LinesTold}
use Rattle.vcpu_run.specs.Ports.{ports_of}
use Rattle.vcpu_run.specs.Settled.{script_of}
use Rattle.vcpu_run.specs.Shown.{pages_at, records_of, stroke_value, strokes_on}

-- what a trace shows of a unit's region
abbrev pub region_shown : Trace → UnitId → RegionSeen
region_shown trace unit = record {
  stroke_at = λ page stroke. Contains (map stroke_value (strokes_on trace unit page)) stroke;
  front_at = λ page front. IsFront front (Some (map stroke_value (strokes_on trace unit page)));
}

-- the strokes that a trace shows of a region of so many pages
abbrev pub strokes_shown : Trace → (pages : ℕ) → UnitId → ℕ → Option (List StrokeValue)
strokes_shown trace pages unit page = if nat_lt page pages then Some (map stroke_value (strokes_on trace unit page)) else None

-- the lines of each LAN unit of a plan say what was so of its region as they ended, whatever lines its partition has
abbrev pub RegionsAreTold : List Partition → Trace → Type 0
RegionsAreTold partitions trace = (unit : UnitId) (seat : PortSeat) → seat_at (ports_of partitions) unit ≡ Some seat
    → LinesTold (strokes_shown trace (pages_at partitions unit) unit) seat.pages unit (script_of partitions unit.partition) (records_of trace unit.partition)

-- while a run goes on: a step of a line at a unit, and the lines that ended
abbrev pub StepShown : UnitId → Line → LanValue → Step → Type 0
StepShown unit line lan step =
    IfSome (seat_at lan.seats unit) (λ seat. StepTold (region_seen (strokes_at lan unit)) seat.pages unit line.number line.verb step)

abbrev pub KeepsTold : List Line → List LogRow → LanValue → UnitId → Type 0
KeepsTold lines rows lan unit =
    IfSome (seat_at lan.seats unit) (λ seat. LinesTold (strokes_at lan unit) seat.pages unit lines rows)

-- A line of the unit that has a record has this number.
pub record IsLogged (unit : UnitId) (lines : List Line) (rows : List LogRow) (mark : ℕ) : Type 0 where
  pub place : ℕ
  pub line : Line
  pub row : LogRow
  pub there : slice_get lines place ≡ Some line
  pub has_row : slice_get rows place ≡ Some row
  pub own : line.unit ≡ unit.unit
  pub number : line.number ≡ mark

-- each stroke that a LAN unit laid in its own region bears the number of one of its lines that have a record
abbrev pub StrokesAreLogged : List Partition → Trace → Type 0
StrokesAreLogged partitions trace = (unit : UnitId) (seat : PortSeat) → seat_at (ports_of partitions) unit ≡ Some seat → (page : ℕ) → page < pages_at partitions unit
    → (stroke : StrokeValue) → Contains (map stroke_value (strokes_on trace unit page)) stroke → stroke.name.who ≡ unit
    → IsLogged unit (script_of partitions unit.partition) (records_of trace unit.partition) stroke.name.mark

-- The current line is one of the unit, with this number, and not one in its own region: such a line writes as it ends.
pub record IsCurrent (unit : UnitId) (lines : List Line) (at mark : ℕ) : Type 0 where
  pub line : Line
  pub there : slice_get lines at ≡ Some line
  pub own : line.unit ≡ unit.unit
  pub number : line.number ≡ mark
  pub apart : is_in_region line.verb ≡ false

-- while a run goes on, it may be the current line's
abbrev pub KeepsLogged : List Line → List LogRow → (at : ℕ) → LanValue → UnitId → Type 0
KeepsLogged lines rows at lan unit = (page : ℕ) (stroke : StrokeValue) → IsOn stroke (strokes_at lan unit page) → stroke.name.who ≡ unit
    → IsLogged unit lines rows stroke.name.mark ⊎ IsCurrent unit lines at stroke.name.mark

-- No stroke of a unit's region is gone, and it laid none there itself.
pub record RegionKept (unit : UnitId) (old new : LanValue) : Type 0 where
  pub grows : RegionGrows unit old new
  pub own : (page : ℕ) → IsFrontOn unit (λ mark. ⊥) (strokes_at old unit page) (strokes_at new unit page)

-- the same of every unit
abbrev pub RegionsKept : (old new : LanValue) → Type 0
RegionsKept old new = (unit : UnitId) → RegionKept unit old new

-- no stroke of a unit's region is gone, and each that it laid there itself bears the number of a line
abbrev pub LaysLogged : UnitId → (mark : ℕ) → (old new : LanValue) → Type 0
LaysLogged unit mark old new = (page : ℕ) → IsFrontOn unit (λ m. m ≡ mark) (strokes_at old unit page) (strokes_at new unit page)

-- a step of a line in the unit's own region lays there what the line writes as it ends, and nothing before
abbrev pub StepWrites : UnitId → Line → (old new : LanValue) → Step → Type 0
StepWrites unit line old new step = is_in_region line.verb ≡ true → (page : ℕ)
    → strokes_at new unit page ≡ with_strokes (strokes_at old unit page) (step_wrote unit line.number (written_by line.verb) step page)
