-- What lines in a LAN unit's own region say of it, and that no stroke on any region's pages is gone.
use Rattle.std.specs.Prelude.{◌≡◌, ℕ, true, IfSome, List, Option, ⊤}
use Rattle.vio_num.specs.declared.names.UnitId.{UnitId}
use Rattle.boot_text.specs.declared.verb.Verb.{Verb}
use Rattle.page_slots.specs.Stroke.{StrokeValue}
use Rattle.tce_window.specs.Port.{Grows}
use Rattle.tce_window.specs.Strokes.{with_strokes}
use Rattle.unit_region.specs.Marks.{wrote_on}
use Rattle.unit_region.specs.RegionLines.{IsFrontOn, IsTold, region_seen, written_by}
use Rattle.lan_script.specs.Seats.{seat_at}
use Rattle.lan_script.specs.Units.{LanValue}
use Rattle.lan_script.specs.Windows.{facts_in}
use Rattle.lan_script.specs.declared.lines.PortStep.{PortStep}
use Rattle.lan_script.specs.declared.lines.PortStep.TheVariants as steps

-- the strokes on the pages of a unit's region
abbrev pub strokes_at : LanValue → UnitId → ℕ → Option (List StrokeValue)
strokes_at lan unit = (facts_in lan.places unit).strokes

-- each page of a unit's region has the strokes that it had, and others behind them, if any
abbrev pub RegionGrows : UnitId → (old new : LanValue) → Type 0
RegionGrows unit old new = (page : ℕ) → Grows true (strokes_at old unit page) (strokes_at new unit page)

-- the same of every unit
abbrev pub RegionsGrow : (old new : LanValue) → Type 0
RegionsGrow old new = (unit : UnitId) → RegionGrows unit old new

-- a step that ends its line says what is so of the unit's region, which has as many pages as its seat, and there is what it says
abbrev pub PortTold : UnitId → (mark : ℕ) → Verb → PortStep → LanValue → Type 0
PortTold unit mark verb (steps.Ends outcome) lan =
    IfSome (seat_at lan.seats unit) (λ seat. IsTold (region_seen (strokes_at lan unit)) seat.pages unit mark verb outcome)
PortTold unit mark verb (steps.Waits did done) lan = ⊤

-- a page of a unit's region has the strokes that it had, and of those behind them the mark of each of the unit's own is so
abbrev pub LaysMarks : (allowed : UnitId → ℕ → Type 0) → (old new : LanValue) → Type 0
LaysMarks allowed old new = (unit : UnitId) (page : ℕ) → IsFrontOn unit (allowed unit) (strokes_at old unit page) (strokes_at new unit page)

-- it bears the mark of a line of this unit
abbrev pub IsLineMark : UnitId → (mark : ℕ) → UnitId → ℕ → Type 0
IsLineMark own mark unit m = (unit ≡ own) × (m ≡ mark)

abbrev pub LaysLine : UnitId → (mark : ℕ) → (old new : LanValue) → Type 0
LaysLine own mark old new = LaysMarks (IsLineMark own mark) old new

-- there is none
abbrev pub IsNoMark : UnitId → ℕ → Type 0
IsNoMark unit m = ⊥

abbrev pub LaysNoOwn : (old new : LanValue) → Type 0
LaysNoOwn old new = LaysMarks IsNoMark old new

-- a step of a line in its unit's own region lays there what the line writes as it ends, and nothing before
abbrev pub PortLays : UnitId → (mark : ℕ) → Verb → PortStep → (old new : LanValue) → Type 0
PortLays unit mark verb (steps.Ends outcome) old new =
    (page : ℕ) → strokes_at new unit page ≡ with_strokes (strokes_at old unit page) (wrote_on unit mark (written_by verb) outcome page)
PortLays unit mark verb (steps.Waits did done) old new = (page : ℕ) → strokes_at new unit page ≡ strokes_at old unit page
