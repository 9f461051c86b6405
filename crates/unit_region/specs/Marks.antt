-- Which strokes lines and calls in a unit's own region lay, where nobody else has a hand in it.
use Rattle.std.specs.Prelude.{◌≡◌, ℕ, Bool, true, false, List, [], ◌∷◌, Option, Some, None, Result, Ok, Err, length, if◌then◌else◌}
use Rattle.vio_num.specs.declared.memory.NoMemory.{NoMemory}
use Rattle.vio_num.specs.declared.names.UnitId.{UnitId}
use Rattle.page_slots.specs.Stroke.{StrokeValue}
use Rattle.tce_window.specs.PortState.{PortState}
use Rattle.tce_window.specs.Region.{stroke_on, touches}
use Rattle.tce_window.specs.Strokes.{with_strokes}
use Rattle.vio_trace.specs.declared.outcome.Outcome.{Outcome}
use Rattle.vio_trace.specs.declared.outcome.Outcome.TheVariants as outcomes
use Rattle.unit_region.specs.RegionLines.{IsFrontOn, Placed}
use Rattle.unit_region.specs.declared.step.Step.{Step}
use Rattle.unit_region.specs.declared.step.Step.TheVariants as steps

-- no page has another stroke than before
abbrev pub LaysNoStroke : (is_shared : Bool) → (old new : PortState) → Type 0
LaysNoStroke is_shared old new = is_shared ≡ false → (p : ℕ) → new.strokes p ≡ old.strokes p

-- a page has the strokes that it had, and of the unit's own behind them only such of this mark
abbrev pub LaysUnder : (is_shared : Bool) → (mark : ℕ) → (old new : PortState) → Type 0
LaysUnder is_shared mark old new = is_shared ≡ false → (p : ℕ) → IsFrontOn old.place.unit (λ m. m ≡ mark) (old.strokes p) (new.strokes p)

-- the stroke of bytes that are placed at an address on a page, if they touch it
abbrev pub placed_stroke : UnitId → (mark : ℕ) → Placed → (page : ℕ) → List StrokeValue
placed_stroke unit mark placed page =
    if touches placed.at (length placed.bytes) page then stroke_on (record { who = unit; mark = mark }) placed.at placed.bytes page ∷ [] else []

-- whether a line that ended so did what it was asked
abbrev pub has_done : Outcome → Bool
has_done outcomes.Done = true
has_done _ = false

-- what a line that ended so wrote on a page of its own region: nothing but where it is done
abbrev pub wrote_on : UnitId → (mark : ℕ) → Option Placed → Outcome → (page : ℕ) → List StrokeValue
wrote_on unit mark (Some placed) outcome page = if has_done outcome then placed_stroke unit mark placed page else []
wrote_on unit mark None outcome page = []

-- what a step of a line wrote: nothing while the line goes on
abbrev pub step_wrote : UnitId → (mark : ℕ) → Option Placed → Step → (page : ℕ) → List StrokeValue
step_wrote unit mark placed (steps.Ends outcome) page = wrote_on unit mark placed outcome page
step_wrote unit mark placed (steps.Waits did) page = []

abbrev pub result_wrote : UnitId → (mark : ℕ) → Option Placed → Result Step NoMemory → (page : ℕ) → List StrokeValue
result_wrote unit mark placed (Ok step) page = step_wrote unit mark placed step page
result_wrote unit mark placed (Err memory) page = []

-- each page has the strokes that it had, and behind them what the line wrote there
abbrev pub LaysJust : (is_shared : Bool) → (old new : PortState) → (mark : ℕ) → Option Placed → Result Step NoMemory → Type 0
LaysJust is_shared old new mark placed result =
    is_shared ≡ false → (p : ℕ) → new.strokes p ≡ with_strokes (old.strokes p) (result_wrote old.place.unit mark placed result p)
