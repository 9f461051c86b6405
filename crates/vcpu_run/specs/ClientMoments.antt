-- What lines in a client's own region leave of it and say, and what its pages had as each line ended.
use Rattle.std.specs.Prelude.{◌≡◌, ℕ, Bool, true, false, IfOk, List, Ok, Result, Some}
use Rattle.std.specs.List.{slice_get}
use Rattle.vio_num.specs.declared.memory.NoMemory.{NoMemory}
use Rattle.boot_text.specs.declared.plan.Line.{Line}
use Rattle.tce_window.specs.PlainPort.{known_of}
use Rattle.tce_window.specs.PortState.{PortState}
use Rattle.unit_region.specs.Marks.{LaysJust}
use Rattle.unit_region.specs.RegionLines.{StepTold, region_seen, written_by}
use Rattle.unit_region.specs.declared.step.Step.{Step}
use Rattle.lan_script.specs.Seats.{is_in_region}
use Rattle.vcpu_run.specs.declared.pair.Pair.{Pair}
use Rattle.vcpu_run.specs.declared.unit_seat.Seat.{Seat}
use Rattle.vcpu_run.specs.declared.unit_seat.Seat.TheVariants as sits

-- A step of a line in a client's own region lays just what it says, and what it says is so of what the pages hold then.
pub record StepsInRegion (is_shared : Bool) (line : Line) (old new : PortState) (step : Step) : Type 0 where
  pub lays : LaysJust is_shared old new line.number (written_by line.verb) (Ok step)
  pub tells : StepTold (region_seen new.strokes) old.place.size old.place.unit line.number line.verb step

-- so is it of a step that did not run out of memory, where its line is one in the region
abbrev pub RegionStepped : (is_shared : Bool) → Line → (old new : PortState) → Result Step NoMemory → Type 0
RegionStepped is_shared line old new result = is_in_region line.verb ≡ true → IfOk result (StepsInRegion is_shared line old new)

-- the same at a pair where a client sits, at the pair of a seat, and at that of the client of a line's unit
abbrev pub PairStepped : Line → (old new : Pair) → Result Step NoMemory → Type 0
PairStepped line old new result = RegionStepped false line (known_of old.window) (known_of new.window) result

abbrev pub SeatStepped : (seat : ℕ) → Line → (old new : List Pair) → Result Step NoMemory → Type 0
SeatStepped seat line old new result =
    (before after : Pair) → slice_get old seat ≡ Some before → slice_get new seat ≡ Some after → PairStepped line before after result

abbrev pub LineStepped : List Seat → Line → (old new : List Pair) → Result Step NoMemory → Type 0
LineStepped seats line old new result = (k : ℕ) → slice_get seats line.unit ≡ Some (sits.Client k) → SeatStepped k line old new result
