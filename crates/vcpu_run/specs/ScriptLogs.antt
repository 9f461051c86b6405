-- What the records of a script say of the regions of its clients, and of its raw calls.
use Rattle.std.specs.Prelude.{◌≡◌, ℕ, List, Some}
use Rattle.std.specs.List.{slice_get}
use Rattle.vcpu_run.specs.declared.pair.Pair.{Pair}
use Rattle.vcpu_run.specs.declared.script.Script.{Script}
use Rattle.vcpu_run.specs.declared.unit_seat.Seat.TheVariants as sits
use Rattle.vcpu_run.specs.CallsSaid.{CallsSaid, seen_then}
use Rattle.vio_trace.specs.declared.window_rows.CopyRow.{CopyRow}
use Rattle.vcpu_run.specs.ClientStrokes.{LogsStrokes}
use Rattle.vcpu_run.specs.Ports.{unit_of}

-- the windows of a script's clients are those of its units
abbrev pub AreOfClients : List Pair → Script → Type 0
AreOfClients pairs script = (unit k : ℕ) (pair : Pair) → slice_get script.seats.items unit ≡ Some (sits.Client k) → slice_get pairs k ≡ Some pair
    → pair.window.unit ≡ unit_of script.partition unit

-- its records say of raw calls what they may, by what there was as each line ended
abbrev pub LogsCalls : List Pair → Script → Type 0
LogsCalls pairs script = AreOfClients pairs script
    → CallsSaid (λ number. seen_then number script.partition script.seats.items pairs) script.lines.now script.logs.items

-- What the records of a script say of its clients' regions and of its raw calls is so.
pub record LogsLines (copies : ℕ → List CopyRow) (pairs : List Pair) (script : Script) : Type 0 where
  pub strokes : LogsStrokes copies pairs script
  pub calls : LogsCalls pairs script
