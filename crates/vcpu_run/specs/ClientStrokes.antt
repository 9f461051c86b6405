-- Which strokes the lines of a client laid in its own region, and what the trace shows of them.
use Rattle.std.specs.Prelude.{◌≡◌, ◌⊎◌, ℕ, ◌<◌, IfSome, IsSomeAnd, List, Some, length, map}
use Rattle.std.specs.List.{Contains, slice_get}
use Rattle.vio_num.specs.declared.names.UnitId.{UnitId}
use Rattle.boot_text.specs.Sound.{IsClientOf}
use Rattle.boot_text.specs.declared.plan.Line.{Line}
use Rattle.boot_text.specs.declared.plan.Partition.{Partition}
use Rattle.page_slots.specs.Stroke.{StrokeValue}
use Rattle.tce_window.specs.Window.{strokes_at}
use Rattle.unit_region.specs.RegionLines.{IsFrontOn, IsOn}
use Rattle.vio_trace.specs.declared.rows.LogRow.{LogRow}
use Rattle.vio_trace.specs.declared.rows.Trace.{Trace}
use Rattle.vcpu_run.specs.declared.pair.Pair.{Pair}
use Rattle.vcpu_run.specs.declared.script.Script.{Script}
use Rattle.vcpu_run.specs.declared.unit_seat.Seat.{Seat}
use Rattle.vcpu_run.specs.declared.unit_seat.Seat.TheVariants as sits
use Rattle.vio_trace.specs.declared.window_rows.CopyRow.{CopyRow}
use Rattle.vcpu_run.specs.CopiesCounted.{named_by}
use Rattle.vcpu_run.specs.DataNoted.{PairNoted}
use Rattle.vcpu_run.specs.Intake.{copies_shown}
use Rattle.vcpu_run.specs.LinesRead.{AreKept, ClientLines}
use Rattle.vcpu_run.specs.PortRegions.{IsCurrent, IsLogged, strokes_shown}
use Rattle.vcpu_run.specs.Ports.{unit_of}
use Rattle.vcpu_run.specs.Settled.{script_of}
use Rattle.vcpu_run.specs.Shown.{pages_at, records_of, stroke_value, strokes_on}

-- Each page of the region of a pair's client has the strokes that it had, and behind them of the client's own only such that bear this
-- number, where it may lay any.
pub record PairLays (may : Type 0) (mark : ℕ) (old new : Pair) : Type 0 where
  pub unit : new.window.unit ≡ old.window.unit
  pub pages : length new.window.pages ≡ length old.window.pages
  pub strokes : (page : ℕ) → IsFrontOn old.window.unit (λ m. may × (m ≡ mark)) (strokes_at old.window.pages page) (strokes_at new.window.pages page)

-- the same of all pairs, each of which may be another
abbrev pub AllLay : (may : ℕ → Type 0) → (mark : ℕ) → (old new : List Pair) → Type 0
AllLay may mark old new = (k : ℕ) (after : Pair) → slice_get new k ≡ Some after → IsSomeAnd (slice_get old k) (λ before. PairLays (may k) mark before after)

-- the client of a pair laid none, or that of any
abbrev pub PairLaysNone : (old new : Pair) → Type 0
PairLaysNone old new = PairLays ⊥ 0 old new

abbrev pub NoneLay : (old new : List Pair) → Type 0
NoneLay old new = AllLay (λ k. ⊥) 0 old new

-- the line's client alone laid any, under the line's number
abbrev pub LineLays : List Seat → Line → (old new : List Pair) → Type 0
LineLays seats line old new = AllLay (λ k. slice_get seats line.unit ≡ Some (sits.Client k)) line.number old new

-- each page of the region of a pair's client has the strokes that it had, and behind them none of the client's own
abbrev pub KeepsOwn : (old new : Pair) → Type 0
KeepsOwn old new = (page : ℕ) → IsFrontOn old.window.unit (λ m. ⊥) (strokes_at old.window.pages page) (strokes_at new.window.pages page)

-- each stroke that a client laid in its own region bears the number of one of its lines that have a record, or of the current line
abbrev pub PairLogs : List Line → List LogRow → (at : ℕ) → UnitId → Pair → Type 0
PairLogs lines rows at unit pair = (page : ℕ) (stroke : StrokeValue) → IsOn stroke (strokes_at pair.window.pages page) → stroke.name.who ≡ unit
    → IsLogged unit lines rows stroke.name.mark ⊎ IsCurrent unit lines at stroke.name.mark

-- So is it of the client of a pair, which keeps what it noted of the data of its commands, and where they lie; and each of its lines that
-- has a record says what was so of its region as it ended, with what it read there.
pub record PairRecords (copies : List CopyRow) (lines : List Line) (rows : List LogRow) (at : ℕ) (unit : UnitId) (pair : Pair) : Type 0 where
  pub logged : PairLogs lines rows at unit pair
  pub noted : PairNoted pair
  pub kept : IfSome pair.driver (λ driver. AreKept unit.unit lines rows driver.client.rows)
  pub told : ClientLines pair.server (strokes_at pair.window.pages) (length pair.window.pages) unit lines rows (length copies) (named_by unit copies)

-- the same of the clients of a script
abbrev pub LogsStrokes : (copies : ℕ → List CopyRow) → List Pair → Script → Type 0
LogsStrokes copies pairs script = (unit k : ℕ) (pair : Pair) → slice_get script.seats.items unit ≡ Some (sits.Client k) → slice_get pairs k ≡ Some pair
    → pair.window.unit ≡ unit_of script.partition unit → PairRecords (copies k) script.lines.now script.logs.items script.at (unit_of script.partition unit) pair

-- no client's region has a stroke
abbrev pub IsBare : Pair → Type 0
IsBare pair = (page : ℕ) (stroke : StrokeValue) → IsOn stroke (strokes_at pair.window.pages page) → ⊥

abbrev pub AreBare : List Pair → Type 0
AreBare pairs = (k : ℕ) (pair : Pair) → slice_get pairs k ≡ Some pair → IsBare pair

-- Each stroke that a client laid in its own region bears the number of one of its lines that have a record, and these say what was so of its
-- region as they ended, with the answers to its logins.
pub record IsClientLogged (partitions : List Partition) (trace : Trace) (client server : UnitId) : Type 0 where
  pub logged : (page : ℕ) → page < pages_at partitions client → (stroke : StrokeValue) → Contains (map stroke_value (strokes_on trace client page)) stroke
      → stroke.name.who ≡ client → IsLogged client (script_of partitions client.partition) (records_of trace client.partition) stroke.name.mark
  pub told : ClientLines server (strokes_shown trace (pages_at partitions client) client) (pages_at partitions client) client (script_of partitions client.partition)
      (records_of trace client.partition) (length (copies_shown trace server)) (named_by client (copies_shown trace server))

-- so is it of each client of a plan, whatever lines its partition has
abbrev pub ClientsAreLogged : List Partition → Trace → Type 0
ClientsAreLogged partitions trace = (client server : UnitId) → IsClientOf partitions client server → IsClientLogged partitions trace client server
