-- What the records of raw calls on the entries of LAN units' windows say.
use Rattle.std.specs.Prelude.{◌≡◌, ℕ, true, List, None, Option, Some, ⊤}
use Rattle.std.specs.List.{slice_get}
use Rattle.vio_num.specs.Words.{Begins}
use Rattle.vio_num.specs.declared.names.UnitId.{UnitId}
use Rattle.boot_text.specs.declared.plan.Line.{Line}
use Rattle.boot_text.specs.declared.verb.Verb.{Verb}
use Rattle.boot_text.specs.declared.verb.Verb.TheVariants as verbs
use Rattle.hcall_table.specs.Named.{Place, is_of_window, unit_of as unit_asked}
use Rattle.hcall_table.specs.Rows.{further, row_of}
use Rattle.hcall_table.specs.declared.hcall.Hcall.{Hcall}
use Rattle.hcall_table.specs.declared.kind.UnitKind.{UnitKind}
use Rattle.hcall_table.specs.declared.kind.UnitKind.TheVariants as kinds
use Rattle.unit_region.specs.declared.step.Step.{Step}
use Rattle.unit_region.specs.declared.step.Step.TheVariants as steps
use Rattle.vio_trace.specs.declared.outcome.Outcome.{Outcome}
use Rattle.vio_trace.specs.declared.rows.LogRow.{LogRow}
use Rattle.lan_script.specs.Entries.{values_at}
use Rattle.lan_script.specs.Units.{LanValue}
use Rattle.vcpu_run.specs.declared.script.Script.{Script}
use Rattle.vcpu_run.specs.declared.unit_seat.Seat.{Seat}
use Rattle.vcpu_run.specs.declared.unit_seat.Seat.TheVariants as sits
use Rattle.vcpu_run.specs.CallsAnswered.{IsUnitSaid, UnitSeen, port_seen, port_then}
use Rattle.vcpu_run.specs.PortRegions.{AreInTurn, RegionsKept}
use Rattle.vcpu_run.specs.Ports.{unit_of}

-- what a unit is that sits there
abbrev pub kind_of : Option Seat → Option UnitKind
kind_of None = None
kind_of (Some sits.Server) = Some kinds.Server
kind_of (Some (sits.Client k)) = Some kinds.Client
kind_of (Some sits.Port) = Some kinds.Lan

-- the units of a partition, by where they sit
abbrev pub place_by : (partition : ℕ) → (ℕ → Option Seat) → Place
place_by partition seat = record { partition = partition; kind = λ unit. kind_of (seat unit) }

-- what a record says of a raw call that reads an entry of a LAN unit's window, or puts values into some, by what there is of the unit
abbrev pub EntrySaid : (partition : ℕ) → (ℕ → Option Seat) → (UnitId → UnitSeen) → Verb → Outcome → Type 0
EntrySaid partition seat seen (verbs.Hcall number args) outcome =
    (row : Hcall) (unit : ℕ) → row_of number ≡ Some row → is_of_window row ≡ true → unit_asked (place_by partition seat) row args ≡ Some unit
    → seat unit ≡ Some sits.Port → IsUnitSaid (seen (unit_of partition unit)) row (further row args) outcome
EntrySaid partition seat seen verb outcome = ⊤

-- the same of each line that has a record, by what there was as the line ended
abbrev pub EntriesSaid : (partition : ℕ) → (ℕ → Option Seat) → LanValue → List Line → List LogRow → Type 0
EntriesSaid partition seat lan lines rows = (i : ℕ) (line : Line) (row : LogRow) → slice_get lines i ≡ Some line → slice_get rows i ≡ Some row
    → EntrySaid partition seat (port_then line.number lan) line.verb row.outcome

-- Each entry of each LAN unit's window has the values that it had, and others behind them, no stroke in its region is gone, and it laid none there.
pub record HasAll (old new : LanValue) : Type 0 where
  pub values : (unit : UnitId) (entry : ℕ) → Begins (values_at old unit entry) (values_at new unit entry)
  pub regions : RegionsKept old new

-- What the end of a line that makes a raw call leaves of the entries, and says of them.
pub record EndsEntry (partition : ℕ) (seat : ℕ → Option Seat) (verb : Verb) (old new : LanValue) (outcome : Outcome) : Type 0 where
  pub all : HasAll old new
  pub said : EntrySaid partition seat (port_seen new) verb outcome

abbrev pub EndsEntries : (partition : ℕ) → (ℕ → Option Seat) → Verb → (old new : LanValue) → Step → Type 0
EndsEntries partition seat verb old new (steps.Ends outcome) = EndsEntry partition seat verb old new outcome
EndsEntries partition seat verb old new (steps.Waits did) = ⊥

-- what is so of each script
abbrev pub TellsEntries : LanValue → Script → Type 0
TellsEntries lan script = AreInTurn script.lines.now script.logs.items script.at → EntriesSaid script.partition (slice_get script.seats.items) lan script.lines.now script.logs.items
