-- What the records of a trace say of raw hypervisor calls.
use Rattle.std.specs.Prelude.{ℕ, List, Option, Some, map, ⊤}
use Rattle.std.specs.List.{Contains}
use Rattle.std.specs.Option.{option_map}
use Rattle.boot_text.specs.Sound.{unit_at}
use Rattle.boot_text.specs.declared.plan.Partition.{Partition}
use Rattle.boot_text.specs.declared.plan.UnitPlan.{UnitPlan}
use Rattle.boot_text.specs.declared.plan.UnitPlan.TheVariants as units
use Rattle.hcall_table.specs.Named.{Place}
use Rattle.hcall_table.specs.declared.kind.UnitKind.{UnitKind}
use Rattle.hcall_table.specs.declared.kind.UnitKind.TheVariants as kinds
use Rattle.vio_trace.specs.declared.rows.Trace.{Trace}
use Rattle.vio_num.specs.declared.names.UnitId.{UnitId}
use Rattle.vcpu_run.specs.AnswersSent.{sent_to}
use Rattle.vcpu_run.specs.CallsAnswered.{UnitSeen, no_client}
use Rattle.vcpu_run.specs.CallsSaid.{CallsSaid, UnitsSeen}
use Rattle.vcpu_run.specs.PortRegions.{strokes_shown}
use Rattle.vcpu_run.specs.Ports.{unit_of}
use Rattle.vcpu_run.specs.RegionThen.{region_then}
use Rattle.vcpu_run.specs.Settled.{script_of}
use Rattle.vcpu_run.specs.Shown.{puts_into, records_of, values_shown}

-- what a unit of a plan is
abbrev pub kind_planned : UnitPlan → UnitKind
kind_planned (units.Server queue) = kinds.Server
kind_planned (units.Client server pages queue) = kinds.Client
kind_planned (units.Lan mac pages slots) = kinds.Lan

-- a partition, and what its units are by the plan
abbrev pub place_in : List Partition → ℕ → Place
place_in partitions p = record { partition = p; kind = λ unit. option_map kind_planned (unit_at partitions (unit_of p unit)) }

-- what a trace shows of a unit: of a client and of a LAN unit its window's pages by the plan, the values of its window's entries and those
-- that were put among them, and its region as it was when the line of this number ended; of a client its server unit's queue, too. Nothing
-- of a window is held when a line makes a call.
abbrev pub unit_shown : Trace → (number : ℕ) → UnitId → Option UnitPlan → UnitSeen
unit_shown trace number unit (Some (units.Client server pages queue)) = record {
  pages = Some pages;
  value_at = λ entry value. Contains (values_shown trace unit entry) value;
  put_at = λ entry value. Contains (map (λ row. row.value) (puts_into trace unit entry)) value;
  region = region_then unit number (strokes_shown trace pages unit);
  is_held = ⊥;
  entry_put = λ entry. Contains (sent_to trace server) entry;
}
unit_shown trace number unit (Some (units.Lan mac pages slots)) = record {
  pages = Some pages;
  value_at = λ entry value. Contains (values_shown trace unit entry) value;
  put_at = λ entry value. Contains (map (λ row. row.value) (puts_into trace unit entry)) value;
  region = region_then unit number (strokes_shown trace pages unit);
  is_held = ⊥;
  entry_put = λ entry. ⊤;
}
unit_shown trace number unit _ = no_client

-- what it shows of the units of a partition, as one of its lines ended
abbrev pub units_shown : List Partition → Trace → ℕ → (number : ℕ) → UnitsSeen
units_shown partitions trace p number = record {
  place = place_in partitions p;
  of_unit = λ unit. unit_shown trace number (unit_of p unit) (unit_at partitions (unit_of p unit));
}

-- the records of each partition say of its raw calls what they may
abbrev pub CallsAreSaid : List Partition → Trace → Type 0
CallsAreSaid partitions trace = (p : ℕ) → CallsSaid (units_shown partitions trace p) (script_of partitions p) (records_of trace p)
