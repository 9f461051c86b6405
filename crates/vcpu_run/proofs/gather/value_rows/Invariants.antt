use Rattle.std.proofs.Common.{◌≡◌, All, take}
use Rattle.std.specs.List.{flat_map}
use Rattle.vcpu_run.specs.Gathered.{values_at, HasLawfulWindow}
use Rattle.vcpu_run.proofs.gather.value_rows.Given as goal

abbrev pub invariant-loop-unit : goal.invariant-loop-unit
invariant-loop-unit l = record {
  rows : l.rows.items ≡ flat_map (values_at l.pairs l.lan) (take l.unit-index l.units);
  lawful : All (HasLawfulWindow l.pairs l.lan) (take l.unit-index l.units);
}
