use Rattle.std.proofs.Common.{◌≡◌, All, take}
use Rattle.std.specs.List.{flat_map}
use Rattle.vcpu_run.specs.Gathered.{sessions_at, HasLawfulQueue}
use Rattle.vcpu_run.proofs.gather.queue_rows.Given as goal

abbrev pub invariant-loop-unit : goal.invariant-loop-unit
invariant-loop-unit l = record {
  rows : l.rows.items ≡ flat_map (sessions_at l.pairs) (take l.unit-index l.units);
  lawful : All (HasLawfulQueue l.pairs) (take l.unit-index l.units);
}
