use Rattle.std.proofs.Common.{◌≡◌, take}
use Rattle.std.specs.List.{flat_map}
use Rattle.vcpu_run.specs.Gathered.{marks_at}
use Rattle.vcpu_run.proofs.gather.stroke_rows.Given as goal

abbrev pub invariant-loop-unit : goal.invariant-loop-unit
invariant-loop-unit l = l.rows.items ≡ flat_map (marks_at l.pairs l.lan) (take l.unit-index l.units)
