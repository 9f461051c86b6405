use Rattle.std.proofs.Common.{◌≡◌, take}
use Rattle.std.specs.List.{flat_map}
use Rattle.vcpu_run.specs.Gathered.{answers_at}
use Rattle.vcpu_run.proofs.gather.answer_rows.Given as goal

abbrev pub invariant-loop-unit : goal.invariant-loop-unit
invariant-loop-unit l = l.rows.items ≡ flat_map (answers_at l.pairs) (take l.unit-index l.units)
