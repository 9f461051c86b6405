use Rattle.std.proofs.Common.{◌≡◌, ◌++◌}
use Rattle.std.specs.List.{flat_map}
use Rattle.vcpu_run.specs.Gathered.{logs_of}
use Rattle.vcpu_run.proofs.gather.log_rows.Given as goal

abbrev pub invariant-loop-script : goal.invariant-loop-script
invariant-loop-script l = record {
  steps : (goal.iterator-loop-script).can_next l.script-iterator;
  ends : (goal.iterator-loop-script).is_finite l.script-iterator;
  rows : l.rows.items ++ flat_map logs_of l.script-iterator.rest.items ≡ flat_map logs_of l.fn.scripts.items;
}
