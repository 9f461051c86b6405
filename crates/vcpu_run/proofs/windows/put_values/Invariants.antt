use Rattle.std.proofs.Common.{◌≡◌, ◌++◌}
use Rattle.vcpu_run.specs.Windows.{values_from}
use Rattle.vcpu_run.proofs.windows.put_values.Given as goal

abbrev pub invariant-loop-entry : goal.invariant-loop-entry
invariant-loop-entry l = l.rows.items ≡ l.initial.rows.items ++ values_from l.unit l.window.rows 0 l.entry
