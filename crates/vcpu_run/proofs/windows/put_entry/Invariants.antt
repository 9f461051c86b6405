use Rattle.std.proofs.Common.{◌≡◌, ◌++◌, take}
use Rattle.vcpu_run.specs.Windows.{rows_of_entry}
use Rattle.vcpu_run.proofs.windows.put_entry.Given as goal

abbrev pub invariant-loop-value : goal.invariant-loop-value
invariant-loop-value l = l.rows.items ≡ l.initial.rows.items ++ rows_of_entry l.unit (take l.value-index l.values) l.entry
