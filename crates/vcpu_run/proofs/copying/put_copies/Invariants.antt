use Rattle.std.proofs.Common.{◌≡◌, ◌++◌, take}
use Rattle.vcpu_run.specs.CopyRows.{copies_by}
use Rattle.vcpu_run.proofs.copying.put_copies.Given as goal

abbrev pub invariant-loop-copy : goal.invariant-loop-copy
invariant-loop-copy l = l.rows.items ≡ l.initial.rows.items ++ copies_by l.unit (take l.copy-index l.copies)
