use Rattle.std.proofs.Common.{◌≡◌, ◌++◌, take}
use Rattle.vcpu_run.specs.Numbered.{numbered}
use Rattle.vcpu_run.specs.Windows.{stroke_row}
use Rattle.vcpu_run.proofs.windows.put_page.Given as goal

abbrev pub invariant-loop-place : goal.invariant-loop-place
invariant-loop-place l = l.rows.items ≡ l.initial.rows.items ++ numbered (stroke_row l.unit l.page) 0 (take l.place l.strokes)
