use Rattle.std.proofs.Common.{◌≡◌, ◌++◌}
use Rattle.tce_window.specs.Window.{strokes_at}
use Rattle.vcpu_run.specs.Windows.{rows_from}
use Rattle.vcpu_run.proofs.windows.put_strokes.Given as goal

abbrev pub invariant-loop-page : goal.invariant-loop-page
invariant-loop-page l = l.rows.items ≡ l.initial.rows.items ++ rows_from l.unit (strokes_at l.window.pages) 0 l.page
