-- Each page's rows come behind those of the pages before it.
use Rattle.std.proofs.Common.{◌++◌, ◌∙◌, ap}
use Rattle.tce_window.specs.Window.{strokes_at}
use Rattle.vcpu_run.specs.Windows.{rows_from, rows_on}
use Rattle.vcpu_run.proofs.Cuts.{behind, pages_step}
use Rattle.vcpu_run.proofs.windows.put_strokes.Goals as goal

pub loop-page-preserved : goal.loop-page-preserved
loop-page-preserved c =
    behind _ _ _ _ _ _ c.in_ok-put_page.ensures c.loop-page.invariant
    (pages_step c.args.unit (strokes_at c.args.window.now.pages) c.loop-page.page
    ∙ ap (λ s. rows_from c.args.unit (strokes_at c.args.window.now.pages) 0 c.loop-page.page ++ rows_on c.args.unit c.loop-page.page s) c.strokes.ensures)
