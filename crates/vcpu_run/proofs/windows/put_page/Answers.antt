-- Each stroke's row comes behind those of the strokes before it.
use Rattle.std.proofs.Common.{◌++◌, ◌∷◌, [], ◌∙◌, sym, ap, take}
use Rattle.vcpu_run.specs.Numbered.{numbered}
use Rattle.vcpu_run.specs.Windows.{stroke_row}
use Rattle.vcpu_run.proofs.Cuts.{behind, numbered_step}
use Rattle.vcpu_run.proofs.windows.put_page.Goals as goal

pub loop-place-preserved : goal.loop-place-preserved
loop-place-preserved c =
    behind _ _ _ _ _ _ c.in_ok-push.ensures.items c.loop-place.invariant
    (numbered_step (stroke_row c.args.unit c.args.page) c.args.strokes.now c.loop-place.place c.index-strokes-place.result c.loop-place-test.true c.index-strokes-place.is
    ∙ ap (λ row. numbered (stroke_row c.args.unit c.args.page) 0 (take c.loop-place.place c.args.strokes.now) ++ row ∷ []) (sym c.in_ok-row_of.ensures))
