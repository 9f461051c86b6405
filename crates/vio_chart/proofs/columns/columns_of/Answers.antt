use Rattle.std.proofs.Common.{◌∙◌}
use Rattle.vio_chart.proofs.Steps.{lines_more, lines_none}
use Rattle.vio_chart.proofs.columns.columns_of.Goals as goal

pub loop-n-init : goal.loop-n-init
loop-n-init c = c.new-units.ensures ∙ lines_none c.args.trace.now

pub loop-n-preserved : goal.loop-n-preserved
loop-n-preserved c =
    lines_more c.args.trace.now c.loop-n.n _ _ _ c.nth_unit.ensures c.loop-n.invariant c.in_ok-push_line.ensures
