use Rattle.std.proofs.Common.{◌∙◌}
use Rattle.vio_chart.proofs.Steps.{lanes_more, lanes_none}
use Rattle.vio_chart.proofs.columns.lanes_of.Goals as goal

pub loop-partition-init : goal.loop-partition-init
loop-partition-init c = c.new-lanes.ensures ∙ lanes_none c.args.units.now

pub loop-partition-preserved : goal.loop-partition-preserved
loop-partition-preserved c =
    lanes_more c.args.units.now c.loop-partition.partition _ _ c.loop-partition.invariant c.in_ok-push_lane.ensures
