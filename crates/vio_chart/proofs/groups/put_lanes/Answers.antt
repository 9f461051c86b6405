use Rattle.vio_chart.specs.Picture.{IsLane}
use Rattle.vio_chart.proofs.Lists.{adds_more}
use Rattle.vio_chart.proofs.groups.put_lanes.Goals as goal

pub loop-partition-preserved : goal.loop-partition-preserved
loop-partition-preserved c =
    adds_more (IsLane) _ _ 0 _ _ _ c.loop-partition-test.true c.loop-partition.invariant c.in_ok-put_lane.ensures
