use Rattle.vio_chart.specs.Picture.{IsFrame}
use Rattle.vio_chart.proofs.Lists.{adds_item}
use Rattle.vio_chart.proofs.groups.put_frames.Goals as goal

pub loop-frame-preserved : goal.loop-frame-preserved
loop-frame-preserved c =
    adds_item (IsFrame c.args.units.now) _ _ c.frame-item.result _ _ _ c.loop-frame-test.true c.loop-frame.invariant c.frame-item.is c.in_ok-put_frame.ensures
