use Rattle.vio_chart.specs.Picture.{IsSession}
use Rattle.vio_chart.proofs.Lists.{adds_item}
use Rattle.vio_chart.proofs.groups.put_sessions.Goals as goal

pub loop-queue-preserved : goal.loop-queue-preserved
loop-queue-preserved c =
    adds_item (IsSession c.args.units.now c.args.copies.now) _ _ c.queue-item.result _ _ _ c.loop-queue-test.true c.loop-queue.invariant c.queue-item.is c.in_ok-put_session.ensures
