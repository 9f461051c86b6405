use Rattle.vio_chart.specs.Picture.{IsCopy}
use Rattle.vio_chart.proofs.Lists.{adds_item}
use Rattle.vio_chart.proofs.groups.put_copies.Goals as goal

pub loop-copy-preserved : goal.loop-copy-preserved
loop-copy-preserved c =
    adds_item (IsCopy c.args.units.now) _ _ c.copy-item.result _ _ _ c.loop-copy-test.true c.loop-copy.invariant c.copy-item.is c.in_ok-put_copy_arrow.ensures
