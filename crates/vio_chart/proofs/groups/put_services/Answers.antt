use Rattle.vio_chart.specs.Picture.{IsService}
use Rattle.vio_chart.proofs.Lists.{adds_item}
use Rattle.vio_chart.proofs.groups.put_services.Goals as goal

pub loop-served-preserved : goal.loop-served-preserved
loop-served-preserved c =
    adds_item (IsService c.args.units.now) _ _ c.served-item.result _ _ _ c.loop-served-test.true c.loop-served.invariant c.served-item.is c.in_ok-put_service.ensures
