use Rattle.vio_num.specs.declared.names.UnitId.{UnitId}
use Rattle.vio_chart.specs.Picture.{IsUnitLine}
use Rattle.vio_chart.proofs.Lists.{adds_more}
use Rattle.vio_chart.proofs.groups.put_units.Goals as goal

pub loop-unit-preserved : goal.loop-unit-preserved
loop-unit-preserved c =
    let none : UnitId = record { partition = 0; unit = 0 } in
    adds_more (IsUnitLine c.args.units.now) _ _ none _ _ _ c.loop-unit-test.true c.loop-unit.invariant c.in_ok-put_unit_line.ensures
