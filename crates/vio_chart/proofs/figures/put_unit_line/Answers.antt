use Rattle.std.proofs.Common.{◌∙◌, ap}
use Rattle.vio_chart.specs.Picture.{x_of}
use Rattle.vio_chart.proofs.Put.{on_ok, unit_line_of}
use Rattle.vio_chart.proofs.figures.put_unit_line.Goals as goal

pub returns : goal.returns
returns c =
    on_ok _ _ _
    (unit_line_of c.args.units.now c.args.unit c.x_of-x.result c.args.bottom c.x_of-x.result 112 c.as_slice.result.now c.args.buffer.now.items c.put_line.new.buffer.items c.put_label.new.buffer.items
    (c.x_of-x.ensures ∙ ap x_of c.column.ensures) c.in_ok-put_line.ensures)
    c.put_label.ensures
