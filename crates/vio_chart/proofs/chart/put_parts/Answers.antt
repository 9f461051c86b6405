use Rattle.vio_chart.proofs.Put.{on_ok, parts_of}
use Rattle.vio_chart.proofs.chart.put_parts.Goals as goal

pub returns : goal.returns
returns c =
    on_ok _ _ _
    (parts_of c.args.trace.now c.args.units.now c.args.buffer.now.items c.put_head.new.buffer.items c.put_lane_group.new.buffer.items c.put_unit_group.new.buffer.items c.put_entry_group.new.buffer.items c.put_copy_group.new.buffer.items c.put_service_group.new.buffer.items c.put_frame_group.new.buffer.items c.put.new.buffer.items
    c.in_ok-put_head.ensures c.in_ok-put_lane_group.ensures c.in_ok-put_unit_group.ensures c.in_ok-put_entry_group.ensures c.in_ok-put_copy_group.ensures c.in_ok-put_service_group.ensures c.in_ok-put_frame_group.ensures)
    c.put.ensures
