use Rattle.lan_script.specs.declared.seat.PortSeat.{PortSeat}
use Rattle.lan_script.specs.Rows.{HasLawfulPort, port_in, port_rows}
use Rattle.lan_script.proofs.Cuts.{all_more, flat_more}
use Rattle.lan_script.proofs.rows.session_rows.Goals as goal

pub put_sessions_of-requires : goal.put_sessions_of-requires
put_sessions_of-requires c = c.requires c.loop-seat.seat-index _ c.loop-seat-test.true

pub loop-seat-preserved : goal.loop-seat-preserved
loop-seat-preserved c = record {
  rows = flat_more (λ (seat : PortSeat). port_rows seat.unit (port_in c.args.switch.now seat)) c.args.seats.now c.loop-seat.seat-index _ _ _
      c.loop-seat-test.true c.loop-seat.invariant.rows c.in_ok-put_sessions_of.ensures.rows;
  lawful = all_more (HasLawfulPort c.args.switch.now) c.args.seats.now c.loop-seat.seat-index _ c.loop-seat-test.true c.loop-seat.invariant.lawful
      c.in_ok-put_sessions_of.ensures.lawful;
}
