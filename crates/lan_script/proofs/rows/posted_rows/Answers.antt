use Rattle.lan_script.specs.declared.seat.PortSeat.{PortSeat}
use Rattle.lan_script.specs.Rows.{port_in, post_rows}
use Rattle.lan_script.proofs.Cuts.{flat_more}
use Rattle.lan_script.proofs.rows.posted_rows.Goals as goal

pub put_posts_of-requires : goal.put_posts_of-requires
put_posts_of-requires c = c.requires c.loop-seat.seat-index _ c.loop-seat-test.true

pub loop-seat-preserved : goal.loop-seat-preserved
loop-seat-preserved c =
    flat_more (λ (seat : PortSeat). post_rows seat.unit (port_in c.args.switch.now seat)) c.args.seats.now c.loop-seat.seat-index _ _ _ c.loop-seat-test.true
    c.loop-seat.invariant c.in_ok-put_posts_of.ensures
