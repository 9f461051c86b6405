use Rattle.std.proofs.Common.{◌<◌, arith}
use Rattle.lan_script.specs.declared.seat.PortSeat.{PortSeat}
use Rattle.lan_script.specs.Opening.{plan_of}
use Rattle.lan_script.proofs.Cuts.{all_more, map_step}
use Rattle.lan_script.proofs.lan.plans_of.Goals as goal

pub loop-seat-preserved : goal.loop-seat-preserved
loop-seat-preserved c = record {
  made = map_step plan_of c.args.seats.now c.loop-seat.seat-index _ c.loop-seat.plans.items _ c.plan.result c.loop-seat-test.true c.loop-seat.invariant.made
      c.push_reserved.ensures.items c.plan.ensures.plan;
  named = all_more (λ (seat : PortSeat). seat.unit.unit < 256) c.args.seats.now c.loop-seat.seat-index _ c.loop-seat-test.true c.loop-seat.invariant.named
      c.plan.ensures.named;
  room = omega (arith, c.loop-seat.invariant.room, c.push_reserved.ensures.capacity);
}
