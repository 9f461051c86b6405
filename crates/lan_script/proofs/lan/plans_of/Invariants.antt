use Rattle.std.proofs.Common.{◌≡◌, ◌≤◌, take, map, length, vec_capacity}
use Rattle.lan_script.specs.Opening.{plan_of}
use Rattle.std.proofs.Common.{All, ◌<◌}
use Rattle.lan_script.specs.declared.seat.PortSeat.{PortSeat}
use Rattle.lan_script.proofs.lan.plans_of.Given as goal

abbrev pub invariant-loop-seat : goal.invariant-loop-seat
invariant-loop-seat l = record {
  made : l.plans.items ≡ map plan_of (take l.seat-index l.seats);
  named : All (λ (seat : PortSeat). seat.unit.unit < 256) (take l.seat-index l.seats);
  room : length l.seats ≤ vec_capacity l.plans;
}
