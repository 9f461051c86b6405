use Rattle.std.proofs.Common.{◌≡◌}
use Rattle.crq_ring.specs.RingSteps.{Sweeps}
use Rattle.crq_ring.proofs.ring.Ring.zero_slots.Given as goal

abbrev pub invariant-loop-slot : goal.invariant-loop-slot
invariant-loop-slot l = (l.seat.table_id ≡ l.fn.seat.table_id) × Sweeps l.fn.seat.me l.seat.me l.slot
