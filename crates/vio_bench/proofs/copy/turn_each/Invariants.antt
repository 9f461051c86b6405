use Rattle.std.proofs.Common.{◌≤◌, ◌-◌}
use Rattle.page_slots.specs.Turns.{IsIdle}
use Rattle.vio_bench.proofs.copy.turn_each.Given as goal

abbrev pub invariant-loop-done : goal.invariant-loop-done
invariant-loop-done l = record { within : l.done ≤ l.count; reader : IsIdle l.first l.reader; writer : IsIdle l.second l.writer }

abbrev pub decreases-loop-done : goal.decreases-loop-done
decreases-loop-done l = l.count - l.done
