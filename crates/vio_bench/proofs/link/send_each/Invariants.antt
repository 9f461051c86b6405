use Rattle.std.proofs.Common.{◌≤◌}
use Rattle.vio_bench.proofs.link.send_each.Given as goal

abbrev pub invariant-loop : goal.invariant-loop
invariant-loop g l = l.k ≤ l.count
