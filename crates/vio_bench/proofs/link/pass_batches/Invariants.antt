use Rattle.std.proofs.Common.{◌≤◌}
use Rattle.vio_bench.proofs.link.pass_batches.Given as goal

abbrev pub invariant-loop-left : goal.invariant-loop-left
invariant-loop-left g l = record {
  sends : l.left ≤ (g.A.CrqEnd.state l.from).spare;
  polls : l.left ≤ (g.B.CrqEnd.state l.to).spare;
  count : l.left ≤ l.count;
}

abbrev pub decreases-loop-left : goal.decreases-loop-left
decreases-loop-left g l = l.left
