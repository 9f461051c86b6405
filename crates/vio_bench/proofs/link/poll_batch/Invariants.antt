use Rattle.std.proofs.Common.{◌+◌, ◌-◌, ◌≤◌}
use Rattle.vio_bench.proofs.link.poll_batch.Given as goal

abbrev pub invariant-loop-k : goal.invariant-loop-k
invariant-loop-k g l = record {
  spare : (g.E.CrqEnd.state l.fn.end).spare ≤ (g.E.CrqEnd.state l.end).spare + l.k;
  count : l.k ≤ l.n;
}

abbrev pub decreases-loop-k : goal.decreases-loop-k
decreases-loop-k g l = l.n - l.k
