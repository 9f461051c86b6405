use Rattle.std.proofs.Common.{◌≡◌, ◌+◌, ◌-◌, ◌≤◌, true}
use Rattle.vio_bench.proofs.ring.put_batch.Given as goal

abbrev pub invariant-loop-k : goal.invariant-loop-k
invariant-loop-k l = record {
  ours : (l.send.ring ≡ l.fn.send.ring) × (l.send.inside ≡ true);
  spare : l.fn.send.spare ≤ l.send.spare + l.k;
  count : l.k ≤ l.n;
}

abbrev pub decreases-loop-k : goal.decreases-loop-k
decreases-loop-k l = l.n - l.k
