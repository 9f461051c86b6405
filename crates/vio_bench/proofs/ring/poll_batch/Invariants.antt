use Rattle.std.proofs.Common.{◌≡◌, ◌+◌, ◌-◌, ◌≤◌, true}
use Rattle.vio_bench.proofs.ring.poll_batch.Given as goal

abbrev pub invariant-loop-k : goal.invariant-loop-k
invariant-loop-k l = record {
  ours : (l.recv.ring ≡ l.fn.recv.ring) × (l.recv.is_open ≡ true);
  spare : l.fn.recv.spare ≤ l.recv.spare + l.k;
  count : l.k ≤ l.n;
}

abbrev pub decreases-loop-k : goal.decreases-loop-k
decreases-loop-k l = l.n - l.k
