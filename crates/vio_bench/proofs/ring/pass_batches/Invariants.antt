use Rattle.std.proofs.Common.{◌≡◌, ◌≤◌, true}
use Rattle.vio_bench.proofs.ring.pass_batches.Given as goal

abbrev pub invariant-loop-left : goal.invariant-loop-left
invariant-loop-left l = record {
  sends : (l.send.ring ≡ l.fn.send.ring) × (l.send.inside ≡ true);
  receives : (l.recv.ring ≡ l.fn.recv.ring) × (l.recv.is_open ≡ true);
  puts : l.left ≤ l.send.spare;
  polls : l.left ≤ l.recv.spare;
  count : l.left ≤ l.count;
}

abbrev pub decreases-loop-left : goal.decreases-loop-left
decreases-loop-left l = l.left
