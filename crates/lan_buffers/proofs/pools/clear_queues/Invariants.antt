use Rattle.std.proofs.Common.{◌≡◌, ◌≤◌, ◌<◌, [], ℕ, get_or, length}
use Rattle.lan_buffers.specs.Kept.{QueueValue}
use Rattle.lan_buffers.proofs.pools.clear_queues.Given as goal

abbrev pub invariant-loop-place : goal.invariant-loop-place
invariant-loop-place l = record {
  eight : length l.queues.items ≡ 8;
  empty : (place : ℕ) (d : QueueValue) → place < l.place → (get_or l.queues.items place d).numbers ≡ [];
  spare : (place : ℕ) (d : QueueValue) → (get_or l.fn.queues.items place d).spare ≤ (get_or l.queues.items place d).spare;
}
