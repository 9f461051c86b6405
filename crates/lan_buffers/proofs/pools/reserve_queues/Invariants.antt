use Rattle.std.proofs.Common.{◌≡◌, ◌≤◌, ◌<◌, ℕ, get_or, length}
use Rattle.lan_buffers.specs.Kept.{QueueValue}
use Rattle.lan_buffers.proofs.pools.reserve_queues.Given as goal

abbrev pub invariant-loop-place : goal.invariant-loop-place
invariant-loop-place l = record {
  eight : length l.queues.items ≡ 8;
  numbers : (place : ℕ) (d : QueueValue) → (get_or l.queues.items place d).numbers ≡ (get_or l.fn.queues.items place d).numbers;
  room : (place : ℕ) (d : QueueValue) → place < l.place → l.spare ≤ (get_or l.queues.items place d).spare;
  spare : (place : ℕ) (d : QueueValue) → (get_or l.fn.queues.items place d).spare ≤ (get_or l.queues.items place d).spare;
}
