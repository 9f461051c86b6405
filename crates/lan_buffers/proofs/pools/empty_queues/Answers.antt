use Rattle.std.proofs.Common.{rules, ◌≡◌, []}
use Rattle.lan_buffers.specs.Kept.{QueueValue}
use Rattle.lan_buffers.proofs.Pooling.{all_push}
use Rattle.lan_buffers.proofs.pools.empty_queues.Goals as goal

pub loop-preserved : goal.loop-preserved
loop-preserved c = record {
  count = search (rules, c.loop.invariant.count, c.push_reserved.ensures.len);
  room = search (rules, c.loop.invariant.room, c.push_reserved.ensures.capacity);
  empty = rw c.push_reserved.ensures.items (all_push (λ (q : QueueValue). q.numbers ≡ []) _ _ c.loop.invariant.empty c.new.ensures);
}
