use Rattle.std.proofs.Common.{◌≡◌, [], All, vec_len, vec_capacity}
use Rattle.lan_buffers.proofs.pools.empty_queues.Given as goal

abbrev pub invariant-loop : goal.invariant-loop
invariant-loop l = record {
  count : vec_len l.queues ≡ l.counter;
  room : vec_capacity l.queues ≡ 8;
  empty : All (λ queue. queue.numbers ≡ []) l.queues.items;
}
