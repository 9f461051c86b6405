use Rattle.std.proofs.Common.{◌≡◌, sym, ◌∙◌, subst}
use Rattle.lan_buffers.specs.Kept.{PoolsValue, waits, waiting_in}
use Rattle.lan_buffers.proofs.Pooling.{waits_alike}
use Rattle.lan_buffers.proofs.pools.Pools.reserve.Goals as goal

pub returns-in_err-reserve_queues-clause-waiting : goal.returns-in_err-reserve_queues-clause-waiting
returns-in_err-reserve_queues-clause-waiting c = λ size.
    subst (λ (v : PoolsValue). waiting_in c.self.inside.sizes.items c.reserve_queues.new.queues.items size ≡ waits v size) c.self.view_is
    (waits_alike size c.self.inside.sizes.items c.reserve_queues.new.queues.items c.self.inside.queues.items (c.reserve_queues.ensures.eight ∙ sym c.self.invariant.eight) c.reserve_queues.ensures.numbers)

pub returns-clause-waiting : goal.returns-clause-waiting
returns-clause-waiting c = λ size.
    subst (λ (v : PoolsValue). waiting_in c.self.inside.sizes.items c.reserve_queues.new.queues.items size ≡ waits v size) c.self.view_is
    (waits_alike size c.self.inside.sizes.items c.reserve_queues.new.queues.items c.self.inside.queues.items (c.reserve_queues.ensures.eight ∙ sym c.self.invariant.eight) c.reserve_queues.ensures.numbers)
