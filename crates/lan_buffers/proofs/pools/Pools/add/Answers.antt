use Rattle.std.proofs.Common.{arith, ◌≡◌, ◌≤◌, ℕ, List, length, sym, ◌∙◌, ap}
use Rattle.lan_buffers.specs.Pools.{has_size}
use Rattle.lan_buffers.specs.Kept.{PoolsValue, place_in, waits}
use Rattle.lan_buffers.proofs.Pooling.{adds_at}
use Rattle.lan_buffers.proofs.pools.Pools.add.Goals as goal

pub index_mut-requires : goal.index_mut-requires
index_mut-requires c =
    omega (arith, c.self.invariant.eight, c.place_for-place.ensures.within, c.place_for-place.ensures.few)

pub push-requires : goal.push-requires
push-requires c =
    let roomy : c.self.inside.spare ≤ c.index_mut.result.now.spare =
    rw c.index_mut.ensures.value (c.self.invariant.roomy c.place_for-place.result c.index_mut.result.now (omega (arith, c.self.invariant.eight, c.place_for-place.ensures.within, c.place_for-place.ensures.few))) in
    omega (arith, roomy, c.requires.room, c.place_for-place.ensures.spare, ap (λ (v : PoolsValue). v.spare) c.self.view_is)

pub returns : goal.returns
returns c =
    let same : c.self.inside.spare ≡ c.args.self.now.spare = ap (λ (v : PoolsValue). v.spare) c.self.view_is ∙ c.place_for-place.ensures.spare in
    let sizes : c.self.inside.sizes.items ≡ c.place_for-place.new.self.sizes = ap (λ (v : PoolsValue). v.sizes) c.self.view_is in
    adds_at c.args.self.now c.self.inside.sizes.items c.self.inside.queues.items c.self.inside.spare c.args.size c.args.number c.place_for-place.result
    c.index_mut.result.now c.push.new.self c.self.invariant
    (omega (arith, c.place_for-place.ensures.few, ap (λ (xs : List ℕ). length xs) sizes))
    (c.place_for-place.ensures.place ∙ ap (λ (xs : List ℕ). place_in c.args.size xs) (sym sizes))
    (ap (λ (xs : List ℕ). has_size c.args.size xs) sizes ∙ c.place_for-place.ensures.among)
    c.index_mut.ensures.value c.push.ensures.numbers
    (sizes ∙ c.place_for-place.ensures.sizes)
    (λ other. ap (λ (v : PoolsValue). waits v other) c.self.view_is ∙ c.place_for-place.ensures.waiting other)
    same (omega (arith, same, c.requires.room))
