use Rattle.std.proofs.Common.{arith, ◌≡◌, ◌≤◌, ℕ, List, length, set, true, sym, ◌∙◌, ap, subst}
use Rattle.lan_buffers.specs.Pools.{has_size}
use Rattle.lan_buffers.specs.Kept.{PoolsValue, place_in, waits, waiting_in, Takes}
use Rattle.lan_buffers.proofs.Pooling.{waits_among, queue_at, takes_at}
use Rattle.lan_buffers.proofs.pools.Pools.take.Goals as goal

pub index_mut-requires : goal.index_mut-requires
index_mut-requires c =
    let some : 1 ≤ length (waiting_in c.self.inside.sizes.items c.self.inside.queues.items c.args.size) =
    subst (λ (v : PoolsValue). 1 ≤ length (waits v c.args.size)) (sym c.self.view_is) c.requires in
    let has : has_size c.args.size c.as_slice.result.now ≡ true =
    rw c.as_slice.ensures.value (waits_among c.args.size c.self.inside.sizes.items c.self.inside.queues.items some) in
    omega (arith, c.place_of-place.ensures.among has, c.as_slice.ensures.fits, c.self.invariant.eight)

pub take-requires : goal.take-requires
take-requires c =
    let some : 1 ≤ length (waiting_in c.self.inside.sizes.items c.self.inside.queues.items c.args.size) =
    subst (λ (v : PoolsValue). 1 ≤ length (waits v c.args.size)) (sym c.self.view_is) c.requires in
    subst (λ (xs : List ℕ). 1 ≤ length xs)
    (queue_at c.self.inside.sizes.items c.self.inside.queues.items c.self.inside.spare c.args.size c.place_of-place.result c.index_mut.result.now c.self.invariant
    (omega (arith, c.as_slice.ensures.fits, ap (λ (xs : List ℕ). length xs) c.as_slice.ensures.value))
    (c.place_of-place.ensures.place ∙ ap (λ (xs : List ℕ). place_in c.args.size xs) c.as_slice.ensures.value)
    (waits_among c.args.size c.self.inside.sizes.items c.self.inside.queues.items some) c.index_mut.ensures.value) some

pub returns : goal.returns
returns c =
    let some : 1 ≤ length (waiting_in c.self.inside.sizes.items c.self.inside.queues.items c.args.size) =
    subst (λ (v : PoolsValue). 1 ≤ length (waits v c.args.size)) (sym c.self.view_is) c.requires in
    subst (λ (v : PoolsValue). Takes v c.args.size (record { sizes = c.self.inside.sizes.items; queues = set c.self.inside.queues.items c.place_of-place.result c.take.new.self; spare = c.self.inside.spare })) c.self.view_is
    (takes_at c.self.inside.sizes.items c.self.inside.queues.items c.self.inside.spare c.args.size c.place_of-place.result c.index_mut.result.now c.take.new.self c.self.invariant
    (omega (arith, c.as_slice.ensures.fits, ap (λ (xs : List ℕ). length xs) c.as_slice.ensures.value))
    (c.place_of-place.ensures.place ∙ ap (λ (xs : List ℕ). place_in c.args.size xs) c.as_slice.ensures.value)
    (waits_among c.args.size c.self.inside.sizes.items c.self.inside.queues.items some) c.index_mut.ensures.value c.take.ensures.numbers)
