use Rattle.std.proofs.Common.{arith, ◌≡◌, ◌≤◌, ℕ, List, length, true, sym, ◌∙◌, ap, subst, Some, slice_get}
use Rattle.lan_buffers.specs.Pools.{has_size}
use Rattle.lan_buffers.specs.Kept.{PoolsValue, place_in, waits, waiting_in}
use Rattle.lan_buffers.proofs.Pooling.{waits_among, queue_at}
use Rattle.lan_buffers.proofs.pools.Pools.oldest.Goals as goal

pub index-requires : goal.index-requires
index-requires c =
    let some : 1 ≤ length (waiting_in c.self.inside.sizes.items c.self.inside.queues.items c.args.size) =
    subst (λ (v : PoolsValue). 1 ≤ length (waits v c.args.size)) (sym c.self.view_is) c.requires in
    let has : has_size c.args.size c.as_slice.result.now ≡ true =
    rw c.as_slice.ensures.value (waits_among c.args.size c.self.inside.sizes.items c.self.inside.queues.items some) in
    omega (arith, c.place_of.ensures.among has, c.as_slice.ensures.fits, c.self.invariant.eight)

pub oldest-requires : goal.oldest-requires
oldest-requires c =
    let some : 1 ≤ length (waiting_in c.self.inside.sizes.items c.self.inside.queues.items c.args.size) =
    subst (λ (v : PoolsValue). 1 ≤ length (waits v c.args.size)) (sym c.self.view_is) c.requires in
    subst (λ (xs : List ℕ). 1 ≤ length xs)
    (queue_at c.self.inside.sizes.items c.self.inside.queues.items c.self.inside.spare c.args.size c.place_of.result c.index.result.now c.self.invariant
    (omega (arith, c.as_slice.ensures.fits, ap (λ (xs : List ℕ). length xs) c.as_slice.ensures.value))
    (c.place_of.ensures.place ∙ ap (λ (xs : List ℕ). place_in c.args.size xs) c.as_slice.ensures.value)
    (waits_among c.args.size c.self.inside.sizes.items c.self.inside.queues.items some) c.index.ensures) some

pub returns : goal.returns
returns c =
    let some : 1 ≤ length (waiting_in c.self.inside.sizes.items c.self.inside.queues.items c.args.size) =
    subst (λ (v : PoolsValue). 1 ≤ length (waits v c.args.size)) (sym c.self.view_is) c.requires in
    subst (λ (v : PoolsValue). slice_get (waits v c.args.size) 0 ≡ Some c.oldest.result) c.self.view_is
    (subst (λ (xs : List ℕ). slice_get xs 0 ≡ Some c.oldest.result)
    (sym (queue_at c.self.inside.sizes.items c.self.inside.queues.items c.self.inside.spare c.args.size c.place_of.result c.index.result.now c.self.invariant
    (omega (arith, c.as_slice.ensures.fits, ap (λ (xs : List ℕ). length xs) c.as_slice.ensures.value))
    (c.place_of.ensures.place ∙ ap (λ (xs : List ℕ). place_in c.args.size xs) c.as_slice.ensures.value)
    (waits_among c.args.size c.self.inside.sizes.items c.self.inside.queues.items some) c.index.ensures)) c.oldest.ensures)
