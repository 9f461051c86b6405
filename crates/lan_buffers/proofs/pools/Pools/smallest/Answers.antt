use Rattle.std.proofs.Common.{◌≡◌, ◌<◌, ◌≤◌, ℕ, [], Option, Some, None, IfSome, IfNone, length, subst, ap, arith}
use Rattle.lan_buffers.specs.Kept.{PoolsValue, waits, IsLeastOf}
use Rattle.lan_buffers.proofs.Pooling.{least_some, least_none}
use Rattle.lan_buffers.proofs.pools.Pools.smallest.Goals as goal

least : (need : ℕ) (pools : PoolsValue) (best : Option ℕ) → IsLeastOf need (waits pools) pools.sizes (length pools.sizes) best
    → IfSome best (λ size. (other : ℕ) → need ≤ other → other < size → waits pools other ≡ [])
least need pools None all = tt
least need pools (Some best) all = λ other fits below. least_some need pools.sizes pools.queues best other all fits below

none : (need : ℕ) (pools : PoolsValue) (best : Option ℕ) → IsLeastOf need (waits pools) pools.sizes (length pools.sizes) best
    → IfNone best ((other : ℕ) → need ≤ other → waits pools other ≡ [])
none need pools None all = λ other fits. least_none need pools.sizes pools.queues other all fits
none need pools (Some best) all = tt

whole : (c : goal.After-loop-place) → IsLeastOf c.args.need (waits c.args.self.now) c.args.self.now.sizes (length c.args.self.now.sizes) c.loop-place.best
whole c =
    let sizes : length c.self.inside.sizes.items ≡ length c.args.self.now.sizes = ap (λ (v : PoolsValue). length v.sizes) c.self.view_is in
    let last : c.loop-place.place ≡ length c.args.self.now.sizes = omega (arith, c.loop-place-test.false, c.loop-place.auto.place-end, c.len-place-end.ensures.value, sizes) in
    subst (λ n. IsLeastOf c.args.need (waits c.args.self.now) c.args.self.now.sizes n c.loop-place.best) last c.loop-place.invariant

pub returns-clause-least : goal.returns-clause-least
returns-clause-least c = least c.args.need c.args.self.now c.loop-place.best (whole c)

pub returns-clause-none : goal.returns-clause-none
returns-clause-none c = none c.args.need c.args.self.now c.loop-place.best (whole c)
