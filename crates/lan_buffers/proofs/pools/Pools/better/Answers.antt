use Rattle.std.proofs.Common.{arith, ◌≡◌, ◌+◌, ◌<◌, ◌≤◌, ℕ, List, length, get_or, Some, sym, ◌∙◌, ap, subst, true≢false}
use Rattle.lan_buffers.specs.Kept.{PoolsValue, QueueValue, waits, waiting_in, IsLeastOf, IsBetter}
use Rattle.lan_buffers.proofs.Pooling.{waits_own, least_better, least_other, same_read}
use Rattle.lan_buffers.proofs.pools.Pools.better.Goals as goal

pub returns-then-is_better : goal.returns-then-is_better
returns-then-is_better c =
    let sizes = c.self.inside.sizes.items in
    let queues = c.self.inside.queues.items in
    let within : c.args.place < length sizes = subst (λ (v : PoolsValue). c.args.place < length v.sizes) (sym c.self.view_is) c.requires.within in
    let few : length sizes ≤ 8 = omega (arith, c.as_slice.ensures.fits, ap (λ (xs : List ℕ). length xs) c.as_slice.ensures.value) in
    let size = get_or c.as_slice.result.now c.args.place 0 in
    let is : get_or sizes c.args.place 0 ≡ size = ap (λ (xs : List ℕ). get_or xs c.args.place 0) (sym c.as_slice.ensures.value) in
    let own : waiting_in sizes queues size ≡ c.index.result.now.numbers =
    ap (λ s. waiting_in sizes queues s) (sym is) ∙ waits_own sizes queues c.self.inside.spare c.args.place 0 c.index.result.now c.self.invariant few within
    ∙ ap (λ (q : QueueValue). q.numbers) (sym c.index.ensures) in
    subst (λ (v : PoolsValue). IsLeastOf c.args.need (waits v) v.sizes (c.args.place + 1) (Some size)) c.self.view_is
    (least_better c.args.need (waiting_in sizes queues) sizes c.args.place size c.args.best
    (subst (λ (v : PoolsValue). IsLeastOf c.args.need (waits v) v.sizes c.args.place c.args.best) (sym c.self.view_is) c.requires.before)
    (λ d. same_read sizes c.args.place d 0 within ∙ is)
    (subst (λ (xs : List ℕ). IsBetter xs c.args.need size c.args.best) (sym own) (c.is_better.ensures.0 c.if-is_better.true)))

pub returns-else-is_better : goal.returns-else-is_better
returns-else-is_better c =
    let sizes = c.self.inside.sizes.items in
    let queues = c.self.inside.queues.items in
    let within : c.args.place < length sizes = subst (λ (v : PoolsValue). c.args.place < length v.sizes) (sym c.self.view_is) c.requires.within in
    let few : length sizes ≤ 8 = omega (arith, c.as_slice.ensures.fits, ap (λ (xs : List ℕ). length xs) c.as_slice.ensures.value) in
    let size = get_or c.as_slice.result.now c.args.place 0 in
    let is : get_or sizes c.args.place 0 ≡ size = ap (λ (xs : List ℕ). get_or xs c.args.place 0) (sym c.as_slice.ensures.value) in
    let own : waiting_in sizes queues size ≡ c.index.result.now.numbers =
    ap (λ s. waiting_in sizes queues s) (sym is) ∙ waits_own sizes queues c.self.inside.spare c.args.place 0 c.index.result.now c.self.invariant few within
    ∙ ap (λ (q : QueueValue). q.numbers) (sym c.index.ensures) in
    subst (λ (v : PoolsValue). IsLeastOf c.args.need (waits v) v.sizes (c.args.place + 1) c.args.best) c.self.view_is
    (least_other c.args.need (waiting_in sizes queues) sizes c.args.place size c.args.best
    (subst (λ (v : PoolsValue). IsLeastOf c.args.need (waits v) v.sizes c.args.place c.args.best) (sym c.self.view_is) c.requires.before)
    (λ d. same_read sizes c.args.place d 0 within ∙ is)
    (λ better. true≢false (sym (c.is_better.ensures.1 (subst (λ (xs : List ℕ). IsBetter xs c.args.need size c.args.best) own better)) ∙ c.if-is_better.false)))
