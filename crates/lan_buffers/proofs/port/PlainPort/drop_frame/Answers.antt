use Rattle.std.proofs.Common.{◌≡◌, ◌<◌, ℕ, List, true≢false, refl, sym, ◌∙◌, ap, subst, All}
use Rattle.lan_buffers.specs.Port.{PortValue, now}
use Rattle.lan_buffers.specs.Pools.{sizes_of}
use Rattle.lan_buffers.proofs.port.PlainPort.drop_frame.Goals as goal

pub returns-then-are_below-clause-no_size : goal.returns-then-are_below-clause-no_size
returns-then-are_below-clause-no_size c =
    let is : c.self.inside.pools.sizes ≡ sizes_of (now c.args.self.now).posts = c.self.invariant.kept.pools_are.sizes ∙ ap (λ (v : PortValue). sizes_of (now v).posts) c.self.view_is in
    (λ _. subst (λ (l : List ℕ). All (λ (size : ℕ). size < c.args.need) l) is (c.are_below-are_below.ensures.0 c.if-are_below.true), λ _. refl)

pub returns-then-are_below-clause-no_buffer : goal.returns-then-are_below-clause-no_buffer
returns-then-are_below-clause-no_buffer c =
    let is : c.self.inside.pools.sizes ≡ sizes_of (now c.args.self.now).posts = c.self.invariant.kept.pools_are.sizes ∙ ap (λ (v : PortValue). sizes_of (now v).posts) c.self.view_is in
    (λ e. cc (e), λ large. absurd (large (subst (λ (l : List ℕ). All (λ (size : ℕ). size < c.args.need) l) is (c.are_below-are_below.ensures.0 c.if-are_below.true))))

pub returns-else-are_below-clause-no_size : goal.returns-else-are_below-clause-no_size
returns-else-are_below-clause-no_size c =
    let is : c.self.inside.pools.sizes ≡ sizes_of (now c.args.self.now).posts = c.self.invariant.kept.pools_are.sizes ∙ ap (λ (v : PortValue). sizes_of (now v).posts) c.self.view_is in
    (λ e. cc (e), λ all. absurd (true≢false (sym (c.are_below-are_below.ensures.1 (subst (λ (l : List ℕ). All (λ (size : ℕ). size < c.args.need) l) (sym is) all)) ∙ c.if-are_below.false)))

pub returns-else-are_below-clause-no_buffer : goal.returns-else-are_below-clause-no_buffer
returns-else-are_below-clause-no_buffer c =
    let is : c.self.inside.pools.sizes ≡ sizes_of (now c.args.self.now).posts = c.self.invariant.kept.pools_are.sizes ∙ ap (λ (v : PortValue). sizes_of (now v).posts) c.self.view_is in
    (λ _. λ all. true≢false (sym (c.are_below-are_below.ensures.1 (subst (λ (l : List ℕ). All (λ (size : ℕ). size < c.args.need) l) (sym is) all)) ∙ c.if-are_below.false), λ _. refl)
