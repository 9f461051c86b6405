use Rattle.std.proofs.Common.{arith, ◌≡◌, ℕ, [], ◌∷◌, List, length, length-append, false, sym, ◌∙◌, ap, subst}
use Rattle.lan_buffers.specs.Pools.{has_size}
use Rattle.lan_buffers.specs.Kept.{PoolsValue, place_in, waits, waiting_in}
use Rattle.lan_buffers.proofs.Pooling.{waits_new, place_new, apart_new, absent_at}
use Rattle.lan_buffers.proofs.pools.Pools.place_for.Goals as goal

last_place : (c : goal.After-push) → place_in c.args.size c.self.inside.sizes.items ≡ length c.self.inside.sizes.items
last_place c =
    ap (λ (xs : List ℕ). place_in c.args.size xs) (sym c.as_slice.ensures.value) ∙ sym c.place_of-place.ensures.place ∙ c.if-place-len.true ∙ c.len.ensures.value

pub invariant_of-self : goal.invariant_of-self
invariant_of-self c =
    rw c.push.ensures.items (record {
      apart = apart_new c.args.size c.self.inside.sizes.items c.self.invariant.apart (absent_at c.args.size c.self.inside.sizes.items (last_place c));
      eight = c.self.invariant.eight;
      unused = λ place d from below. c.self.invariant.unused place d (omega (arith, from, length-append c.self.inside.sizes.items (c.args.size ∷ []))) below;
      roomy = c.self.invariant.roomy;
    })

pub returns-then-place-len-clause-waiting : goal.returns-then-place-len-clause-waiting
returns-then-place-len-clause-waiting c = λ other.
    subst (λ (v : PoolsValue). waiting_in c.push.new.self.items c.self.inside.queues.items other ≡ waits v other) c.self.view_is
    (rw c.push.ensures.items (waits_new c.args.size other c.self.inside.sizes.items c.self.inside.queues.items
    (λ d. c.self.invariant.unused (length c.self.inside.sizes.items) d (omega arith)
    (omega (
      arith,
      c.len.ensures.fits,
      c.len.ensures.value,
      subst (λ (v : PoolsValue). has_size c.args.size v.sizes ≡ false → length v.sizes ≡ 8 → ⊥) (sym c.self.view_is) c.requires.few
          (absent_at c.args.size c.self.inside.sizes.items (last_place c)),
    )))))

pub returns-then-place-len-clause-place : goal.returns-then-place-len-clause-place
returns-then-place-len-clause-place c =
    rw c.push.ensures.items (c.if-place-len.true ∙ c.len.ensures.value ∙ sym (place_new c.args.size c.self.inside.sizes.items (absent_at c.args.size c.self.inside.sizes.items (last_place c))))
