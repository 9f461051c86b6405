-- That the queues of clients are not freed, over what is done at the pairs.
use Rattle.std.proofs.Common.{◌≡◌, ◌≢◌, ◌∙◌, ◌⊎◌, inl, inr, ℕ, ◌==◌, ◌&&◌, ◌||◌, Bool, true, false, List, Option, Some, IfSome, slice_get, slice_set, refl, sym, ap, subst}
use Rattle.std.proofs.lemmas.Bool.{eq-eqb}
use Rattle.std.proofs.lemmas.Option.{slice_get_within}
use Rattle.boot_text.specs.declared.plan.Line.{Line}
use Rattle.vcpu_run.specs.declared.pair.Pair.{Pair}
use Rattle.vcpu_run.specs.declared.unit_seat.Seat.{Seat}
use Rattle.vcpu_run.specs.declared.unit_seat.Seat.TheVariants as sits
use Rattle.vcpu_run.specs.Freed.{FreesNoneAt, FreesNoneIf, IsNotFreed}
use Rattle.vcpu_run.specs.Freeing.{IsSpared, NoneSits, is_reset}
use Rattle.vcpu_run.specs.Suited.{is_call}
use Rattle.vcpu_run.specs.Works.{fails}
use Rattle.vcpu_run.proofs.Driving.{get_set_other, get_set_same, same_or}
use Rattle.vcpu_run.proofs.Announcing.{both_bools}

-- one turn behind another, of as many pairs or of fewer
pub frees_same : (P : ℕ → Type 0) (pairs : List Pair) → FreesNoneIf P pairs pairs
frees_same P pairs k p kept = kept

pub frees_on : (P : ℕ → Type 0) (a b c : List Pair) → FreesNoneIf P a b → FreesNoneIf P b c → FreesNoneIf P a c
frees_on P a b c first next k p kept = next k p (first k p kept)

pub frees_less : (P Q : ℕ → Type 0) (a b : List Pair) → ((k : ℕ) → Q k → P k) → FreesNoneIf P a b → FreesNoneIf Q a b
frees_less P Q a b less turn k q kept = turn k (less k q) kept

-- a turn at one pair
if_some : {X : Type 0} (P : X → Type 0) (o : Option X) (x : X) → o ≡ Some x → P x → IfSome o P
if_some P o x is h = subst (λ o. IfSome o P) (sym is) h

some_if : {X : Type 0} (P : X → Type 0) (o : Option X) (x : X) → o ≡ Some x → IfSome o P → P x
some_if P o x is h = subst (λ o. IfSome o P) is h

pub frees_set : (P : ℕ → Type 0) (pairs : List Pair) (i : ℕ) (old new : Pair) → slice_get pairs i ≡ Some old → (P i → FreesNoneAt old new)
    → FreesNoneIf P pairs (slice_set pairs i new)
frees_set P pairs i old new there turn k p kept = at (same_or k i)
  where
    at : (k ≡ i) ⊎ (k ≢ i) → IfSome (slice_get (slice_set pairs i new) k) IsNotFreed
    at (inl e) =
        let here : slice_get pairs k ≡ Some old = ap (λ n. slice_get pairs n) e ∙ there in
        let now : slice_get (slice_set pairs i new) k ≡ Some new =
        ap (λ n. slice_get (slice_set pairs i new) n) e ∙ get_set_same pairs i new (slice_get_within pairs i old there) in
        if_some IsNotFreed (slice_get (slice_set pairs i new) k) new now (turn (subst P e p) (some_if IsNotFreed (slice_get pairs k) old here kept))
    at (inr apart) = subst (λ o. IfSome o IsNotFreed) (sym (get_set_other pairs i k new apart)) kept

pub frees_other : (pairs : List Pair) (i : ℕ) (new : Pair) → FreesNoneIf (λ k. k ≢ i) pairs (slice_set pairs i new)
frees_other pairs i new k apart kept = subst (λ o. IfSome o IsNotFreed) (sym (get_set_other pairs i k new apart)) kept

-- a line at its unit
both_false : (a b c : Bool) → ((a || b) || c) ≡ false → (a ≡ false) × (b ≡ false) × (c ≡ false)
both_false false false c e = (refl, refl, e)
both_false true b c e = cc
both_false false true c e = cc

own_reset : (verb : Bool) (n : ℕ) → (verb && (n == n)) ≡ false → verb ≡ false
own_reset false n e = refl
own_reset true n e = sym (eq-eqb n n refl) ∙ e

pub frees_line : (seats : List Seat) (line : Line) (i : ℕ) (old new : List Pair) → slice_get seats line.unit ≡ Some (sits.Client i)
    → FreesNoneIf (λ k. k ≡ i → is_reset line.verb ≡ false) old new → FreesNoneIf (IsSpared seats line) old new
frees_line seats line i old new here turn =
    frees_less (λ k. k ≡ i → is_reset line.verb ≡ false) (IsSpared seats line) old new
    (λ k spared same.
    own_reset (is_reset line.verb) line.unit
    (both_false (is_call line.verb) (fails line.verb) (is_reset line.verb && (line.unit == line.unit))
    (spared line.unit (here ∙ ap (λ n. Some (sits.Client n)) (sym same)))).2) turn

pub frees_call : (seats : List Seat) (line : Line) (old new : List Pair) → is_call line.verb ≡ true → FreesNoneIf (NoneSits seats) old new
    → FreesNoneIf (IsSpared seats line) old new
frees_call seats line old new calls turn =
    frees_less (NoneSits seats) (IsSpared seats line) old new
    (λ k spared u at.
    both_bools (is_call line.verb) calls (both_false (is_call line.verb) (fails line.verb) (is_reset line.verb && (line.unit == u)) (spared u at)).0) turn
