-- From what a seat keeps to what its steps ask, and what these tell.
use Rattle.std.proofs.Common.{◌≡◌, ℕ, ◌<◌, true, List, [], ◌∷◌, sym, refl, ap, ◌∙◌, subst, ⊎_elim, arith, bit_or, bit_and}
use Rattle.std.specs.Prelude.{None, Some}
use mathlib.Core.Option.{none}
use Rattle.atomic_table.specs.Table.{step, rest, Allows}
use Rattle.page_slots.specs.Page.{PageValue}
use Rattle.vio_num.specs.Words.{Begins}
use Rattle.page_slots.specs.PageRule.{Slot, seen_of, held_of, InTurn}
use Rattle.page_slots.specs.PageSteps.{Seated, out_with, turned, reached, returned}
use Rattle.page_slots.specs.declared.view.PageView.{PageView}
use Rattle.page_slots.proofs.PageAllows.{turns, reaches, returns_turn}

-- A seat between two calls, at a table of n pages, and one of these.
pub record Sits (n k : ℕ) (me : Seated) : Type 0 where
  pub share : 0 < me.0.share
  pub out : me.1 ≡ out_with me.0.carried
  pub inside : k < n

module _ (n seats slots id k : ℕ) (me : Seated) (sits : Sits n k me) where
  seated : (F : Seated → Type 0) → F (me.0, out_with me.0.carried) → F me
  seated F h = subst F (λ i. (me.0, sym sits.out i)) h

  pub take_asks : Allows (InTurn n seats) slots id me k (λ x. bit_or x 1) (turned (step slots k 1 0 none) me)
  take_asks = seated (λ m. Allows (InTurn n seats) slots id m k (λ x. bit_or x 1) (turned (step slots k 1 0 none) m)) (turns n seats id me.0 sits.share slots k sits.inside)

  pub reach_asks : held_of me.0 k ≡ true → Allows (InTurn n seats) slots id me k (λ x. x) (reached (step slots k 0 0 none) me)
  reach_asks held = seated (λ m. Allows (InTurn n seats) slots id m k (λ x. x) (reached (step slots k 0 0 none) m)) (reaches n seats id me.0 sits.share slots k sits.inside held)

-- a free turn leaves the page in the slot that is out
pub page_out : (slots k word : ℕ) (m m' : Seated) → turned (step slots k 1 0 none) m word m' → word ≡ 0 → (x : Slot) × (m'.1 ≡ (k, x) ∷ rest m'.1)
page_out slots k word m m' told free = ⊎_elim (λ t. let one : word ≡ 1 = t.0 in absurd (omega (arith, one, free)))
    (λ t. let h = t.1 in (Some h.page, ap (λ (z : Seated). z.1) h.after ∙ ap (λ (l : List (ℕ × Slot)). (k, Some h.page) ∷ l) (ap (λ (z : Seated). rest z.1) (sym h.after)))) told

-- a seat that carries the slot of a page in its hand, with the page in it, may return the turn
pub return_asks : (n seats slots id k : ℕ) (me reached_me me' : Seated) (page : PageValue) → Sits n k me → held_of me.0 k ≡ true → Begins (seen_of me.0 k) page.strokes
    → reached_me ≡ (record me.0 { carried = Some k }, (k, None) ∷ []) → me' ≡ (reached_me.0, (k, Some page) ∷ rest reached_me.1)
    → Allows (InTurn n seats) slots id me' k (λ x. bit_and x 18446744073709551614) (returned (step slots k 18446744073709551614 0 none) me')
return_asks n seats slots id k me m1 me' page sits held more e e' = let v : PageView = record me.0 { carried = Some k } in
    let is : me' ≡ (v, (k, Some page) ∷ []) = e' ∙ ap (λ (z : Seated). (z.0, (k, Some page) ∷ rest z.1)) e in
    subst (λ m. Allows (InTurn n seats) slots id m k (λ x. bit_and x 18446744073709551614) (returned (step slots k 18446744073709551614 0 none) m)) (sym is)
    (returns_turn n seats id v sits.share slots k page sits.inside refl held more)
