-- Pages that leave the slots of a closed table, one after another.
use Rattle.std.proofs.Common.{◌≡◌, ℕ, zero, suc, ◌+◌, ◌<◌, Bool, true, false, true≢false, List, [], ◌∷◌, ◌++◌, length, get_or, set, sym, refl, ap, ◌∙◌, subst, arith, get_or-set_other}
use Rattle.std.specs.Prelude.{None, Some}
use Rattle.std.proofs.Math.ListN.{get_or-append}
use Rattle.std.proofs.lemmas.List.{get_or_push}
use Rattle.std.specs.Mem.Slots.Ownership.{Filled}
use mathlib.Core.Logic.{dite}
use mathlib.Core.Option.{some, some-injective}
use native.Mathlib.Decide.{ℕ_discrete}
use lib.ListN.{get_elem?}
use Rattle.page_slots.specs.Page.{PageValue}
use Rattle.page_slots.specs.PageRule.{Slot, blank_page}
use Rattle.page_slots.specs.PageClosing.{HasPage, ArePages}

abbrev is_page : Slot → Bool
is_page None = false
is_page (Some page) = true

-- a slot with a page in it is not found empty
pub not_empty : (xs ys : List Slot) (k : ℕ) (found : Slot) (page : PageValue) → xs ≡ ys → get_elem? xs k ≡ some found → HasPage ys k page → found ≡ None → ⊥
not_empty xs ys k found page same e there none = let is : found ≡ Some page = some-injective found (Some page) (sym e ∙ (ap (λ l. get_elem? l k) same ∙ there)) in
    true≢false (sym (ap is_page (sym none ∙ is)))

set_false : (fs : List Bool) (k : ℕ) → get_or (set fs k false) k false ≡ false
set_false [] k = refl
set_false (f ∷ fs) zero = refl
set_false (f ∷ fs) (suc k) = set_false fs k

pub still_filled : (fs : List Bool) (k n : ℕ) → Filled fs k n → Filled (set fs k false) (k + 1) n
still_filled fs k n full j least below = get_or-set_other fs k j false false (λ e. absurd (omega (arith, e, least))) ∙ full j (omega (arith, least)) below

pub one_emptied : (fs : List Bool) (k : ℕ) → ((j : ℕ) → j < k → get_or fs j false ≡ false) → (j : ℕ) → j < k + 1 → get_or (set fs k false) j false ≡ false
one_emptied fs k old j below = dite (ℕ_discrete j k)
    (λ e. subst (λ i. get_or (set fs k false) i false ≡ false) (sym e) (set_false fs k))
    (λ o. get_or-set_other fs k j false false o ∙ old j (omega (arith, below, o)))

pub one_page : (xs : List Slot) (k : ℕ) (list : List PageValue) (page : PageValue) → length list ≡ k → ArePages xs k list → HasPage xs k page → ArePages xs (k + 1) (list ++ page ∷ [])
one_page xs k list page long old here j below = dite (ℕ_discrete j k)
    (λ e. subst (λ i. HasPage xs i (get_or (list ++ page ∷ []) i blank_page)) (sym e) (subst (HasPage xs k) (sym (get_or_push list page blank_page k long)) here))
    (λ o. let less : j < length list = omega (arith, below, o, long) in subst (HasPage xs j) (sym (get_or-append list (page ∷ []) blank_page j less)) (old j (omega (arith, below, o))))
