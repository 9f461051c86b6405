-- The pins that seats have on an entry, and how a seat's step changes their sum.
use Rattle.std.proofs.Common.{◌≡◌, ◌≢◌, ℕ, zero, suc, ◌+◌, ◌-◌, ◌<◌, ◌≤◌, ◌⊎◌, ◌&&◌, ◌==◌, if◌then◌else◌, Bool, true, false, List, [], ◌∷◌, set, sym, refl, ap, ◌∙◌, inl, inr, ⊎_elim, arith, ne_eqb}
use Rattle.std.specs.Prelude.{nat_le, nat_lt}
use Rattle.std.proofs.lemmas.Bool.Decides.{leb_tells, eqb_tells}
use mathlib.Core.Option.{some, some-injective, some-ne-none}
use lib.ListN.{get_elem?}
use Rattle.entry_slots.specs.EntryRule.{pins_at, pins_on, all_shares}
use Rattle.entry_slots.specs.EntrySteps.{pinning, unpinning}
use Rattle.tce_window.specs.declared.answers.TceRow.{TceRow}
use Rattle.entry_slots.specs.declared.view.EntryView.{EntryView}

-- 1 for a number of a range of c numbers from f on, else 0
abbrev one_in : (f c e : ℕ) → ℕ
one_in f c e = if nat_le f e && nat_lt e (f + c) then 1 else 0

pub range_tells : (f c e : ℕ) → ((one_in f c e ≡ 1) × ((f ≤ e) × (e < f + c))) ⊎ ((one_in f c e ≡ 0) × ((e < f) ⊎ (f + c ≤ e)))
range_tells f c e = ⊎_elim
    (λ (low : (nat_le f e ≡ true) × (f ≤ e)). ⊎_elim
    (λ (high : (nat_le (suc e) (f + c) ≡ true) × (suc e ≤ f + c)). inl (ap (λ (b : Bool × Bool). if b.0 && b.1 then 1 else 0) (λ i. (low.0 i, high.0 i)), (low.1, omega (arith, high.1))))
    (λ (high : (nat_le (suc e) (f + c) ≡ false) × (f + c < suc e)). inr (ap (λ (b : Bool × Bool). if b.0 && b.1 then 1 else 0) (λ i. (low.0 i, high.0 i)), inr (omega (arith, high.1))))
    (leb_tells (suc e) (f + c)))
    (λ (low : (nat_le f e ≡ false) × (e < f)). inr (ap (λ (b : Bool). if b && nat_lt e (f + c) then 1 else 0) low.0, inl low.1))
    (leb_tells f e)

-- the pins of a view, by its numbers
pub pins_tell : (v : EntryView) (e : ℕ) → ((pins_at v e ≡ 1) × ((v.held_from ≤ e) × (e < v.held_from + v.held_count))) ⊎ ((pins_at v e ≡ 0) × ((e < v.held_from) ⊎ (v.held_from + v.held_count ≤ e)))
pins_tell v e = range_tells v.held_from v.held_count e

-- the sum after one view changes
pub pins_set : (e : ℕ) (vs : List EntryView) (i : ℕ) (v w : EntryView) → get_elem? vs i ≡ some v → pins_on e (set vs i w) + pins_at v e ≡ pins_on e vs + pins_at w e
pins_set e [] i v w at = absurd (some-ne-none v (sym at))
pins_set e (x ∷ xs) zero v w at = let is : pins_at x e ≡ pins_at v e = ap (λ (z : EntryView). pins_at z e) (some-injective x v at) in
    let a : ℕ = pins_at x e in let b : ℕ = pins_at v e in let c : ℕ = pins_at w e in let is' : a ≡ b = is in let goal : (c + pins_on e xs) + b ≡ (a + pins_on e xs) + c = omega (arith, is') in goal
pins_set e (x ∷ xs) (suc i) v w at = let more = pins_set e xs i v w at in
    let a : ℕ = pins_at x e in let b : ℕ = pins_at v e in let c : ℕ = pins_at w e in let m : ℕ = pins_on e (set xs i w) in let k : ℕ = pins_on e xs in let more' : m + b ≡ k + c = more in
    let goal : (a + m) + b ≡ (a + k) + c = omega (arith, more') in goal

-- the pins of one seat are among all
pub own_pins : (e : ℕ) (vs : List EntryView) (i : ℕ) (v : EntryView) → get_elem? vs i ≡ some v → pins_at v e ≤ pins_on e vs
own_pins e [] i v at = absurd (some-ne-none v (sym at))
own_pins e (x ∷ xs) zero v at = let is : pins_at x e ≡ pins_at v e = ap (λ (z : EntryView). pins_at z e) (some-injective x v at) in
    let a : ℕ = pins_at x e in let b : ℕ = pins_at v e in let is' : a ≡ b = is in let goal : b ≤ a + pins_on e xs = omega (arith, is') in goal
own_pins e (x ∷ xs) (suc i) v at = let more = own_pins e xs i v at in
    let a : ℕ = pins_at x e in let b : ℕ = pins_at v e in let k : ℕ = pins_on e xs in let more' : b ≤ k = more in let goal : b ≤ a + k = omega (arith, more') in goal

-- a front of a list of views that all have at most their shares
pub pins_few : (e : ℕ) (vs : List EntryView) → ((j : ℕ) (v : EntryView) → get_elem? vs j ≡ some v → pins_at v e ≤ v.share) → pins_on e vs ≤ all_shares vs
pins_few e [] h = omega arith
pins_few e (x ∷ xs) h = let a = h 0 x refl in let b = pins_few e xs (λ j v at. h (suc j) v at) in
    let p : ℕ = pins_at x e in let m : ℕ = pins_on e xs in let a' : p ≤ x.share = a in let b' : m ≤ all_shares xs = b in let goal : p + m ≤ x.share + all_shares xs = omega (arith, a', b') in goal

pub shares_set : (vs : List EntryView) (i : ℕ) (v w : EntryView) → get_elem? vs i ≡ some v → all_shares (set vs i w) + v.share ≡ all_shares vs + w.share
shares_set [] i v w at = absurd (some-ne-none v (sym at))
shares_set (x ∷ xs) zero v w at = let is : x.share ≡ v.share = ap (λ (z : EntryView). z.share) (some-injective x v at) in omega (arith, is)
shares_set (x ∷ xs) (suc i) v w at = let more = shares_set xs i v w at in omega (arith, more)

-- An entry that continues what the seat holds, or any where it holds nothing.
abbrev pub Continues : EntryView → ℕ → Type 0
Continues v e = (v.held_count ≡ 0) ⊎ ((0 < v.held_count) × (v.held_from + v.held_count ≡ e))

from_now : (c f e : ℕ) → (c ≡ 0) ⊎ ((0 < c) × (f + c ≡ e)) → (if c == 0 then e else f) + c ≡ e
from_now zero f e h = omega arith
from_now (suc c) f e h = ap (λ (b : Bool). (if b then e else f) + suc c) (ne_eqb (suc c) 0 (λ z. absurd (omega (arith, z)))) ∙ ⊎_elim (λ z. absurd (omega (arith, z))) (λ t. t.1) h

lt_of_le_ne : (i e : ℕ) → i ≤ e → i ≢ e → i < e
lt_of_le_ne i e le o = ⊎_elim (λ t. absurd (o t.1)) (λ t. omega (arith, le, t)) (eqb_tells i e)

same_from : (c g e : ℕ) → 0 < c → (if c == 0 then e else g) ≡ g
same_from c g e h = ap (λ (b : Bool). if b then e else g) (ne_eqb c 0 (λ z. absurd (omega (arith, z, h))))

module _ (v : EntryView) (e word : ℕ) (rows : List TceRow) (on : Continues v e) where
  abbrev w : EntryView
  w = pinning v e word rows

  -- the entry that is pinned had no pin of the seat, and has one
  pub pinning_here : (pins_at v e ≡ 0) × (pins_at w e ≡ 1)
  pinning_here = let ends : w.held_from + v.held_count ≡ e = from_now v.held_count v.held_from e on in
      let f : ℕ = w.held_from in let c : ℕ = v.held_count in let ends' : f + c ≡ e = ends in (
        ⊎_elim (λ t. ⊎_elim (λ z. let a = t.1.0 in let b = t.1.1 in absurd (omega (arith, a, b, z))) (λ z. let b = t.1.1 in let y = z.1 in absurd (omega (arith, b, y))) on) (λ t. t.0) (pins_tell v e),
        ⊎_elim (λ t. t.0) (λ t. ⊎_elim (λ z. let low : e < f = z in absurd (omega (arith, low, ends'))) (λ z. let high : f + (c + 1) ≤ e = z in absurd (omega (arith, high, ends'))) t.1) (pins_tell w e),
      )

  -- and no other entry's pins change
  pub pinning_else : (i : ℕ) → i ≢ e → pins_at w i ≡ pins_at v i
  pinning_else i o = let ends : w.held_from + v.held_count ≡ e = from_now v.held_count v.held_from e on in let f : ℕ = w.held_from in let c : ℕ = v.held_count in let g : ℕ = v.held_from in let ends' : f + c ≡ e = ends in
      ⊎_elim
      (λ (a : (pins_at w i ≡ 1) × ((f ≤ i) × (i < f + (c + 1)))). ⊎_elim (λ b. a.0 ∙ sym b.0)
      (λ (b : (pins_at v i ≡ 0) × ((i < g) ⊎ (g + c ≤ i))). let low = a.1.0 in let high = a.1.1 in let less : i < e = lt_of_le_ne i e (omega (arith, high, ends')) o in
      ⊎_elim (λ z. let none : c ≡ 0 = z in absurd (omega (arith, none, low, less, ends'))) (λ z. let same : g + c ≡ e = z.1 in let some_c : 0 < c = z.0 in let is : f ≡ g = same_from c g e some_c in
      absurd (⊎_elim (λ q. let q' : i < g = q in omega (arith, q', low, is)) (λ q. let q' : g + c ≤ i = q in omega (arith, q', same, less)) b.1)) on)
      (pins_tell v i))
      (λ (a : (pins_at w i ≡ 0) × ((i < f) ⊎ (f + (c + 1) ≤ i))). ⊎_elim
      (λ (b : (pins_at v i ≡ 1) × ((g ≤ i) × (i < g + c))). let low = b.1.0 in let high = b.1.1 in
      ⊎_elim (λ z. let none : c ≡ 0 = z in absurd (omega (arith, none, low, high))) (λ z. let same : g + c ≡ e = z.1 in let some_c : 0 < c = z.0 in let is : f ≡ g = same_from c g e some_c in
      absurd (⊎_elim (λ q. let q' : i < f = q in omega (arith, q', low, is)) (λ q. let q' : f + (c + 1) ≤ i = q in omega (arith, q', high, is)) a.1)) on)
      (λ b. a.0 ∙ sym b.0)
      (pins_tell v i))
      (pins_tell w i)

-- a view holds an entry once at most
pub pins_once : (v : EntryView) (e : ℕ) → pins_at v e ≤ 1
pins_once v e = ⊎_elim (λ t. let is = t.0 in omega (arith, is)) (λ t. let is = t.0 in omega (arith, is)) (pins_tell v e)

module _ (v : EntryView) (word : ℕ) (some_held : 0 < v.held_count) where
  abbrev u : EntryView
  u = unpinning v word

  -- the entry that is released had a pin of the seat, and has none
  pub unpinning_here : (pins_at v v.held_from ≡ 1) × (pins_at u v.held_from ≡ 0)
  unpinning_here = let f : ℕ = v.held_from in let c : ℕ = v.held_count in (
    ⊎_elim (λ t. t.0) (λ (t : (pins_at v f ≡ 0) × ((f < f) ⊎ (f + c ≤ f))). absurd (⊎_elim (λ q. omega (arith, q)) (λ q. omega (arith, q, some_held)) t.1)) (pins_tell v f),
    ⊎_elim (λ (t : (pins_at u f ≡ 1) × ((f + 1 ≤ f) × (f < (f + 1) + (c - 1)))). let low = t.1.0 in absurd (omega (arith, low))) (λ t. t.0) (pins_tell u f),
  )

  pub unpinning_else : (i : ℕ) → i ≢ v.held_from → pins_at u i ≡ pins_at v i
  unpinning_else i o = let f : ℕ = v.held_from in let c : ℕ = v.held_count in ⊎_elim
      (λ (a : (pins_at u i ≡ 1) × ((f + 1 ≤ i) × (i < (f + 1) + (c - 1)))). ⊎_elim (λ b. a.0 ∙ sym b.0)
      (λ (b : (pins_at v i ≡ 0) × ((i < f) ⊎ (f + c ≤ i))). let low = a.1.0 in let high = a.1.1 in absurd (⊎_elim (λ q. omega (arith, q, low)) (λ q. omega (arith, q, high, some_held)) b.1)) (pins_tell v i))
      (λ (a : (pins_at u i ≡ 0) × ((i < f + 1) ⊎ ((f + 1) + (c - 1) ≤ i))). ⊎_elim
      (λ (b : (pins_at v i ≡ 1) × ((f ≤ i) × (i < f + c))). let low = b.1.0 in let high = b.1.1 in absurd (⊎_elim (λ q. o (omega (arith, q, low))) (λ q. omega (arith, q, high, some_held)) a.1))
      (λ b. a.0 ∙ sym b.0) (pins_tell v i))
      (pins_tell u i)
