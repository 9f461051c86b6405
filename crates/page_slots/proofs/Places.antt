-- Places of the strokes that one seat laid, and of those that two laid together.
use Rattle.std.proofs.Common.{◌≡◌, ◌≢◌, ℕ, zero, suc, eqb, eq-eqb, ne_eqb, ◌+◌, ◌<◌, ◌≤◌, List, [], ◌∷◌, ◌++◌, sym, refl, ap, ◌∙◌, subst, arith}
use Rattle.std.specs.Prelude.{if◌then◌else◌}
use Rattle.std.proofs.lemmas.Bool.Decides.{nat_tests}
use mathlib.Core.List.{append-nil}
use mathlib.Core.Logic.{dite}
use native.Mathlib.Decide.{dec_le, ℕ_discrete}
use Rattle.page_slots.specs.Seats.{places_from, with_place, joined}
use Rattle.page_slots.specs.PageRule.{laid_by}

if_same : {A : Type 0} (a b : ℕ) (x y : A) → a ≡ b → (if eqb a b then x else y) ≡ x
if_same a b x y e = ap (λ c. if c then x else y) (eq-eqb a b e)

if_other : {A : Type 0} (a b : ℕ) (x y : A) → a ≢ b → (if eqb a b then x else y) ≡ y
if_other a b x y e = ap (λ c. if c then x else y) (ne_eqb a b e)

-- the author of each place, where the seat j laid all from the place m on
abbrev pub later : (ℕ → ℕ) → ℕ → ℕ → ℕ → ℕ
later author m j i = elim (dec_le m i) [ yes _ ↦ j | no _ ↦ author i ]

pub later_from : (author : ℕ → ℕ) (m j i : ℕ) → m ≤ i → later author m j i ≡ j
later_from author m j i h = elim (dec_le m i) as (λ d. elim d [ yes _ ↦ j | no _ ↦ author i ] ≡ j) [ yes _ ↦ refl | no d ↦ absurd (d h) ]

pub later_below : (author : ℕ → ℕ) (m j i : ℕ) → i < m → later author m j i ≡ author i
later_below author m j i h = elim (dec_le m i) as (λ d. elim d [ yes _ ↦ j | no _ ↦ author i ] ≡ author i) [ yes d ↦ absurd (omega arith) | no _ ↦ refl ]

-- the author of each place, where what the seat k laid is said to be laid by the seat j
abbrev pub renamed : (ℕ → ℕ) → ℕ → ℕ → ℕ → ℕ
renamed author j k i = elim (ℕ_discrete (author i) k) [ yes _ ↦ j | no _ ↦ author i ]

pub renamed_same : (author : ℕ → ℕ) (j k i : ℕ) → author i ≡ k → renamed author j k i ≡ j
renamed_same author j k i h = elim (ℕ_discrete (author i) k) as (λ d. elim d [ yes _ ↦ j | no _ ↦ author i ] ≡ j) [ yes _ ↦ refl | no d ↦ absurd (d h) ]

pub renamed_other : (author : ℕ → ℕ) (j k i : ℕ) → author i ≢ k → renamed author j k i ≡ author i
renamed_other author j k i h = elim (ℕ_discrete (author i) k) as (λ d. elim d [ yes _ ↦ j | no _ ↦ author i ] ≡ author i) [ yes d ↦ absurd (h d) | no _ ↦ refl ]

-- one more place, whose author is the seat or another
here : (j : ℕ) (author : ℕ → ℕ) (first count : ℕ) → author first ≡ j → laid_by j author first (suc count) ≡ first ∷ laid_by j author (first + 1) count
here j author first count e = if_same (author first) j (first ∷ laid_by j author (first + 1) count) (laid_by j author (first + 1) count) e

passed : (j : ℕ) (author : ℕ → ℕ) (first count : ℕ) → author first ≢ j → laid_by j author first (suc count) ≡ laid_by j author (first + 1) count
passed j author first count e = if_other (author first) j (first ∷ laid_by j author (first + 1) count) (laid_by j author (first + 1) count) e

-- the places only depend on the authors of these
pub laid_by-same : (j : ℕ) (a b : ℕ → ℕ) (first count : ℕ) → ((i : ℕ) → first ≤ i → i < first + count → (a i ≡ j → b i ≡ j) × (a i ≢ j → b i ≢ j)) → laid_by j b first count ≡ laid_by j a first count
laid_by-same j a b first zero h = refl
laid_by-same j a b first (suc count) h = let now = h first (omega arith) (omega arith) in
    let rest = laid_by-same j a b (first + 1) count (λ i least most. h i (omega (arith, least)) (omega (arith, most))) in dite (ℕ_discrete (a first) j)
    (λ e. here j b first count (now.0 e) ∙ (ap (λ l. first ∷ l) rest ∙ sym (here j a first count e)))
    (λ ne. passed j b first count (now.1 ne) ∙ (rest ∙ sym (passed j a first count ne)))

pub laid_by-append : (j : ℕ) (a : ℕ → ℕ) (first c d : ℕ) → laid_by j a first (c + d) ≡ laid_by j a first c ++ laid_by j a (first + c) d
laid_by-append j a first zero d = let is : first ≡ first + 0 = omega arith in let long : 0 + d ≡ d = omega arith in λ i. laid_by j a (is i) (long i)
laid_by-append j a first (suc c) d = let is : first + 1 + c ≡ first + suc c = omega arith in
    let rest : laid_by j a (first + 1) (c + d) ≡ laid_by j a (first + 1) c ++ laid_by j a (first + suc c) d =
    subst (λ (n : ℕ). laid_by j a (first + 1) (c + d) ≡ laid_by j a (first + 1) c ++ laid_by j a n d) is (laid_by-append j a (first + 1) c d) in
    let long : suc c + d ≡ suc (c + d) = omega arith in ap (λ (n : ℕ). laid_by j a first n) long ∙ dite (ℕ_discrete (a first) j)
    (λ e. here j a first (c + d) e ∙ (ap (λ l. first ∷ l) rest ∙ ap (λ l. l ++ laid_by j a (first + suc c) d) (sym (here j a first c e))))
    (λ ne. passed j a first (c + d) ne ∙ (rest ∙ ap (λ l. l ++ laid_by j a (first + suc c) d) (sym (passed j a first c ne))))

pub laid_by-all : (j : ℕ) (a : ℕ → ℕ) (first count : ℕ) → ((i : ℕ) → first ≤ i → i < first + count → a i ≡ j) → laid_by j a first count ≡ places_from first count
laid_by-all j a first zero h = refl
laid_by-all j a first (suc count) h = here j a first count (h first (omega arith) (omega arith))
    ∙ ap (λ l. first ∷ l) (laid_by-all j a (first + 1) count (λ i least most. h i (omega (arith, least)) (omega (arith, most))))

pub laid_by-none : (j : ℕ) (a : ℕ → ℕ) (first count : ℕ) → ((i : ℕ) → first ≤ i → i < first + count → a i ≢ j) → laid_by j a first count ≡ []
laid_by-none j a first zero h = refl
laid_by-none j a first (suc count) h = passed j a first count (h first (omega arith) (omega arith))
    ∙ laid_by-none j a (first + 1) count (λ i least most. h i (omega (arith, least)) (omega (arith, most)))

-- the seat j lays d more strokes: its own places are those too, and the others' stay
module _ (j : ℕ) (a : ℕ → ℕ) (m d : ℕ) where
  first_stay : (i : ℕ) → laid_by i (later a m j) 0 m ≡ laid_by i a 0 m
  first_stay i = laid_by-same i a (later a m j) 0 m (λ k _ below. let same = later_below a m j k (omega (arith, below)) in ((λ e. same ∙ e), λ ne e. ne (sym same ∙ e)))

  cut : (i : ℕ) → laid_by i (later a m j) 0 (m + d) ≡ laid_by i (later a m j) 0 m ++ laid_by i (later a m j) m d
  cut i = let z : 0 + m ≡ m = omega arith in laid_by-append i (later a m j) 0 m d ∙ ap (λ n. laid_by i (later a m j) 0 m ++ laid_by i (later a m j) n d) z

  pub laid_more : laid_by j (later a m j) 0 (m + d) ≡ laid_by j a 0 m ++ places_from m d
  laid_more = cut j ∙ (λ x. first_stay j x ++ laid_by-all j (later a m j) m d (λ k least _. later_from a m j k least) x)

  pub laid_same : (i : ℕ) → i ≢ j → laid_by i (later a m j) 0 (m + d) ≡ laid_by i a 0 m
  laid_same i other = cut i
      ∙ ((λ x. first_stay i x ++ laid_by-none i (later a m j) m d (λ k least _ e. other (sym e ∙ later_from a m j k least)) x) ∙ append-nil (laid_by i a 0 m))

-- all these places are at least the first
abbrev AreFrom : ℕ → List ℕ → Type 0
AreFrom first [] = Unit {0}
AreFrom first (place ∷ places) = (first ≤ place) × AreFrom first places

less_from : (first first' : ℕ) (l : List ℕ) → first' ≤ first → AreFrom first l → AreFrom first' l
less_from first first' [] le h = tt
less_from first first' (x ∷ xs) le h = (omega (arith, le, h.0), less_from first first' xs le h.1)

laid_from : (j : ℕ) (a : ℕ → ℕ) (first count : ℕ) → AreFrom first (laid_by j a first count)
laid_from j a first zero = tt
laid_from j a first (suc count) = let rest = less_from (first + 1) first (laid_by j a (first + 1) count) (omega arith) (laid_from j a (first + 1) count) in dite (ℕ_discrete (a first) j)
    (λ e. subst (AreFrom first) (sym (here j a first count e)) (omega arith, rest))
    (λ ne. subst (AreFrom first) (sym (passed j a first count ne)) rest)

-- a place before all others comes first
put_first : (place : ℕ) (l : List ℕ) → AreFrom (place + 1) l → with_place place l ≡ place ∷ l
put_first place [] h = refl
put_first place (x ∷ xs) h = let less : place < x = omega (arith, h.0) in grind (arith, nat_tests)

-- a place behind the first one leaves that first
put_behind : (place first : ℕ) (l : List ℕ) → first < place → with_place place (first ∷ l) ≡ first ∷ with_place place l
put_behind place first l less = grind (arith, nat_tests)

joined_behind : (first : ℕ) (l places : List ℕ) → AreFrom (first + 1) l → joined l (first ∷ places) ≡ first ∷ joined l places
joined_behind first [] places h = refl
joined_behind first (x ∷ xs) places h = ap (with_place x) (joined_behind first xs places h.1) ∙ put_behind x first (joined xs places) (omega (arith, h.0))

-- what two seats laid is what the one laid to whom the other was joined
pub laid_joined : (j k : ℕ) (a : ℕ → ℕ) (first count : ℕ) → j ≢ k → joined (laid_by k a first count) (laid_by j a first count) ≡ laid_by j (renamed a j k) first count
laid_joined j k a first zero ne = refl
laid_joined j k a first (suc count) ne = let b : ℕ → ℕ = renamed a j k in let rest = laid_joined j k a (first + 1) count ne in let xs : List ℕ = laid_by k a (first + 1) count in let ys : List ℕ = laid_by j a (first + 1) count in
    dite (ℕ_discrete (a first) k)
    (λ e. (λ i. joined (here k a first count e i) (passed j a first count (λ e'. ne (sym e' ∙ e)) i))
    ∙ (ap (with_place first) rest ∙ (put_first first (laid_by j b (first + 1) count) (laid_from j b (first + 1) count) ∙ sym (here j b first count (renamed_same a j k first e)))))
    (λ not. (λ i. joined (passed k a first count not i) (laid_by j a first (suc count)))
    ∙ dite (ℕ_discrete (a first) j)
    (λ e. (λ i. joined xs (here j a first count e i)) ∙ (joined_behind first xs ys (laid_from k a (first + 1) count) ∙ (ap (λ l. first ∷ l) rest ∙ sym (here j b first count (renamed_other a j k first not ∙ e)))))
    (λ ne'. (λ i. joined xs (passed j a first count ne' i)) ∙ (rest ∙ sym (passed j b first count (λ e. ne' (sym (renamed_other a j k first not) ∙ e))))))

pub laid_renamed : (i j k : ℕ) (a : ℕ → ℕ) (first count : ℕ) → i ≢ j → i ≢ k → laid_by i (renamed a j k) first count ≡ laid_by i a first count
laid_renamed i j k a first count ne ne' = laid_by-same i a (renamed a j k) first count (λ x _ _. dite (ℕ_discrete (a x) k)
    (λ e. ((λ e'. absurd (ne' (sym e' ∙ e))), λ _ e'. ne (sym e' ∙ renamed_same a j k x e)))
    (λ not. ((λ e'. renamed_other a j k x not ∙ e'), λ n e'. n (sym (renamed_other a j k x not) ∙ e'))))
