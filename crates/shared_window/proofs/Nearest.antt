-- The nearest of the pages on which pieces lie.
use Rattle.std.proofs.Common.{◌≡◌, ℕ, suc, ◌<◌, ◌≤◌, ◌==◌, ◌||◌, ◌&&◌, if◌then◌else◌, Bool, true, false, true≢false, List, [], ◌∷◌, ◌++◌, nat_le, nat_lt, refl, sym, ap, ◌∙◌, subst, ⊎_elim, arith}
use Rattle.std.proofs.lemmas.Bool.{eq-eqb, ne_eqb}
use Rattle.std.proofs.lemmas.Bool.Decides.{leb_tells}
use Rattle.std.proofs.lemmas.List.Folds.{list_any-append}
use Rattle.tce_window.specs.declared.piece.Piece.{Piece}
use Rattle.tce_window.specs.Pieces.{on_page}
use Rattle.shared_window.specs.Hand.{is_below, IsFirstOn}

pub record IsNearest (pieces : List Piece) (from to nearest : ℕ) : Type 0 where
  pub most : nearest ≤ to
  pub there : nearest < to → (from ≤ nearest) × (on_page pieces nearest ≡ true)
  pub before : (q : ℕ) → from ≤ q → q < nearest → on_page pieces q ≡ false

or_none : (b : Bool) → (b || false) ≡ b
or_none true = refl
or_none false = refl

or_right : (b : Bool) → (b || true) ≡ true
or_right true = refl
or_right false = refl

and_none : (b : Bool) → (b && false) ≡ false
and_none true = refl
and_none false = refl

and_all : (b : Bool) → (b && true) ≡ b
and_all true = refl
and_all false = refl

-- a piece more
pub on_more : (pieces : List Piece) (piece : Piece) (q : ℕ) → on_page (pieces ++ piece ∷ []) q ≡ (on_page pieces q || piece.page == q)
on_more pieces piece q = list_any-append (λ p. p.page == q) pieces (piece ∷ []) ∙ ap (λ b. on_page pieces q || b) (or_none (piece.page == q))

pub on_own : (pieces : List Piece) (piece : Piece) → on_page (pieces ++ piece ∷ []) piece.page ≡ true
on_own pieces piece = on_more pieces piece piece.page ∙ (ap (λ b. on_page pieces piece.page || b) (eq-eqb piece.page piece.page refl) ∙ or_right (on_page pieces piece.page))

pub on_still : (pieces : List Piece) (piece : Piece) (q : ℕ) → on_page pieces q ≡ true → on_page (pieces ++ piece ∷ []) q ≡ true
on_still pieces piece q on = on_more pieces piece q ∙ ap (λ b. b || piece.page == q) on

pub on_other : (pieces : List Piece) (piece : Piece) (q : ℕ) → (piece.page ≡ q → ⊥) → on_page pieces q ≡ false → on_page (pieces ++ piece ∷ []) q ≡ false
on_other pieces piece q o none = on_more pieces piece q ∙ (ap (λ b. b || piece.page == q) none ∙ ne_eqb piece.page q o)

pub near_none : (from to : ℕ) → IsNearest [] from to to
near_none from to = record { most = omega arith; there = λ less. absurd (omega (arith, less)); before = λ q a b. refl }

module _ (pieces : List Piece) (from to nearest : ℕ) (piece : Piece) (near : IsNearest pieces from to nearest) where
  nearer_page : from ≤ piece.page → piece.page < nearest → IsNearest (pieces ++ piece ∷ []) from to piece.page
  nearer_page low less = let most = near.most in record {
    most = omega (arith, less, most);
    there = λ _. (low, on_own pieces piece);
    before = λ q a b. on_other pieces piece q (λ e. omega (arith, e, b)) (near.before q a (omega (arith, b, less)));
  }

  same_page : ((q : ℕ) → from ≤ q → q < nearest → piece.page ≡ q → ⊥) → IsNearest (pieces ++ piece ∷ []) from to nearest
  same_page other = record {
    most = near.most;
    there = λ less. let t = near.there less in (t.0, on_still pieces piece nearest t.1);
    before = λ q a b. on_other pieces piece q (other q a b) (near.before q a b);
  }

  pub near_more : (result : ℕ) → result ≡ (if nat_le from piece.page && nat_lt piece.page nearest then piece.page else nearest) → IsNearest (pieces ++ piece ∷ []) from to result
  near_more result is = ⊎_elim
      (λ (low : (nat_le from piece.page ≡ true) × (from ≤ piece.page)). ⊎_elim
      (λ (less : (nat_le (suc piece.page) nearest ≡ true) × (suc piece.page ≤ nearest)). subst (IsNearest (pieces ++ piece ∷ []) from to) (sym (is ∙ ap (λ (b : Bool × Bool). if b.0 && b.1 then piece.page else nearest) (λ i. (low.0 i, less.0 i)))) (nearer_page low.1 (omega (arith, less.1))))
      (λ (less : (nat_le (suc piece.page) nearest ≡ false) × (nearest < suc piece.page)). subst (IsNearest (pieces ++ piece ∷ []) from to) (sym (is ∙ ap (λ (b : Bool × Bool). if b.0 && b.1 then piece.page else nearest) (λ i. (low.0 i, less.0 i)))) (same_page (λ q a b e. omega (arith, e, b, less.1))))
      (leb_tells (suc piece.page) nearest))
      (λ (low : (nat_le from piece.page ≡ false) × (piece.page < from)). subst (IsNearest (pieces ++ piece ∷ []) from to) (sym (is ∙ ap (λ (b : Bool). if b && nat_lt piece.page nearest then piece.page else nearest) low.0)) (same_page (λ q a b e. omega (arith, e, a, low.1))))
      (leb_tells from piece.page)

pub below_is : (pieces : List Piece) (to p : ℕ) → p < to → is_below pieces to p ≡ on_page pieces p
below_is pieces to p less = ⊎_elim
    (λ (t : (nat_le (suc p) to ≡ true) × (suc p ≤ to)). ap (λ b. on_page pieces p && b) t.0 ∙ and_all (on_page pieces p))
    (λ (t : (nat_le (suc p) to ≡ false) × (to < suc p)). absurd (omega (arith, less, t.1)))
    (leb_tells (suc p) to)

pub below_not : (pieces : List Piece) (to p : ℕ) → to ≤ p → is_below pieces to p ≡ false
below_not pieces to p more = ⊎_elim
    (λ (t : (nat_le (suc p) to ≡ true) × (suc p ≤ to)). absurd (omega (arith, more, t.1)))
    (λ (t : (nat_le (suc p) to ≡ false) × (to < suc p)). ap (λ b. on_page pieces p && b) t.0 ∙ and_none (on_page pieces p))
    (leb_tells (suc p) to)

pub below_less : (pieces : List Piece) (to p : ℕ) → is_below pieces to p ≡ true → p < to
below_less pieces to p on = ⊎_elim
    (λ (t : (nat_le (suc p) to ≡ true) × (suc p ≤ to)). omega (arith, t.1))
    (λ (t : (nat_le (suc p) to ≡ false) × (to < suc p)). absurd (true≢false (sym on ∙ below_not pieces to p (omega (arith, t.1)))))
    (leb_tells (suc p) to)

pub below_on : (pieces : List Piece) (to p : ℕ) → is_below pieces to p ≡ true → on_page pieces p ≡ true
below_on pieces to p on = sym (below_is pieces to p (below_less pieces to p on)) ∙ on

-- the nearest page is the first one, if it is below the end
pub next_some : (pieces : List Piece) (from to nearest : ℕ) → IsNearest pieces from to nearest → nearest < to → IsFirstOn pieces from to nearest
next_some pieces from to nearest near less = let t = near.there less in record {
  from_on = t.0;
  there = below_is pieces to nearest less ∙ t.1;
  before = λ q a b. below_is pieces to q (omega (arith, b, less)) ∙ near.before q a b;
}

pub next_none : (pieces : List Piece) (from to nearest : ℕ) → IsNearest pieces from to nearest → to ≤ nearest → (p : ℕ) → from ≤ p → is_below pieces to p ≡ false
next_none pieces from to nearest near more p a = ⊎_elim
    (λ (t : (nat_le to p ≡ true) × (to ≤ p)). below_not pieces to p t.1)
    (λ (t : (nat_le to p ≡ false) × (p < to)). below_is pieces to p t.1 ∙ near.before p a (omega (arith, t.1, more)))
    (leb_tells to p)
