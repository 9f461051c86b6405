-- Pages of a hand that are given back, one after another.
use Rattle.std.proofs.Common.{◌≡◌, ℕ, ◌+◌, ◌-◌, ◌<◌, ◌≤◌, ◌==◌, if◌then◌else◌, Bool, true, false, true≢false, List, [], ◌++◌, Option, Some, None, is_some, nat_le, append-nil, length, refl, sym, ap, ◌∙◌, subst, ⊎_elim, arith}
use Rattle.std.proofs.lemmas.Bool.{eq-eqb, ne_eqb}
use Rattle.std.proofs.lemmas.Bool.Decides.{leb_tells, eqb_tells}
use Rattle.page_slots.specs.Page.{PageValue}
use Rattle.page_slots.specs.Stroke.{StrokeValue}
use Rattle.page_slots.specs.Seats.{PagesValue, PageSeatValue, saw, holds, laid_on, places_from}
use Rattle.page_slots.specs.Turns.{GivesPage}
use Rattle.tce_window.specs.Moved.{stroke_count}
use Rattle.tce_window.specs.Window.{strokes_at}
use Rattle.shared_window.specs.Hand.{GivesHand, GivesUpTo, HasInHand, given, released, places_behind, BeginsIn}
use Rattle.shared_window.proofs.Taking.{less_of}

pub none_of : (x : Option (List StrokeValue)) → is_some x ≡ false → x ≡ None
none_of None e = refl
none_of (Some s) e = absurd (true≢false e)

nothing_behind : (s : List StrokeValue) → places_behind s None ≡ []
nothing_behind s = let zero_less : (n : ℕ) → 0 - n ≡ 0 = λ n. omega arith in ap (places_from (length s)) (zero_less (length s))

-- of a page that is not in the hand no stroke is laid
none_laid : (old : PageSeatValue) (hand : ℕ → Option (List StrokeValue)) (p : ℕ) → hand p ≡ None → laid_on old p ≡ laid_on old p ++ places_behind (saw old p) (hand p)
none_laid old hand p none = sym (ap (λ x. laid_on old p ++ places_behind (saw old p) x) none ∙ (ap (λ l. laid_on old p ++ l) (nothing_behind (saw old p)) ∙ append-nil (laid_on old p)))

pub gives_none : (old : PageSeatValue) (hand : ℕ → Option (List StrokeValue)) → GivesUpTo old hand 0 old hand
gives_none old hand = record {
  seen = λ p less. absurd (omega (arith, less));
  held = λ p less. absurd (omega (arith, less));
  laid = λ p less. absurd (omega (arith, less));
  away = λ p less. absurd (omega (arith, less));
  there = λ p a. refl;
  seen_left = λ p a. refl;
  held_left = λ p a. refl;
  laid_left = λ p a. refl;
  pages = refl;
  last = refl;
}

-- one page is given back
module _ (old new new' : PageSeatValue) (hand left left' : ℕ → Option (List StrokeValue)) (from n : ℕ) (strokes : List StrokeValue) (up : GivesUpTo old hand from new left)
    (low : from ≤ n) (none : (p : ℕ) → from ≤ p → p < n → hand p ≡ None) (page : left n ≡ Some strokes) (others : (p : ℕ) → left' p ≡ (if n == p then None else left p)) (gives : GivesPage new n strokes new') where
  own : hand n ≡ Some strokes
  own = sym (up.there n low) ∙ page

  other_seen : (p : ℕ) → (p ≡ n → ⊥) → saw new' p ≡ saw new p
  other_seen p o = gives.seen p ∙ ap (λ (b : Bool). if b then strokes else saw new p) (ne_eqb p n o)

  other_held : (p : ℕ) → (p ≡ n → ⊥) → holds new' p ≡ holds new p
  other_held p o = gives.held p ∙ ap (λ (b : Bool). if b then false else holds new p) (ne_eqb p n o)

  other_laid : (p : ℕ) → (p ≡ n → ⊥) → laid_on new' p ≡ laid_on new p
  other_laid p o = gives.laid p ∙ ap (λ (b : Bool). if b then laid_on new n ++ places_from (length (saw new n)) (length strokes - length (saw new n)) else laid_on new p) (ne_eqb p n o)

  other_left : (p : ℕ) → (p ≡ n → ⊥) → left' p ≡ left p
  other_left p o = others p ∙ ap (λ (b : Bool). if b then None else left p) (ne_eqb n p (λ e. o (sym e)))

  cases : (P : ℕ → Type 0) → ((p : ℕ) → p < from → P p) → ((p : ℕ) → from ≤ p → p < n → P p) → P n → (p : ℕ) → p < n + 1 → P p
  cases P before between here p less = ⊎_elim (λ (t : (nat_le from p ≡ true) × (from ≤ p)). ⊎_elim (λ e. subst P (sym e.1) here) (λ o. between p t.1 (less_of p n less o.1)) (eqb_tells p n)) (λ (t : (nat_le from p ≡ false) × (p < from)). before p t.1) (leb_tells from p)

  apart : (p : ℕ) → p < from → p ≡ n → ⊥
  apart p less e = omega (arith, less, e, low)

  apart_less : (p : ℕ) → p < n → p ≡ n → ⊥
  apart_less p less e = omega (arith, less, e)

  apart_more : (p : ℕ) → n + 1 ≤ p → p ≡ n → ⊥
  apart_more p more e = omega (arith, more, e)

  pub gives_more : GivesUpTo old hand (n + 1) new' left'
  gives_more = record {
    seen = cases (λ p. saw new' p ≡ given (hand p) (saw old p))
        (λ p l. other_seen p (apart p l) ∙ up.seen p l)
        (λ p a b. other_seen p (apart_less p b) ∙ (up.seen_left p a ∙ ap (λ x. given x (saw old p)) (sym (none p a b))))
        (gives.seen n ∙ (ap (λ (b : Bool). if b then strokes else saw new n) (eq-eqb n n refl) ∙ ap (λ x. given x (saw old n)) (sym own)));
    held = cases (λ p. holds new' p ≡ released (hand p) (holds old p))
        (λ p l. other_held p (apart p l) ∙ up.held p l)
        (λ p a b. other_held p (apart_less p b) ∙ (up.held_left p a ∙ ap (λ x. released x (holds old p)) (sym (none p a b))))
        (gives.held n ∙ (ap (λ (b : Bool). if b then false else holds new n) (eq-eqb n n refl) ∙ ap (λ x. released x (holds old n)) (sym own)));
    laid = cases (λ p. laid_on new' p ≡ laid_on old p ++ places_behind (saw old p) (hand p))
        (λ p l. other_laid p (apart p l) ∙ up.laid p l)
        (λ p a b. other_laid p (apart_less p b) ∙ (up.laid_left p a ∙ none_laid old hand p (none p a b)))
        (gives.laid n ∙ (ap (λ (b : Bool). if b then laid_on new n ++ places_from (length (saw new n)) (length strokes - length (saw new n)) else laid_on new n) (eq-eqb n n refl)
        ∙ ((λ i. up.laid_left n low i ++ places_from (length (up.seen_left n low i)) (stroke_count (sym own i) - length (up.seen_left n low i))))));
    away = cases (λ p. left' p ≡ None)
        (λ p l. other_left p (apart p l) ∙ up.away p l)
        (λ p a b. other_left p (apart_less p b) ∙ (up.there p a ∙ none p a b))
        (others n ∙ ap (λ (b : Bool). if b then None else left n) (eq-eqb n n refl));
    there = λ p a. other_left p (apart_more p a) ∙ up.there p (omega (arith, a, low));
    seen_left = λ p a. other_seen p (apart_more p a) ∙ up.seen_left p (omega (arith, a, low));
    held_left = λ p a. other_held p (apart_more p a) ∙ up.held_left p (omega (arith, a, low));
    laid_left = λ p a. other_laid p (apart_more p a) ∙ up.laid_left p (omega (arith, a, low));
    pages = ap (λ (z : PageSeatValue). z.pages) gives.rest ∙ up.pages;
    last = ap (λ (z : PageSeatValue). z.last) gives.rest ∙ up.last;
  }

either_side : (from p : ℕ) (P : Type 0) → (p < from → P) → (from ≤ p → P) → P
either_side from p P low high = ⊎_elim (λ t. high t.1) (λ t. low t.1) (leb_tells from p)

-- all are given back
pub gives_all : (old new : PageSeatValue) (hand left : ℕ → Option (List StrokeValue)) (from : ℕ) → GivesUpTo old hand from new left → ((p : ℕ) → from ≤ p → hand p ≡ None) → GivesHand old hand new
gives_all old new hand left from up none = record {
  seen = λ p. either_side from p (saw new p ≡ given (hand p) (saw old p)) (up.seen p) (λ a. up.seen_left p a ∙ ap (λ x. given x (saw old p)) (sym (none p a)));
  held = λ p. either_side from p (holds new p ≡ released (hand p) (holds old p)) (up.held p) (λ a. up.held_left p a ∙ ap (λ x. released x (holds old p)) (sym (none p a)));
  laid = λ p. either_side from p (laid_on new p ≡ laid_on old p ++ places_behind (saw old p) (hand p)) (up.laid p) (λ a. up.laid_left p a ∙ none_laid old hand p (none p a));
  pages = up.pages;
  last = up.last;
}

pub none_left : (old new : PageSeatValue) (hand left : ℕ → Option (List StrokeValue)) (from : ℕ) → GivesUpTo old hand from new left → ((p : ℕ) → from ≤ p → hand p ≡ None) → (p : ℕ) → left p ≡ None
none_left old new hand left from up none p = either_side from p (left p ≡ None) (up.away p) (λ a. up.there p a ∙ none p a)

-- what is left of a hand is in the hand
pub still_in_hand : (pages : PagesValue) (old new : PageSeatValue) (region left : List (Option PageValue)) (from : ℕ) → HasInHand pages old region → GivesUpTo old (strokes_at region) from new (strokes_at left) → length left ≡ length region → HasInHand pages new left
still_in_hand pages old new region left from hand up size = record {
  ours = up.pages ∙ hand.ours;
  size = size ∙ hand.size;
  held = λ p there. either_side from p (holds new p ≡ true) (λ l. absurd (true≢false (sym there ∙ ap is_some (up.away p l)))) (λ a. up.held_left p a ∙ hand.held p (ap is_some (sym (up.there p a)) ∙ there));
  more = λ p. either_side from p (BeginsIn (saw new p) (strokes_at left p)) (λ l. subst (BeginsIn (saw new p)) (sym (up.away p l)) tt)
      (λ a. subst (BeginsIn (saw new p)) (sym (up.there p a)) (subst (λ s. BeginsIn s (strokes_at region p)) (sym (up.seen_left p a)) (hand.more p)));
}
