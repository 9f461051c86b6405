-- A range that is given back: its pages are in their places with all their strokes.
use Rattle.std.proofs.Common.{◌≡◌, ℕ, suc, ◌-◌, ◌<◌, ◌≤◌, nat_le, Bool, true, false, true≢false, List, ◌++◌, map, Option, Some, None, is_some, length, refl, sym, ap, ◌∙◌, subst, ⊎_elim, arith}
use Rattle.std.proofs.lemmas.Bool.Decides.{leb_tells}
use Rattle.page_slots.specs.Page.{PageValue}
use Rattle.page_slots.specs.Stroke.{StrokeValue}
use Rattle.page_slots.specs.Seats.{saw, holds, laid_on, places_from}
use Rattle.tce_window.specs.Grant.{values_of}
use Rattle.tce_window.specs.Held.{HeldValue, held_strokes, either}
use Rattle.tce_window.specs.Moved.{unplaced, stroke_count}
use Rattle.tce_window.specs.Pieces.{on_page}
use Rattle.tce_window.specs.PortState.{places_since}
use Rattle.tce_window.specs.Window.{strokes_at}
use Rattle.shared_window.specs.Hand.{HasInHand, GivesHand, BeginsIn, IsEmptyFor, given, released, places_behind}
use Rattle.shared_window.specs.Pinning.{Releases}
use Rattle.shared_window.specs.Ranges.{GivesRange}
use Rattle.shared_window.specs.SharedWindow.{SharedWindowValue, WindowSeatValue, strokes_known, taken_with, IsSeatAt, IsOutWith}
use Rattle.shared_window.proofs.HeldRanges.{known_free, known_held, known_past, taken_held}

module _ (w : SharedWindowValue) (old : WindowSeatValue) (held : HeldValue) (at : IsSeatAt w old) (out : IsOutWith w old held) (region : List (Option PageValue)) (size : length region ≡ length old.region)
    (put : (p : ℕ) → strokes_at region p ≡ either (strokes_at old.region p) (held_strokes held.pages p)) where
  pub in_region : (p : ℕ) → strokes_at region p ≡ held_strokes held.pages p
  in_region p = put p ∙ ap (λ x. either x (held_strokes held.pages p)) (at.empty.away p)

  pub put_in_hand : HasInHand w.pages old.pages region
  put_in_hand = record {
    ours = at.pages;
    size = size ∙ at.empty.size;
    held = λ p there. sym (out.pages p) ∙ (ap is_some (sym (in_region p)) ∙ there);
    more = λ p. subst (BeginsIn (saw old.pages p)) (sym (in_region p)) (out.more p);
  }

  pub put_on_pieces : (p : ℕ) → is_some (strokes_at region p) ≡ on_page (map unplaced held.pieces) p
  put_on_pieces p = ap is_some (in_region p) ∙ (out.pages p ∙ out.pieces.on p)

  module _ (new : WindowSeatValue) (gives : GivesHand old.pages (strokes_at region) new.pages) (empty : IsEmptyFor w.pages new.region) (rel : Releases old.entries (length held.pieces) new.entries) (count : old.entries.held_count ≡ length held.pieces) (in_use : new.in_use ≡ old.in_use) where
    hand : (p : ℕ) → Option (List StrokeValue)
    hand p = held_strokes held.pages p

    saw_new : (p : ℕ) → saw new.pages p ≡ given (held_strokes held.pages p) (saw old.pages p)
    saw_new p = gives.seen p ∙ ap (λ h. given h (saw old.pages p)) (in_region p)

    none_held : (p : ℕ) → holds new.pages p ≡ false
    none_held p = gives.held p ∙ (ap (λ h. released h (holds old.pages p)) (in_region p) ∙ by (held_strokes held.pages p) (holds old.pages p) (out.pages p))
      where
        by : (h : Option (List StrokeValue)) (b : Bool) → is_some h ≡ b → released h b ≡ false
        by (Some s) b e = refl
        by None b e = sym e

    pub given_strokes : (p : ℕ) → strokes_known w.pages.count new.pages p ≡ either (strokes_known w.pages.count old.pages p) (held_strokes held.pages p)
    given_strokes p = ⊎_elim
        (λ (t : (nat_le (suc p) w.pages.count ≡ true) × (suc p ≤ w.pages.count)). known_free w.pages.count new.pages p (omega (arith, t.1)) (none_held p) ∙ (ap Some (saw_new p) ∙ inside (omega (arith, t.1)) (held_strokes held.pages p) refl))
        (λ (t : (nat_le (suc p) w.pages.count ≡ false) × (w.pages.count < suc p)). known_past w.pages.count new.pages p (omega (arith, t.1)) ∙ outside (omega (arith, t.1)) (held_strokes held.pages p) refl)
        (leb_tells (suc p) w.pages.count)
      where
        inside : p < w.pages.count → (h : Option (List StrokeValue)) → held_strokes held.pages p ≡ h → Some (given h (saw old.pages p)) ≡ either (strokes_known w.pages.count old.pages p) h
        inside less (Some s) e = sym (ap (λ x. either x (Some s)) (known_held w.pages.count old.pages p (sym (out.pages p) ∙ ap is_some e)))
        inside less None e = sym (ap (λ x. either x None) (known_free w.pages.count old.pages p less (sym (out.pages p) ∙ ap is_some e)))

        outside : w.pages.count ≤ p → (h : Option (List StrokeValue)) → held_strokes held.pages p ≡ h → None ≡ either (strokes_known w.pages.count old.pages p) h
        outside more (Some s) e = absurd (let less = at.inside p (sym (out.pages p) ∙ ap is_some e) in omega (arith, less, more))
        outside more None e = sym (ap (λ x. either x None) (known_past w.pages.count old.pages p more))

    zero_less : (n : ℕ) → 0 - n ≡ 0
    zero_less n = omega arith

    laid_new : (p : ℕ) → laid_on new.pages p ≡ laid_on old.pages p ++ places_since (taken_with old.pages) held p
    laid_new p = gives.laid p ∙ ap (λ l. laid_on old.pages p ++ l) (ap (places_behind (saw old.pages p)) (in_region p) ∙ by (held_strokes held.pages p) (out.pages p))
      where
        by : (h : Option (List StrokeValue)) → is_some h ≡ holds old.pages p → places_behind (saw old.pages p) h ≡ places_from (taken_with old.pages p) (stroke_count h - taken_with old.pages p)
        by (Some s) e = ap (λ k. places_from k (length s - k)) (sym (taken_held w.pages.count old.pages p (sym e)))
        by None e = ap (places_from (length (saw old.pages p))) (zero_less (length (saw old.pages p))) ∙ sym (ap (λ k. places_from (taken_with old.pages p) k) (zero_less (taken_with old.pages p)))

    none_left : new.entries.held_count ≡ 0
    none_left = let left = rel.left in omega (arith, left, count)

    pub gives_range : GivesRange w old held new
    gives_range = record {
      strokes = given_strokes;
      laid = λ ls _ p. laid_new p;
      free = none_left;
      rest = λ ls. record { place = refl; values = ap (λ rows. values_of rows) rel.rows; in_use = in_use };
    }

    pub given_at : IsSeatAt w new
    given_at = record {
      pages = gives.pages ∙ at.pages;
      entries = rel.table ∙ at.entries;
      empty = empty;
      inside = λ p h. absurd (true≢false (sym h ∙ none_held p));
      within = λ some. absurd (let none = none_left in omega (arith, some, none));
      free = λ _. none_held;
    }
