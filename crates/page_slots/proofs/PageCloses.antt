-- What the pages of a closed table are to all seats that were at it.
use Rattle.std.proofs.Common.{◌≡◌, ℕ, List, [], map, get_or, sym, ap, ◌∙◌, subst, arith}
use Rattle.std.specs.Prelude.{None, Some}
use Rattle.std.specs.List.{All}
use Rattle.std.proofs.lemmas.List.{get_or-map, length-map}
use Rattle.std.proofs.lemmas.List.Elements.{All-push}
use mathlib.Core.Option.{some-injective}
use Rattle.atomic_table.specs.declared.shared.Seat.{Seat}
use Rattle.page_slots.specs.Page.{PageValue}
use Rattle.page_slots.specs.Stroke.{StrokeValue}
use Rattle.vio_num.specs.Words.{Begins}
use Rattle.page_slots.specs.Seats.{PagesValue, PageSeatValue}
use Rattle.page_slots.specs.PageRule.{Slot, blank_page}
use Rattle.page_slots.specs.PageClosing.{StandsForAll, HasPage}
use Rattle.page_slots.specs.Turns.{IsOfSeats}
use Rattle.page_slots.specs.declared.view.PageView.{PageView}
use Rattle.page_slots.proofs.PageEnds.{EndsAs}

abbrev page_in : Slot → PageValue
page_in None = blank_page
page_in (Some page) = page

-- a slot has one page in it
pub one_page_there : (slots : List Slot) (k : ℕ) (a b : PageValue) → HasPage slots k a → HasPage slots k b → a ≡ b
one_page_there slots k a b e f = ap page_in (some-injective (Some a) (Some b) (sym e ∙ f))

-- what is so of what a function makes of each is so of it
all_of : {A B : Type 0} (P : B → Type 0) (f : A → B) (l : List A) → All P (map f l) → All (λ a. P (f a)) l
all_of P f l h i d inside = let long = length-map l f in subst P (get_or-map f l i d (f d) inside) (h i (f d) (omega (arith, long, inside)))

pub of_seats : (pages : PagesValue) (list : List PageSeatValue) (seat : Seat Slot PageView) (k : ℕ) (page : PageValue) → StandsForAll pages list seat → EndsAs seat.me.0 k page → IsOfSeats list k page.strokes
of_seats pages list seat k page st e = let P : List (List StrokeValue) → Type 0 = λ seen. Begins (get_or seen k []) page.strokes in record {
  seen = all_of P (λ other. other.seen) list (subst (All P) (sym st.seen) (All-push P seat.me.0.told seat.me.0.seen e.told e.seen));
  laid = sym (st.laid k) ∙ e.laid;
}
