-- What the end of the sharing of a window asks of its seats, and what it leaves.
use Rattle.std.proofs.Common.{◌≡◌, ℕ, ◌<◌, false, All, List, [], ◌∷◌, ◌++◌, Option, Some, is_some, length, length-append, map, sym, ap, ◌∙◌, subst, arith}
use Rattle.std.specs.Prelude.{reverse, slice_index_or}
use Rattle.std.proofs.lemmas.List.{reverse-append, length-map, get_or-map}
use Rattle.std.proofs.lemmas.List.Elements.{All-append, All-map, All-cons}
use Rattle.std.proofs.lemmas.Option.{slice_get-get_or}
use Rattle.page_slots.specs.Page.{PageValue}
use Rattle.page_slots.specs.Seats.{PagesValue, PageSeatValue, holds}
use Rattle.page_slots.specs.Turns.{AreAll, ClosesPages}
use Rattle.tce_window.specs.Window.{strokes_at, AllThere}
use Rattle.entry_slots.specs.Entries.{EntrySeatValue}
use Rattle.entry_slots.specs.EntryCuts.{AreGuests}
use Rattle.shared_window.specs.Closing.{AreAllSeats, IsLeftPage, seats_of, strokes_listed}
use Rattle.shared_window.specs.Opening.{OwnerValue}
use Rattle.shared_window.specs.SharedWindow.{SharedWindowValue, WindowSeatValue}

-- what is so of what a function makes of each is so of it
pub all_of : {A B : Type 0} (P : B → Type 0) (f : A → B) (l : List A) → All P (map f l) → All (λ a. P (f a)) l
all_of P f l h i d inside = let long = length-map l f in subst P (get_or-map f l i d (f d) inside) (h i (f d) (omega (arith, long, inside)))

none_of : {A : Type 0} (P : A → Type 0) → All P []
none_of P i d inside = absurd (omega (arith, inside))

module _ (w : SharedWindowValue) (o : OwnerValue) (g : List WindowSeatValue) (all : AreAllSeats w o g) where
  pub all_places : AreAll w.pages (seats_of o g)
  all_places =
      let long = length-append (map (λ (s : WindowSeatValue). s.pages) g) (o.seat.pages ∷ []) in
      let many = length-map g (λ (s : WindowSeatValue). s.pages) in
      let count = all.count in
      let Ours : PageSeatValue → Type 0 = λ seat. seat.pages ≡ w.pages.id in
      let Idle : PageSeatValue → Type 0 = λ seat. (k : ℕ) → k < w.pages.count → holds seat k ≡ false in
      record {
        count = omega (arith, long, many, count);
        ours = All-append Ours (map (λ s. s.pages) g) (o.seat.pages ∷ []) (All-map Ours (λ (s : WindowSeatValue). s.pages) g (λ i d less. (all.at i d less).pages)) (All-cons Ours o.seat.pages [] all.owner_is.at.pages (none_of Ours));
        none_held = All-append Idle (map (λ s. s.pages) g) (o.seat.pages ∷ []) (All-map Idle (λ (s : WindowSeatValue). s.pages) g (λ i d less k _. (all.at i d less).free (all.free i d less) k))
            (All-cons Idle o.seat.pages [] (λ k _. all.owner_is.at.free all.owner_free k) (none_of Idle));
      }

  pub all_holders : AreGuests w.entries (map (λ s. s.entries) g)
  all_holders = record {
    ours = All-map (λ (s : EntrySeatValue). s.entries ≡ w.entries.id) (λ (s : WindowSeatValue). s.entries) g (λ i d less. (all.at i d less).entries);
    none_held = All-map (λ (s : EntrySeatValue). s.held_count ≡ 0) (λ (s : WindowSeatValue). s.entries) g all.free;
  }

-- each page of a list is in it
pub listed : (pages : List PageValue) (p : ℕ) → p < length pages → strokes_listed pages p ≡ Some (slice_index_or (map (λ page. page.strokes) pages) p [])
listed pages p less = let long = length-map pages (λ (page : PageValue). page.strokes) in slice_get-get_or (map (λ page. page.strokes) pages) p [] (omega (arith, long, less))

module _ (pages : PagesValue) (seats : List PageSeatValue) (list : List PageValue) (region : List (Option PageValue)) (closes : ClosesPages pages seats list)
    (put : (p : ℕ) → strokes_at region p ≡ strokes_listed list p) (size : length region ≡ length list) where
  pub all_there : AllThere region
  all_there p less = let count = size in ap is_some (put p ∙ listed list p (omega (arith, count, less)))

  pub left_page : (p : ℕ) → p < pages.count → IsLeftPage seats p (strokes_at region p)
  left_page p less = let count = closes.count in record {
    strokes = slice_index_or (map (λ page. page.strokes) list) p [];
    there = put p ∙ listed list p (omega (arith, count, less));
    of_seats = closes.each p less;
  }

abbrev first_or : {X : Type 0} → X → List X → X
first_or d [] = d
first_or d (x ∷ xs) = x

-- lists that are the same have the same last element, and the same before it
module _ {X : Type 0} (xs ys : List X) (x y : X) (is : xs ++ x ∷ [] ≡ ys ++ y ∷ []) where
  turned : x ∷ reverse xs ≡ y ∷ reverse ys
  turned = sym (reverse-append xs (x ∷ [])) ∙ (ap reverse is ∙ reverse-append ys (y ∷ []))

  pub same_last : x ≡ y
  same_last = ap (first_or x) turned
