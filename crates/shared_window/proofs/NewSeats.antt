-- Seats that made no call.
use Rattle.std.proofs.Common.{◌≡◌, ℕ, zero, suc, true≢false, All, List, [], ◌∷◌, ◌++◌, Option, None, replicate, length, length-append, refl, sym, ◌∙◌, subst, arith}
use Rattle.std.proofs.Math.Seq.{get_or-append_seam}
use Rattle.std.proofs.lemmas.List.{length-replicate, get_or_append_left}
use Rattle.page_slots.specs.Page.{PageValue}
use Rattle.page_slots.specs.Seats.{PageSeatValue}
use Rattle.page_slots.specs.Turns.{IsFresh}
use Rattle.tce_window.specs.Window.{strokes_at}
use Rattle.entry_slots.specs.Entries.{EntrySeatValue, IsFreshAt}
use Rattle.shared_window.specs.Opening.{IsNewSeat}
use Rattle.shared_window.specs.SharedWindow.{SharedWindowValue, WindowSeatValue}

abbrev no_page : Option PageValue
no_page = None

none_in : (n p : ℕ) → strokes_at (replicate n no_page) p ≡ None
none_in zero p = refl
none_in (suc n) zero = refl
none_in (suc n) (suc p) = none_in n p

pub new_is : (w : SharedWindowValue) (n : ℕ) (pages : PageSeatValue) (entries : EntrySeatValue) (seat : WindowSeatValue) → w.pages.count ≡ n → IsFresh w.pages pages → IsFreshAt w.entries entries
    → seat ≡ record { pages = pages; entries = entries; region = replicate n None; in_use = 0 } → IsNewSeat w seat
new_is w n pages entries seat count f g is = subst (IsNewSeat w) (sym is) record {
  at = record {
    pages = f.ours;
    entries = g.ours;
    empty = record { size = length-replicate n no_page ∙ sym count; away = none_in n };
    inside = λ p h. absurd (true≢false (sym h ∙ f.held p));
    within = λ some. absurd (let none = g.held in omega (arith, some, none));
    free = λ _. f.held;
  };
  rows = g.rows;
  seen = f.seen;
  laid = f.laid;
  free = g.held;
  in_use = refl;
}

-- what is so of all is so of the last, and of the others
module _ {X : Type 0} (P : X → Type 0) (items rest : List X) (x : X) (is : items ≡ rest ++ x ∷ []) (all : All P items) where
  pub last_of : P x
  last_of = let long = length-append rest (x ∷ []) in subst P (get_or-append_seam rest x [] x) (subst (All P) is all (length rest) x (omega (arith, long)))

  pub others_of : All P rest
  others_of k d less = let long = length-append rest (x ∷ []) in subst P (get_or_append_left rest (x ∷ []) d k less) (subst (All P) is all k d (omega (arith, long, less)))
