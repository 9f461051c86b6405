-- Pages that are put into their places, each at its number in a list.
use Rattle.std.proofs.Common.{◌≡◌, ℕ, zero, suc, ◌+◌, ◌<◌, ◌==◌, if◌then◌else◌, Bool, false, List, [], ◌∷◌, ◌++◌, Option, Some, None, length, length-append, refl, sym, ap, ◌∙◌, arith}
use Rattle.std.proofs.lemmas.List.{append-nil}
use Rattle.std.proofs.Math.Seq.{append_snoc}
use Rattle.page_slots.specs.Page.{PageValue}
use Rattle.tce_window.specs.Window.{strokes_at}
use Rattle.shared_window.specs.Closing.{strokes_listed}

-- So many pages, the first of all, are in their places; these are left.
pub record ArePlaced (all left : List PageValue) (number : ℕ) (region : List (Option PageValue)) : Type 0 where
  pub done : List PageValue
  pub split : all ≡ done ++ left
  pub number_is : number ≡ length done
  pub strokes : (p : ℕ) → strokes_at region p ≡ strokes_listed done p

none_behind : (done : List PageValue) → strokes_listed done (length done) ≡ None
none_behind [] = refl
none_behind (x ∷ xs) = none_behind xs

one_behind : (done : List PageValue) (page : PageValue) (p : ℕ) → strokes_listed (done ++ page ∷ []) p ≡ (if length done == p then Some page.strokes else strokes_listed done p)
one_behind [] page zero = refl
one_behind [] page (suc p) = let e : (0 == suc p) ≡ false = grind arith in sym (ap (λ (b : Bool). if b then Some page.strokes else None) e)
one_behind (x ∷ xs) page zero = let e : (suc (length xs) == 0) ≡ false = grind arith in sym (ap (λ (b : Bool). if b then Some page.strokes else Some x.strokes) e)
one_behind (x ∷ xs) page (suc p) =
    let e : (suc (length xs) == suc p) ≡ (length xs == p) = grind arith in
    one_behind xs page p ∙ sym (ap (λ (b : Bool). if b then Some page.strokes else strokes_listed xs p) e)

module _ (all left : List PageValue) (number : ℕ) (region : List (Option PageValue)) (page : PageValue) (rest : List PageValue) (is : left ≡ page ∷ rest) (placed : ArePlaced all left number region) where
  -- the next page has a place
  pub inside : number < length all
  inside =
      let long = ap length placed.split ∙ length-append placed.done left in
      let more = ap length is in
      let count = placed.number_is in
      omega (arith, long, more, count)

  pub away : strokes_at region number ≡ None
  away = ap (strokes_at region) placed.number_is ∙ (placed.strokes (length placed.done) ∙ none_behind placed.done)

  pub placed_more : (new : List (Option PageValue)) → ((p : ℕ) → strokes_at new p ≡ (if number == p then Some page.strokes else strokes_at region p)) → ArePlaced all rest (number + 1) new
  placed_more new put =
      let longer = length-append placed.done (page ∷ []) in
      let count = placed.number_is in
      record {
        done = placed.done ++ page ∷ [];
        split = placed.split ∙ (ap (λ l. placed.done ++ l) is ∙ sym (append_snoc placed.done page rest));
        number_is = omega (arith, longer, count);
        strokes = λ p.
            put p ∙ ((λ i. if count i == p then Some page.strokes else placed.strokes p i) ∙ sym (one_behind placed.done page p));
      }

pub all_placed : (all : List PageValue) (number : ℕ) (region : List (Option PageValue)) → ArePlaced all [] number region → (p : ℕ) → strokes_at region p ≡ strokes_listed all p
all_placed all number region placed p = placed.strokes p ∙ ap (λ l. strokes_listed l p) (sym (placed.split ∙ append-nil placed.done))
