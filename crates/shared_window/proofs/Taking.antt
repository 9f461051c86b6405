-- Pages that are taken into a hand, one after another, and what they leave where they go back as they were.
use Rattle.std.proofs.Common.{◌≡◌, ℕ, suc, ◌+◌, ◌-◌, ◌<◌, ◌≤◌, ◌==◌, if◌then◌else◌, Bool, true, false, true≢false, List, [], ◌++◌, Option, Some, None, is_some, nat_le, All, append-nil, length, refl, sym, ap, ◌∙◌, subst, ⊎_elim, arith}
use Rattle.std.proofs.lemmas.Bool.{eq-eqb, ne_eqb}
use Rattle.std.proofs.lemmas.Bool.Decides.{leb_tells, eqb_tells}
use Rattle.std.proofs.lemmas.List.{append_assoc}
use Rattle.vio_num.specs.Words.{Begins}
use Rattle.page_slots.specs.Page.{PageValue}
use Rattle.page_slots.specs.Stroke.{StrokeValue}
use Rattle.page_slots.specs.Seats.{PagesValue, PageSeatValue, saw, holds, laid_on, places_from}
use Rattle.tce_window.specs.declared.piece.Piece.{Piece}
use Rattle.tce_window.specs.Pieces.{on_page}
use Rattle.tce_window.specs.Window.{strokes_at}
use Rattle.shared_window.specs.declared.hand.FoundInUse.{FoundInUse}
use Rattle.shared_window.specs.Hand.{is_below, IsFirstOn, IsEmptyFor, TakesPages, TakesOne, FindsOne, GivesHand, HasInHand, given, released, places_behind, BeginsIn}
use Rattle.tce_window.proofs.Laws.{page_within}
use Rattle.shared_window.proofs.Nearest.{below_is, below_not, below_less, below_on}

pub begins_self : {X : Type 0} (xs : List X) → Begins xs xs
begins_self xs = ([], sym (append-nil xs))

pub begins_trans : {X : Type 0} (a b c : List X) → Begins a b → Begins b c → Begins a c
begins_trans a b c (r, e) (s, f) = (r ++ s, f ∙ (ap (λ t. t ++ s) e ∙ append_assoc a r s))

pub less_of : (p n : ℕ) → p < n + 1 → (p ≡ n → ⊥) → p < n
less_of p n less o = ⊎_elim (λ t. absurd (o t.1)) (λ t. less_than p n less t.1) (eqb_tells p n)
  where
    less_than : (p n : ℕ) → p < n + 1 → (p ≡ n → ⊥) → p < n
    less_than p n less o = omega (arith, less, o)

-- the pages below the next number are those below this one, and the one found
module _ (pieces : List Piece) (from to n : ℕ) (first : IsFirstOn pieces from to n) where
  between : (p : ℕ) → from ≤ p → p < n → on_page pieces p ≡ false
  between p a b = let less = below_less pieces to n first.there in sym (below_is pieces to p (omega (arith, b, less))) ∙ first.before p a b

  pub same_below : (p : ℕ) → is_below pieces n p ≡ is_below pieces from p
  same_below p = let low = first.from_on in ⊎_elim
      (λ (t : (nat_le (suc p) from ≡ true) × (suc p ≤ from)). below_is pieces n p (omega (arith, t.1, low)) ∙ sym (below_is pieces from p (omega (arith, t.1))))
      (λ (t : (nat_le (suc p) from ≡ false) × (from < suc p)). ⊎_elim
      (λ (s : (nat_le (suc p) n ≡ true) × (suc p ≤ n)). below_is pieces n p (omega (arith, s.1)) ∙ (between p (omega (arith, t.1)) (omega (arith, s.1)) ∙ sym (below_not pieces from p (omega (arith, t.1)))))
      (λ (s : (nat_le (suc p) n ≡ false) × (n < suc p)). below_not pieces n p (omega (arith, s.1)) ∙ sym (below_not pieces from p (omega (arith, t.1))))
      (leb_tells (suc p) n))
      (leb_tells (suc p) from)

  pub next_below : (p : ℕ) → is_below pieces (n + 1) p ≡ (if p == n then true else is_below pieces from p)
  next_below p = ⊎_elim
      (λ (e : ((p == n) ≡ true) × (p ≡ n)). below_is pieces (n + 1) p (omega (arith, e.1)) ∙ (ap (on_page pieces) e.1 ∙ (below_on pieces to n first.there ∙ sym (ap (λ (b : Bool). if b then true else is_below pieces from p) e.0))))
      (λ (o : ((p == n) ≡ false) × (p ≡ n → ⊥)). sides p o.1 ∙ (same_below p ∙ sym (ap (λ (b : Bool). if b then true else is_below pieces from p) o.0)))
      (eqb_tells p n)
    where
      sides : (p : ℕ) → (p ≡ n → ⊥) → is_below pieces (n + 1) p ≡ is_below pieces n p
      sides p o = ⊎_elim
          (λ (s : (nat_le (suc p) n ≡ true) × (suc p ≤ n)). below_is pieces (n + 1) p (omega (arith, s.1)) ∙ sym (below_is pieces n p (omega (arith, s.1))))
          (λ (s : (nat_le (suc p) n ≡ false) × (n < suc p)). below_not pieces (n + 1) p (above p s.1 o) ∙ sym (below_not pieces n p (omega (arith, s.1))))
          (leb_tells (suc p) n)
        where
          above : (p : ℕ) → n < suc p → (p ≡ n → ⊥) → n + 1 ≤ p
          above p less o = ⊎_elim (λ (t : (nat_le (n + 1) p ≡ true) × (n + 1 ≤ p)). t.1) (λ (t : (nat_le (n + 1) p ≡ false) × (p < n + 1)). absurd (omega (arith, less_of p n t.1 o, less))) (leb_tells (n + 1) p)

-- all pages are below the number of pages
pub all_below : (n : ℕ) (pieces : List Piece) → All (λ piece. piece.page < n) pieces → (p : ℕ) → is_below pieces n p ≡ on_page pieces p
all_below n pieces within p = ⊎_elim
    (λ (t : (nat_le (suc p) n ≡ true) × (suc p ≤ n)). below_is pieces n p (omega (arith, t.1)))
    (λ (t : (nat_le (suc p) n ≡ false) × (n < suc p)). below_not pieces n p (omega (arith, t.1)) ∙ sym (none_on (on_page pieces p) (λ on. let less = page_within n pieces p within on in omega (arith, less, t.1))))
    (leb_tells (suc p) n)
  where
    none_on : (b : Bool) → (b ≡ true → ⊥) → b ≡ false
    none_on true h = absurd (h refl)
    none_on false h = refl

-- where no page comes behind, all are below
pub ends_below : (n : ℕ) (pieces : List Piece) (from : ℕ) → All (λ piece. piece.page < n) pieces → ((p : ℕ) → from ≤ p → is_below pieces n p ≡ false) → (p : ℕ) → is_below pieces from p ≡ on_page pieces p
ends_below n pieces from within none p = ⊎_elim
    (λ (t : (nat_le (suc p) from ≡ true) × (suc p ≤ from)). below_is pieces from p (omega (arith, t.1)))
    (λ (t : (nat_le (suc p) from ≡ false) × (from < suc p)). below_not pieces from p (omega (arith, t.1)) ∙ (sym (none p (omega (arith, t.1))) ∙ all_below n pieces within p))
    (leb_tells (suc p) from)

pub was_free : (w h : Bool) → (if w then true else h) ≡ false → h ≡ false
was_free true h e = absurd (true≢false e)
was_free false h e = e

pub some_when : (w : Bool) (s : List StrokeValue) → is_some (if w then Some s else None) ≡ w
some_when true s = refl
some_when false s = refl

-- one page more
module _ (pages : PagesValue) (old new new' : PageSeatValue) (wanted wanted' : ℕ → Bool) (region region' : List (Option PageValue)) (n : ℕ) (next : (p : ℕ) → wanted' p ≡ (if p == n then true else wanted p))
    (took : TakesPages pages old wanted new region) (one : TakesOne new region n new' region') where
  was_here : saw new' n ≡ saw new' n
  was_here = refl

  own_free : holds old n ≡ false
  own_free = was_free (wanted n) (holds old n) (sym (took.held n) ∙ one.free)

  at : (P : ℕ → Type 0) → P n → ((p : ℕ) → (p == n) ≡ false → (p ≡ n → ⊥) → P p) → (p : ℕ) → P p
  at P here there p = ⊎_elim (λ (e : ((p == n) ≡ true) × (p ≡ n)). subst P (sym e.1) here) (λ (o : ((p == n) ≡ false) × (p ≡ n → ⊥)). there p o.0 o.1) (eqb_tells p n)

  now : wanted' n ≡ true
  now = next n ∙ ap (λ (b : Bool). if b then true else wanted n) (eq-eqb n n refl)

  else_as : (p : ℕ) → (p == n) ≡ false → wanted' p ≡ wanted p
  else_as p o = next p ∙ ap (λ (b : Bool). if b then true else wanted p) o

  pub takes_more : TakesPages pages old wanted' new' region'
  takes_more = record {
    ours = one.pages ∙ took.ours;
    size = one.size ∙ took.size;
    here = at (λ p. strokes_at region' p ≡ (if wanted' p then Some (saw new' p) else None))
        (one.here n ∙ (ap (λ (b : Bool). if b then Some (saw new' n) else strokes_at region n) (eq-eqb n n refl) ∙ sym (ap (λ (b : Bool). if b then Some (saw new' n) else None) now)))
        (λ p o ne. one.here p ∙ (ap (λ (b : Bool). if b then Some (saw new' n) else strokes_at region p) (ne_eqb n p (λ e. ne (sym e))) ∙ (took.here p ∙ (ap (λ s. if wanted p then Some s else None) (sym (one.others p o)) ∙ sym (ap (λ (b : Bool). if b then Some (saw new' p) else None) (else_as p o))))));
    held = at (λ p. holds new' p ≡ (if wanted' p then true else holds old p))
        (one.held n ∙ (ap (λ (b : Bool). if b then true else holds new n) (eq-eqb n n refl) ∙ sym (ap (λ (b : Bool). if b then true else holds old n) now)))
        (λ p o ne. one.held p ∙ (ap (λ (b : Bool). if b then true else holds new p) o ∙ (took.held p ∙ sym (ap (λ (b : Bool). if b then true else holds old p) (else_as p o)))));
    free = at (λ p. wanted' p ≡ true → holds old p ≡ false) (λ _. own_free) (λ p o ne w. took.free p (sym (else_as p o) ∙ w));
    seen = at (λ p. Begins (saw old p) (saw new' p))
        (begins_trans (saw old n) (saw new n) (saw new' n) (took.seen n) one.begins)
        (λ p o ne. subst (Begins (saw old p)) (sym (one.others p o)) (took.seen p));
    others = at (λ p. wanted' p ≡ false → saw new' p ≡ saw old p) (λ none. absurd (true≢false (sym now ∙ none))) (λ p o ne none. one.others p o ∙ took.others p (sym (else_as p o) ∙ none));
    laid = λ p. one.laid p ∙ took.laid p;
    count = let before = took.count in let here = one.count in omega (arith, before, here);
  }

-- no page yet
pub takes_none : (pages : PagesValue) (old : PageSeatValue) (region : List (Option PageValue)) (pieces : List Piece) → old.pages ≡ pages.id → IsEmptyFor pages region → TakesPages pages old (is_below pieces 0) old region
takes_none pages old region pieces ours empty = let none : (p : ℕ) → is_below pieces 0 p ≡ false = λ p. below_not pieces 0 p (omega arith) in record {
  ours = ours;
  size = empty.size;
  here = λ p. empty.away p ∙ sym (ap (λ (b : Bool). if b then Some (saw old p) else None) (none p));
  held = λ p. sym (ap (λ (b : Bool). if b then true else holds old p) (none p));
  free = λ p w. absurd (true≢false (sym w ∙ none p));
  seen = λ p. begins_self (saw old p);
  others = λ p w. refl;
  laid = λ p. refl;
  count = omega arith;
}

-- the same pages by another test
pub takes_same : (pages : PagesValue) (old new : PageSeatValue) (wanted wanted' : ℕ → Bool) (region : List (Option PageValue)) → ((p : ℕ) → wanted p ≡ wanted' p) → TakesPages pages old wanted new region → TakesPages pages old wanted' new region
takes_same pages old new wanted wanted' region same took = record {
  ours = took.ours;
  size = took.size;
  here = λ p. took.here p ∙ ap (λ (b : Bool). if b then Some (saw new p) else None) (same p);
  held = λ p. took.held p ∙ ap (λ (b : Bool). if b then true else holds old p) (same p);
  free = λ p w. took.free p (same p ∙ w);
  seen = took.seen;
  others = λ p none. took.others p (same p ∙ none);
  laid = took.laid;
  count = took.count;
}

-- a page that is in use changes nothing
pub takes_still : (pages : PagesValue) (old before after : PageSeatValue) (wanted : ℕ → Bool) (region region' : List (Option PageValue)) (n : ℕ) (found : FoundInUse) → TakesPages pages old wanted before region → FindsOne before n found after → region' ≡ region → TakesPages pages old wanted after region'
takes_still pages old before after wanted region region' n found t f same =
    let count = t.count in let read = f.read.read in
    let here : old.last.count ≤ after.last.count = omega (arith, count, read) in
    subst (TakesPages pages old wanted after) (sym same) (subst (λ s. TakesPages pages old wanted s region) (sym f.rest)
    (record { ours = t.ours; size = t.size; here = t.here; held = t.held; free = t.free; seen = t.seen; others = t.others; laid = t.laid; count = here }))

-- a hand of pages that were taken
pub in_hand : (pages : PagesValue) (old new : PageSeatValue) (wanted : ℕ → Bool) (region : List (Option PageValue)) → TakesPages pages old wanted new region → HasInHand pages new region
in_hand pages old new wanted region took = record {
  ours = took.ours;
  size = took.size;
  held = λ p there. took.held p ∙ ap (λ (b : Bool). if b then true else holds old p) (sym (some_when (wanted p) (saw new p)) ∙ (ap is_some (sym (took.here p)) ∙ there));
  more = λ p. subst (BeginsIn (saw new p)) (sym (took.here p)) (begins_when (wanted p) (saw new p));
}
  where
    begins_when : (w : Bool) (s : List StrokeValue) → BeginsIn s (if w then Some s else None)
    begins_when true s = begins_self s
    begins_when false s = tt

less_self : (n : ℕ) → n - n ≡ 0
less_self n = omega arith

zero_less : (n : ℕ) → 0 - n ≡ 0
zero_less n = omega arith

pub none_behind : (w : Bool) (s : List StrokeValue) → places_behind s (if w then Some s else None) ≡ []
none_behind true s = ap (places_from (length s)) (less_self (length s))
none_behind false s = ap (places_from (length s)) (zero_less (length s))

given_when : (w : Bool) (s : List StrokeValue) → given (if w then Some s else None) s ≡ s
given_when true s = refl
given_when false s = refl

released_when : (w : Bool) (s : List StrokeValue) (h held : Bool) → held ≡ (if w then true else h) → (w ≡ true → h ≡ false) → released (if w then Some s else None) held ≡ h
released_when true s h held is free = sym (free refl)
released_when false s h held is free = is

-- pages that go back as they were taken leave what the seat holds and laid as before
module _ (pages : PagesValue) (old new new' : PageSeatValue) (wanted : ℕ → Bool) (region : List (Option PageValue)) (took : TakesPages pages old wanted new region) (gives : GivesHand new (strokes_at region) new') where
  pub back_seen : (p : ℕ) → saw new' p ≡ saw new p
  back_seen p = gives.seen p ∙ (ap (λ h. given h (saw new p)) (took.here p) ∙ given_when (wanted p) (saw new p))

  pub back_held : (p : ℕ) → holds new' p ≡ holds old p
  back_held p = gives.held p ∙ (ap (λ h. released h (holds new p)) (took.here p) ∙ released_when (wanted p) (saw new p) (holds old p) (holds new p) (took.held p) (took.free p))

  pub back_laid : (p : ℕ) → laid_on new' p ≡ laid_on old p
  back_laid p = gives.laid p ∙ (ap (λ h. laid_on new p ++ places_behind (saw new p) h) (took.here p) ∙ (ap (λ l. laid_on new p ++ l) (none_behind (wanted p) (saw new p)) ∙ (append-nil (laid_on new p) ∙ took.laid p)))

  pub back_begins : (p : ℕ) → Begins (saw old p) (saw new' p)
  back_begins p = subst (Begins (saw old p)) (sym (back_seen p)) (took.seen p)

  -- a page that the seat had before is none of them
  not_wanted : (b h : Bool) → (b ≡ true → h ≡ false) → h ≡ true → b ≡ false
  not_wanted true h free held = absurd (true≢false (sym held ∙ free refl))
  not_wanted false h free held = refl

  pub back_others : (p : ℕ) → holds old p ≡ true → saw new' p ≡ saw old p
  back_others p held = back_seen p ∙ took.others p (not_wanted (wanted p) (holds old p) (took.free p) held)
