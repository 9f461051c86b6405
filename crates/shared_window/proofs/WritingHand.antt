-- A range of the region whose pages are taken, written and given back.
use Rattle.std.proofs.Common.{◌≡◌, ℕ, ◌+◌, ◌-◌, Bool, true, false, true≢false, List, [], ◌∷◌, ◌++◌, Option, Some, None, is_some, append-nil, length, length-append, if◌then◌else◌, refl, sym, ap, ◌∙◌, subst, arith}
use Rattle.std.specs.Prelude.{Result, Ok, Err, OnOk, OnErr}
use Rattle.vio_num.specs.declared.memory.NoMemory.{NoMemory}
use Rattle.page_slots.specs.declared.stroke.StrokeName.{StrokeName}
use Rattle.page_slots.specs.Page.{PageValue}
use Rattle.page_slots.specs.Stroke.{StrokeValue}
use Rattle.page_slots.specs.Seats.{saw, holds, laid_on, places_from}
use Rattle.tce_window.specs.declared.piece.Piece.{Piece}
use Rattle.tce_window.specs.Grant.{values_of}
use Rattle.tce_window.specs.Moved.{stroke_count}
use Rattle.tce_window.specs.Pieces.{on_page}
use Rattle.tce_window.specs.Port.{Grows, IsWritten}
use Rattle.tce_window.specs.Region.{touches, written, stroke_on}
use Rattle.tce_window.specs.Strokes.{with_strokes}
use Rattle.tce_window.specs.Window.{strokes_at}
use Rattle.shared_window.specs.Hand.{IsEmptyFor, BeginsIn, HasInHand, GivesHand, given, released, places_behind}
use Rattle.shared_window.specs.Reading.{TakesRange}
use Rattle.shared_window.specs.SharedWindow.{SharedWindowValue, WindowSeatValue, strokes_known, taken_with, IsSeatAt}
use Rattle.shared_window.specs.Writing.{WritesOwn, LacksMemory}
use Rattle.shared_window.proofs.HeldRanges.{known_free, taken_held, taken_free, knows_more, grows_some}
use Rattle.shared_window.proofs.ReadingHand.{is_touched, touched_in, taken_there, still_at, back_at, back_only, back_there}
use Rattle.shared_window.proofs.Taking.{begins_self, begins_trans, in_hand}

-- a page that is written has what it had, and more
written_grows : (name : StrokeName) (at : ℕ) (bytes : List ℕ) (p : ℕ) (x : Option (List StrokeValue)) → Grows true x (written name at bytes p x)
written_grows name at bytes p x = by (touches at (length bytes) p) x
  where
    by : (b : Bool) (x : Option (List StrokeValue)) → Grows true x (if b then with_strokes x (stroke_on name at bytes p ∷ []) else x)
    by true (Some s) = (stroke_on name at bytes p ∷ [], refl)
    by true None = tt
    by false (Some s) = begins_self s
    by false None = tt

same_grows : (x : Option (List StrokeValue)) → Grows true x x
same_grows (Some s) = begins_self s
same_grows None = tt

-- whatever the answer of a write, each page has what it had
pub after_write : (r : Result (Unit {0}) NoMemory) (name : StrokeName) (at : ℕ) (bytes : List ℕ) (region region' : List (Option PageValue)) → OnOk r ((p : ℕ) → strokes_at region' p ≡ written name at bytes p (strokes_at region p))
    → OnErr r ((p : ℕ) → strokes_at region' p ≡ strokes_at region p) → (p : ℕ) → Grows true (strokes_at region p) (strokes_at region' p)
after_write (Ok u) name at bytes region region' ok err p = subst (Grows true (strokes_at region p)) (sym (ok p)) (written_grows name at bytes p (strokes_at region p))
after_write (Err e) name at bytes region region' ok err p = subst (Grows true (strokes_at region p)) (sym (err p)) (same_grows (strokes_at region p))

still_some : (x y : Option (List StrokeValue)) → Grows true x y → is_some y ≡ is_some x
still_some (Some s) (Some t) g = refl
still_some (Some s) None g = absurd g
still_some None (Some t) g = absurd g
still_some None None g = refl

still_begins : (front : List StrokeValue) (x y : Option (List StrokeValue)) → Grows true x y → BeginsIn front x → BeginsIn front y
still_begins front (Some s) (Some t) g h = begins_trans front s t h g
still_begins front (Some s) None g h = absurd g
still_begins front None (Some t) g h = absurd g
still_begins front None None g h = tt

module _ (w : SharedWindowValue) (old mid : WindowSeatValue) (at len : ℕ) (pieces : List Piece) (t : TakesRange w old at len pieces mid) (region : List (Option PageValue)) (size : length region ≡ length mid.region)
    (grows : (p : ℕ) → Grows true (strokes_at mid.region p) (strokes_at region p)) where
  before : HasInHand w.pages mid.pages mid.region
  before = in_hand w.pages old.pages mid.pages (touches at len) mid.region t.takes

  pub written_in_hand : HasInHand w.pages mid.pages region
  written_in_hand = record {
    ours = t.takes.ours;
    size = size ∙ t.takes.size;
    held = λ p there. before.held p (sym (still_some (strokes_at mid.region p) (strokes_at region p) (grows p)) ∙ there);
    more = λ p. still_begins (saw mid.pages p) (strokes_at mid.region p) (strokes_at region p) (grows p) (before.more p);
  }

  pub written_there : (p : ℕ) → is_some (strokes_at region p) ≡ on_page pieces p
  written_there p = still_some (strokes_at mid.region p) (strokes_at region p) (grows p) ∙ taken_there w old mid at len pieces t p

-- where memory ran out, the pages go back as they were taken
module _ (w : SharedWindowValue) (old mid new : WindowSeatValue) (at len : ℕ) (pieces : List Piece) (t : TakesRange w old at len pieces mid) (ours : IsSeatAt w old) (region : List (Option PageValue)) (same : (p : ℕ) → strokes_at region p ≡ strokes_at mid.region p)
    (gives : GivesHand mid.pages (strokes_at region) new.pages) (empty : IsEmptyFor w.pages new.region) (entries : new.entries ≡ mid.entries) (counts : new.in_use ≡ mid.in_use) where
  gives_same : GivesHand mid.pages (strokes_at mid.region) new.pages
  gives_same = record {
    seen = λ p. gives.seen p ∙ ap (λ h. given h (saw mid.pages p)) (same p);
    held = λ p. gives.held p ∙ ap (λ h. released h (holds mid.pages p)) (same p);
    laid = λ p. gives.laid p ∙ ap (λ h. laid_on mid.pages p ++ places_behind (saw mid.pages p) h) (same p);
    pages = gives.pages;
    last = gives.last;
  }

  pub lacks_at : IsSeatAt w new
  lacks_at = back_at w old mid at len pieces t new ours gives_same empty entries counts

  pub lacks_memory : LacksMemory w old at len new
  lacks_memory = record {
    inside = t.inside;
    there = λ ls p low high. back_there w old mid at len pieces t new ours gives_same empty entries counts p (is_touched at len p low high);
    only = back_only w old mid at len pieces t new ours gives_same empty entries counts;
    in_use = counts ∙ t.in_use;
  }

one_behind : (n : ℕ) → (n + 1) - n ≡ 1
one_behind n = omega arith

none_less : (n : ℕ) → 0 - n ≡ 0
none_less n = omega arith

less_one : (n : ℕ) → (n + 1) - 1 ≡ n
less_one n = omega arith

not_wanted : (b h : Bool) → (b ≡ true → h ≡ false) → h ≡ true → b ≡ false
not_wanted true h free held = absurd (true≢false (sym held ∙ free refl))
not_wanted false h free held = refl

-- bytes that were written
module _ (w : SharedWindowValue) (old mid new : WindowSeatValue) (at : ℕ) (bytes : List ℕ) (mark : ℕ) (pieces : List Piece) (t : TakesRange w old at (length bytes) pieces mid) (ours : IsSeatAt w old) (region : List (Option PageValue))
    (wrote : (p : ℕ) → strokes_at region p ≡ written (record { who = w.unit; mark = mark }) at bytes p (strokes_at mid.region p))
    (gives : GivesHand mid.pages (strokes_at region) new.pages) (empty : IsEmptyFor w.pages new.region) (entries : new.entries ≡ mid.entries) (counts : new.in_use ≡ mid.in_use) where
  abbrev name : StrokeName
  name = record { who = w.unit; mark = mark }

  abbrev on : ℕ → Bool
  on p = touches at (length bytes) p

  abbrev stroke : ℕ → StrokeValue
  stroke p = stroke_on name at bytes p

  -- a page of the range, in the hand
  hand_on : (p : ℕ) → on p ≡ true → strokes_at region p ≡ Some (saw mid.pages p ++ stroke p ∷ [])
  hand_on p here = wrote p ∙ (ap (written name at bytes p) (t.takes.here p ∙ ap (λ (b : Bool). if b then Some (saw mid.pages p) else None) here)
      ∙ ap (λ (b : Bool). if b then Some (saw mid.pages p ++ stroke p ∷ []) else Some (saw mid.pages p)) here)

  -- any other page
  hand_off : (p : ℕ) → on p ≡ false → strokes_at region p ≡ None
  hand_off p apart = wrote p ∙ (ap (λ (b : Bool). if b then with_strokes (strokes_at mid.region p) (stroke p ∷ []) else strokes_at mid.region p) apart
      ∙ (t.takes.here p ∙ ap (λ (b : Bool). if b then Some (saw mid.pages p) else None) apart))

  saw_on : (p : ℕ) → on p ≡ true → saw new.pages p ≡ saw mid.pages p ++ stroke p ∷ []
  saw_on p here = gives.seen p ∙ ap (λ h. given h (saw mid.pages p)) (hand_on p here)

  saw_off : (p : ℕ) → on p ≡ false → saw new.pages p ≡ saw old.pages p
  saw_off p apart = gives.seen p ∙ (ap (λ h. given h (saw mid.pages p)) (hand_off p apart) ∙ t.takes.others p apart)

  by_on : (P : Type 0) (p : ℕ) → (on p ≡ true → P) → (on p ≡ false → P) → P
  by_on P p = by (on p) refl
    where
      by : (b : Bool) → on p ≡ b → (on p ≡ true → P) → (on p ≡ false → P) → P
      by true e here apart = here e
      by false e here apart = apart e

  held_same : (p : ℕ) → holds new.pages p ≡ holds old.pages p
  held_same p = by_on (holds new.pages p ≡ holds old.pages p) p
      (λ here. gives.held p ∙ (ap (λ h. released h (holds mid.pages p)) (hand_on p here) ∙ sym (t.takes.free p here)))
      (λ apart. gives.held p ∙ (ap (λ h. released h (holds mid.pages p)) (hand_off p apart) ∙ (t.takes.held p ∙ ap (λ (b : Bool). if b then true else holds old.pages p) apart)))

  pub wrote_at : IsSeatAt w new
  wrote_at = still_at w old new ours held_same (gives.pages ∙ t.takes.ours) (entries ∙ t.entries) empty

  known_on : (p : ℕ) → on p ≡ true → strokes_known w.pages.count new.pages p ≡ Some (saw mid.pages p ++ stroke p ∷ [])
  known_on p here = known_free w.pages.count new.pages p (touched_in w.pages.count at (length bytes) p t.inside here) (held_same p ∙ t.takes.free p here) ∙ ap Some (saw_on p here)

  longer : (p : ℕ) → length (saw mid.pages p ++ stroke p ∷ []) ≡ length (saw mid.pages p) + 1
  longer p = length-append (saw mid.pages p) (stroke p ∷ [])

  is_written : (p : ℕ) → IsWritten true name at bytes p (strokes_known w.pages.count old.pages p) (strokes_known w.pages.count new.pages p)
  is_written p = by_on (IsWritten true name at bytes p (strokes_known w.pages.count old.pages p) (strokes_known w.pages.count new.pages p)) p
      (λ here. record {
        before = Some (saw mid.pages p);
        grown = grows_some (strokes_known w.pages.count old.pages p) (Some (saw mid.pages p)) (saw old.pages p) (saw mid.pages p)
            (known_free w.pages.count old.pages p (touched_in w.pages.count at (length bytes) p t.inside here) (t.takes.free p here)) refl (t.takes.seen p);
        laid = known_on p here ∙ sym (ap (λ (b : Bool). if b then Some (saw mid.pages p ++ stroke p ∷ []) else Some (saw mid.pages p)) here);
      })
      (λ apart. record {
        before = strokes_known w.pages.count new.pages p;
        grown = knows_more w.pages.count old.pages new.pages p (held_same p) ([], saw_off p apart ∙ sym (append-nil (saw old.pages p)));
        laid = sym (ap (λ (b : Bool). if b then with_strokes (strokes_known w.pages.count new.pages p) (stroke p ∷ []) else strokes_known w.pages.count new.pages p) apart);
      })

  abbrev place : ℕ → List ℕ
  place p = if on p then (stroke_count (strokes_known w.pages.count new.pages p) - 1) ∷ [] else []

  laid_new : (p : ℕ) → laid_on new.pages p ≡ laid_on old.pages p ++ place p
  laid_new p = by_on (laid_on new.pages p ≡ laid_on old.pages p ++ place p) p
      (λ here. let n : ℕ = length (saw mid.pages p) in
      gives.laid p ∙ (ap (λ h. laid_on mid.pages p ++ places_behind (saw mid.pages p) h) (hand_on p here)
      ∙ (ap (λ k. laid_on mid.pages p ++ places_from n (k - n)) (longer p) ∙ (ap (λ k. laid_on mid.pages p ++ places_from n k) (one_behind n)
      ∙ (ap (λ l. l ++ n ∷ []) (t.takes.laid p)
      ∙ sym (ap (λ (b : Bool). laid_on old.pages p ++ (if b then (stroke_count (strokes_known w.pages.count new.pages p) - 1) ∷ [] else [])) here
      ∙ ap (λ k. laid_on old.pages p ++ k ∷ []) (ap (λ x. stroke_count x - 1) (known_on p here) ∙ (ap (λ k. k - 1) (longer p) ∙ less_one n))))))))
      (λ apart. let n : ℕ = length (saw mid.pages p) in
      gives.laid p ∙ (ap (λ h. laid_on mid.pages p ++ places_behind (saw mid.pages p) h) (hand_off p apart) ∙ (ap (λ k. laid_on mid.pages p ++ places_from n k) (none_less n)
      ∙ (ap (λ l. l ++ []) (t.takes.laid p) ∙ sym (ap (λ (b : Bool). laid_on old.pages p ++ (if b then (stroke_count (strokes_known w.pages.count new.pages p) - 1) ∷ [] else [])) apart)))))

  taken_same : (p : ℕ) (b : Bool) → holds old.pages p ≡ b → taken_with new.pages p ≡ taken_with old.pages p
  taken_same p true here = taken_held w.pages.count new.pages p (held_same p ∙ here)
      ∙ (ap length (saw_off p (not_wanted (on p) (holds old.pages p) (t.takes.free p) here)) ∙ sym (taken_held w.pages.count old.pages p here))
  taken_same p false free = taken_free w.pages.count new.pages p (held_same p ∙ free) ∙ sym (taken_free w.pages.count old.pages p free)

  pub writes_own : WritesOwn w old at bytes mark new
  writes_own = let all = entries ∙ t.entries in let same = counts in let first = t.in_use in record {
    writes = λ ls. record {
      inside = t.inside;
      there = λ p low high. ap is_some (known_on p (is_touched at (length bytes) p low high));
      strokes = is_written;
      laid = λ _ p. laid_new p;
    };
    only = λ ls. record {
      place = refl;
      values = ap (λ e. values_of e.rows) all;
      held_from = ap (λ e. e.held_from) all;
      held_count = ap (λ e. e.held_count) all;
      taken = λ i p. taken_same p (holds old.pages p) refl i;
      in_use = omega (arith, same, first);
    };
    in_use = counts ∙ t.in_use;
  }
