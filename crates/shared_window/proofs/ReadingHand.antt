-- A range of the region whose pages are taken, read and given back.
use Rattle.std.proofs.Common.{◌≡◌, ℕ, suc, ◌+◌, ◌*◌, ◌/◌, ◌%◌, ◌^◌, ◌<◌, ◌≤◌, ◌&&◌, Bool, true, false, true≢false, All, List, Some, None, IsSome, is_some, nat_le, length, slice_index, if◌then◌else◌, refl, sym, ap, ◌∙◌, subst, ⊎_elim, arith}
use Rattle.std.proofs.lemmas.Bool.Decides.{leb_tells, nat_tests}
use Rattle.vio_num.specs.Counts.{risen}
use Rattle.vio_num.specs.Words.{Begins}
use Rattle.page_slots.specs.Seats.{saw, holds, laid_on}
use Rattle.tce_window.specs.declared.piece.Piece.{Piece}
use Rattle.tce_window.specs.Grant.{values_of}
use Rattle.tce_window.specs.Laying.{LieOver}
use Rattle.tce_window.specs.Pieces.{on_page}
use Rattle.tce_window.specs.Region.{in_region, touches, first_page, end_page, byte_in, region_byte}
use Rattle.tce_window.specs.Window.{strokes_at}
use Rattle.shared_window.specs.Hand.{IsEmptyFor, TakesPages, FindsOneInUse, GivesHand}
use Rattle.shared_window.specs.declared.hand.FoundInUse.{FoundInUse}
use Rattle.shared_window.specs.Reading.{OnlyReadsAt, ReadsOwn, FindsPage, TakesRange}
use Rattle.shared_window.specs.SharedWindow.{SharedWindowValue, WindowSeatValue, strokes_known, taken_with, IsSeatAt}
use Rattle.shared_window.proofs.HeldRanges.{known_free, taken_held, taken_free, knows_more}
use Rattle.shared_window.proofs.ReadingOver.{over_touches, over_inside}
use Rattle.shared_window.proofs.Taking.{back_seen, back_held, back_laid, back_begins, back_others, takes_same, some_when}

and_left : (a b : Bool) → (a && b) ≡ true → a ≡ true
and_left true b e = refl
and_left false b e = e

and_right : (a b : Bool) → (a && b) ≡ true → b ≡ true
and_right true b e = e
and_right false b e = absurd (true≢false (sym e))

is_le : (a b : ℕ) → nat_le a b ≡ true → a ≤ b
is_le a b e = ⊎_elim (λ (t : (nat_le a b ≡ true) × (a ≤ b)). t.1) (λ (t : (nat_le a b ≡ false) × (b < a)). absurd (true≢false (sym e ∙ t.0))) (leb_tells a b)

-- the bounds of a range inside the region
pub some_in : (n at len : ℕ) → in_region n at len ≡ true → 1 ≤ len
some_in n at len e = is_le 1 len (and_left (nat_le 1 len) (nat_le len 65536) (and_left (nat_le 1 len && nat_le len 65536) (nat_le (at + len) (4096 * n)) e))

pub few_in : (n at len : ℕ) → in_region n at len ≡ true → len ≤ 65536
few_in n at len e = is_le len 65536 (and_right (nat_le 1 len) (nat_le len 65536) (and_left (nat_le 1 len && nat_le len 65536) (nat_le (at + len) (4096 * n)) e))

pub end_in : (n at len : ℕ) → in_region n at len ≡ true → at + len ≤ 4096 * n
end_in n at len e = is_le (at + len) (4096 * n) (and_right (nat_le 1 len && nat_le len 65536) (nat_le (at + len) (4096 * n)) e)

-- the bounds of the pages that it touches
pub touched_from : (at len p : ℕ) → touches at len p ≡ true → first_page at ≤ p
touched_from at len p e = is_le (first_page at) p (and_left (nat_le (first_page at) p) _ e)

pub touched_to : (at len p : ℕ) → touches at len p ≡ true → p < end_page at len
touched_to at len p e = let less = is_le (suc p) (end_page at len) (and_right (nat_le (first_page at) p) _ e) in omega (arith, less)

pub is_touched : (at len p : ℕ) → first_page at ≤ p → p < end_page at len → touches at len p ≡ true
is_touched at len p low high = grind (arith, nat_tests)

pub touched_in : (n at len p : ℕ) → in_region n at len ≡ true → touches at len p ≡ true → p < n
touched_in n at len p inside on = let end = end_in n at len inside in let below = touched_to at len p on in omega (arith, end, below)

-- nothing changed of a seat but what it knows of strokes of pages that it does not hold
pub only_reads : (w : SharedWindowValue) (old new : WindowSeatValue) → ((p : ℕ) → holds new.pages p ≡ holds old.pages p) → ((p : ℕ) → Begins (saw old.pages p) (saw new.pages p))
    → ((p : ℕ) → holds old.pages p ≡ true → saw new.pages p ≡ saw old.pages p) → ((p : ℕ) → laid_on new.pages p ≡ laid_on old.pages p) → new.entries ≡ old.entries → old.in_use ≤ new.in_use → OnlyReadsAt w old new
only_reads w old new held begins others laid entries counts ls = record {
  place = refl;
  strokes = λ p. knows_more w.pages.count old.pages new.pages p (held p) (begins p);
  values = ap (λ e. values_of e.rows) entries;
  held_from = ap (λ e. e.held_from) entries;
  held_count = ap (λ e. e.held_count) entries;
  taken = λ i p. taken_same p (holds old.pages p) refl i;
  laid = λ i p. laid p i;
  in_use = counts;
}
  where
    taken_same : (p : ℕ) (b : Bool) → holds old.pages p ≡ b → taken_with new.pages p ≡ taken_with old.pages p
    taken_same p true here = taken_held w.pages.count new.pages p (held p ∙ here) ∙ (ap length (others p here) ∙ sym (taken_held w.pages.count old.pages p here))
    taken_same p false free = taken_free w.pages.count new.pages p (held p ∙ free) ∙ sym (taken_free w.pages.count old.pages p free)

-- it is a seat at the window still
pub still_at : (w : SharedWindowValue) (old new : WindowSeatValue) → IsSeatAt w old → ((p : ℕ) → holds new.pages p ≡ holds old.pages p) → new.pages.pages ≡ w.pages.id → new.entries ≡ old.entries → IsEmptyFor w.pages new.region → IsSeatAt w new
still_at w old new at held ours entries empty = record {
  pages = ours;
  entries = ap (λ e. e.entries) entries ∙ at.entries;
  empty = empty;
  inside = λ p h. at.inside p (sym (held p) ∙ h);
  within = subst (λ e. 0 < e.held_count → e.held_from + e.held_count ≤ w.pages.count) (sym entries) at.within;
  free = λ none p. held p ∙ at.free (ap (λ e. e.held_count) (sym entries) ∙ none) p;
}

-- a page of the range is in use
pub finds_page : (w : SharedWindowValue) (old new : WindowSeatValue) (at len : ℕ) (pieces : List Piece) (found : FoundInUse) → in_region w.pages.count at len ≡ true → LieOver at (at + len) pieces
    → FindsOneInUse w.pages old.pages pieces found new.pages new.region → new.entries ≡ old.entries → new.in_use ≡ risen old.in_use → FindsPage w old at len new found.page found.word
finds_page w old new at len pieces found inside lie f entries rose = let on : touches at len found.page ≡ true = sym (over_touches at len pieces found.page lie (some_in w.pages.count at len inside)) ∙ f.on in record {
  finds = λ ls. record { inside = inside; from = touched_from at len found.page on; below = touched_to at len found.page on; away = λ e. absurd (true≢false e) };
  read = f.read;
  bit = f.bit;
  only = only_reads w old new f.held f.seen f.others f.laid entries (risen_less old.in_use new.in_use rose);
  in_use = rose;
}
  where
    risen_less : (a b : ℕ) → b ≡ risen a → a ≤ b
    risen_less a b r = omega (arith, r)

-- the pages of the range are taken
pub takes_range : (w : SharedWindowValue) (old new : WindowSeatValue) (at len : ℕ) (pieces : List Piece) → in_region w.pages.count at len ≡ true → at + len ≤ 2 ^ 20 → LieOver at (at + len) pieces
    → TakesPages w.pages old.pages (on_page pieces) new.pages new.region → new.entries ≡ old.entries → new.in_use ≡ old.in_use → TakesRange w old at len pieces new
takes_range w old new at len pieces inside near lie took entries counts = record {
  inside = inside;
  some = some_in w.pages.count at len inside;
  few = few_in w.pages.count at len inside;
  near = near;
  lie = lie;
  takes = takes_same w.pages old.pages new.pages (on_page pieces) (touches at len) new.region (λ p. over_touches at len pieces p lie (some_in w.pages.count at len inside)) took;
  entries = entries;
  in_use = counts;
}

module _ (w : SharedWindowValue) (old mid : WindowSeatValue) (at len : ℕ) (pieces : List Piece) (t : TakesRange w old at len pieces mid) where
  pub taken_there : (p : ℕ) → is_some (strokes_at mid.region p) ≡ on_page pieces p
  taken_there p = ap is_some (t.takes.here p) ∙ (some_when (touches at len p) (saw mid.pages p) ∙ sym (over_touches at len pieces p t.lie (some_in w.pages.count at len t.inside)))

  pub taken_within : All (λ piece. piece.page < w.pages.count) pieces
  taken_within = over_inside w.pages.count at (at + len) pieces t.lie (end_in w.pages.count at len t.inside)

  -- and given back as they were
  module _ (new : WindowSeatValue) (ours : IsSeatAt w old) (gives : GivesHand mid.pages (strokes_at mid.region) new.pages) (empty : IsEmptyFor w.pages new.region) (entries : new.entries ≡ mid.entries) (counts : new.in_use ≡ mid.in_use) where
    held_same : (p : ℕ) → holds new.pages p ≡ holds old.pages p
    held_same = back_held w.pages old.pages mid.pages new.pages (touches at len) mid.region t.takes gives

    pub back_at : IsSeatAt w new
    back_at = still_at w old new ours held_same (gives.pages ∙ t.takes.ours) (entries ∙ t.entries) empty

    pub back_only : OnlyReadsAt w old new
    back_only = only_reads w old new held_same
        (back_begins w.pages old.pages mid.pages new.pages (touches at len) mid.region t.takes gives)
        (back_others w.pages old.pages mid.pages new.pages (touches at len) mid.region t.takes gives)
        (back_laid w.pages old.pages mid.pages new.pages (touches at len) mid.region t.takes gives)
        (entries ∙ t.entries) (let same = counts in let before = t.in_use in omega (arith, same, before))

    -- what is known then of a page of the range is what was in the hand
    pub back_known : (p : ℕ) → touches at len p ≡ true → strokes_known w.pages.count new.pages p ≡ strokes_at mid.region p
    back_known p on = known_free w.pages.count new.pages p (touched_in w.pages.count at len p t.inside on) (held_same p ∙ t.takes.free p on)
        ∙ (ap Some (back_seen w.pages old.pages mid.pages new.pages (touches at len) mid.region t.takes gives p)
        ∙ sym (t.takes.here p ∙ ap (λ (b : Bool). if b then Some (saw mid.pages p) else None) on))

    pub back_there : (p : ℕ) → touches at len p ≡ true → IsSome (strokes_known w.pages.count new.pages p)
    back_there p on = subst IsSome (sym (back_known p on)) (ap is_some (t.takes.here p) ∙ (some_when (touches at len p) (saw mid.pages p) ∙ on))

    pub reads_own : (out : List ℕ) → length out ≡ len → ((k : ℕ) → k < length out → slice_index out k ≡ region_byte (strokes_at mid.region) (at + k)) → ReadsOwn w old at out new
    reads_own out size bytes = record {
      reads = λ ls. record {
        inside = subst (λ n. in_region w.pages.count at n ≡ true) (sym size) t.inside;
        there = λ p low high. back_there p (is_touched at len p low (subst (λ n. p < end_page at n) size high));
        bytes = λ k less. bytes k less ∙ ap (λ x. byte_in x ((at + k) % 4096)) (sym (back_known ((at + k) / 4096) (is_touched at len ((at + k) / 4096) (omega arith) (omega (arith, less, size)))));
      };
      only = back_only;
      in_use = counts ∙ t.in_use;
    }
