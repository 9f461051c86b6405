-- A range that is refused: what the port knows then.
use Rattle.std.proofs.Common.{◌≡◌, ℕ, suc, ◌+◌, ◌/◌, ◌<◌, ◌≤◌, ◌==◌, ◌||◌, Bool, true, false, true≢false, All, List, [], ◌∷◌, Option, length, refl, sym, ◌∙◌, subst, arith}
use Rattle.std.proofs.lemmas.Bool.{eqb-true}
use Rattle.std.proofs.lemmas.List.Elements.{All-cons}
use Rattle.vio_num.specs.declared.names.UnitId.{UnitId}
use Rattle.vio_num.specs.Counts.{Rose}
use Rattle.vio_num.specs.Words.{Begins}
use Rattle.page_slots.specs.Page.{PageValue}
use Rattle.page_slots.specs.Seats.{PageSeatValue, saw}
use Rattle.tce_window.specs.declared.answers.HoldFault.{HoldFault}
use Rattle.tce_window.specs.declared.answers.HoldFault.TheVariants.{Past, NotGranted, InUse}
use Rattle.tce_window.specs.declared.answers.Right.{Right}
use Rattle.tce_window.specs.declared.answers.TceRow.{TceRow}
use Rattle.tce_window.specs.declared.piece.Piece.{Piece}
use Rattle.tce_window.specs.Grant.{values_of}
use Rattle.tce_window.specs.Pieces.{on_page, Touches, IsGranted, IsLast, IsRefused, IsOfRange, IsOfEntry, IsUsable}
use Rattle.tce_window.specs.Port.{NamesFound}
use Rattle.tce_window.proofs.Laws.{page_within}
use Rattle.entry_slots.specs.Entries.{EntrySeatValue}
use Rattle.shared_window.specs.Counting.{CountsFault}
use Rattle.shared_window.specs.Hand.{FindsOneInUse}
use Rattle.shared_window.specs.declared.hand.FoundInUse.{FoundInUse}
use Rattle.shared_window.specs.Pinning.{PinsRange, RefusesRange, Releases}
use Rattle.shared_window.specs.Ranges.{RefusesHold}
use Rattle.shared_window.specs.SharedWindow.{SharedWindowValue, WindowSeatValue, FoundBy}
use Rattle.shared_window.proofs.Taking.{begins_self}
use Rattle.shared_window.proofs.HeldRanges.{knows_more, values_begin}

no_page : (P : ℕ → ℕ → Type 0) (fault : HoldFault) → IsOfEntry fault → NamesFound P fault
no_page P (Past entry) m = tt
no_page P (NotGranted entry version tce) m = tt
no_page P (InUse page word) m = absurd m

not_counted : (fault : HoldFault) (n : ℕ) → IsOfEntry fault → CountsFault fault n n
not_counted (Past entry) n m = refl
not_counted (NotGranted entry version tce) n m = refl
not_counted (InUse page word) n m = absurd m

-- an entry is past the window or lacks the right
module _ (w : SharedWindowValue) (pg : PageSeatValue) (e e' : EntrySeatValue) (region : List (Option PageValue)) (n : ℕ) where
  abbrev before : WindowSeatValue
  before = record { pages = pg; entries = e; region = region; in_use = n }

  abbrev after : WindowSeatValue
  after = record { pages = pg; entries = e'; region = region; in_use = n }

  pub refuses_entry : (ioba len : ℕ) (right : Right) (fault : HoldFault) → w.entries.count ≡ w.pages.count → RefusesRange w.entries.count right ioba len e fault e' → RefusesHold w before ioba len right after fault
  refuses_entry ioba len right fault size r = record {
    cause = subst (λ k. IsRefused (values_of e'.rows) right k ioba len fault) size r.cause;
    found = no_page (FoundBy after) fault r.entry;
    none = λ ls. record { free = r.pins.count_is; strokes = λ p. knows_more w.pages.count pg pg p refl (begins_self (saw pg p)) };
    laid = λ ls _ p. refl;
    rest = λ ls. record { place = refl; values = λ i. values_begin e.rows e'.rows i r.pins.known; in_use = omega arith };
    in_use = not_counted fault n r.entry;
  }

-- the piece on a page
piece_on : (P : Piece → Type 0) (pieces : List Piece) (p : ℕ) → All P pieces → on_page pieces p ≡ true → (piece : Piece) × (piece.page ≡ p) × P piece
piece_on P [] p h on = absurd (true≢false (sym on))
piece_on P (x ∷ xs) p h on = by (x.page == p) refl on (λ more. piece_on P xs p (λ k d less. h (suc k) d (omega (arith, less))) more)
  where
    by : (b : Bool) → (x.page == p) ≡ b → (b || on_page xs p) ≡ true → (on_page xs p ≡ true → (piece : Piece) × (piece.page ≡ p) × P piece) → (piece : Piece) × (piece.page ≡ p) × P piece
    by true e on rest = (x, eqb-true x.page p e, h 0 x (omega arith))
    by false e on rest = rest on

-- the pieces lie in entries that the range touches
touched_entries : (unit : UnitId) (low from to : ℕ) (pieces : List Piece) → Touches unit from to pieces → low ≤ from → All (λ piece. (low / 4096 ≤ piece.entry) × (piece.entry < (to + 4095) / 4096)) pieces
touched_entries unit low from to [] h le = λ k d less. absurd (omega (arith, less))
touched_entries unit low from to (piece ∷ pieces) h le = let at : piece.entry ≡ from / 4096 = h.1.entry in let less : from < to = h.0 in
    All-cons (λ piece. (low / 4096 ≤ piece.entry) × (piece.entry < (to + 4095) / 4096)) piece pieces (omega (arith, at, le), omega (arith, at, less)) (touched_entries unit low (from + piece.len) to pieces h.2 (omega (arith, le)))

-- a page is in use
module _ (w : SharedWindowValue) (old new : WindowSeatValue) (mid : EntrySeatValue) (ioba len : ℕ) (right : Right) (pieces : List Piece) (found : FoundInUse) (region : List (Option PageValue)) (size : w.entries.count ≡ w.pages.count)
    (pin : PinsRange w.unit w.entries.count right ioba len old.entries pieces mid) (f : FindsOneInUse w.pages old.pages pieces found new.pages region) (rel : Releases mid (length pieces) new.entries) where
  of_range : IsOfRange (values_of mid.rows) ioba len found.page
  of_range =
      let P : Piece → Type 0 = λ piece. ((ioba / 4096 ≤ piece.entry) × (piece.entry < (ioba + len + 4095) / 4096)) × (IsGranted (values_of mid.rows) right piece × IsLast (values_of mid.rows) piece) in
      let inside = touched_entries w.unit ioba ioba (ioba + len) pieces pin.touched (omega arith) in
      let t = piece_on P pieces found.page (λ k d less. (inside k d less, (pin.granted k d less, pin.last k d less))) f.on in
      let piece = t.0 in let granted = t.2.1.0 in
      (piece.entry, t.2.0.0, t.2.0.1, record { version = piece.version; value = granted.value; current = record { shown = granted.shown; last = t.2.1.1 }; named = sym granted.page ∙ t.1 })

  pub refuses_use : Rose old.in_use new.in_use → RefusesHold w old ioba len right new (InUse found.page found.word)
  refuses_use rose = let left = rel.left in let held = pin.pins.count_is in record {
    cause = subst (λ (rows : List TceRow). IsRefused (values_of rows) right w.pages.count ioba len (InUse found.page found.word)) (sym rel.rows)
        (page_within w.pages.count pieces found.page (subst (λ n. All (λ piece. piece.page < n) pieces) size pin.pages) f.on, of_range, subst (λ n. IsUsable (values_of mid.rows) right n ioba len) size pin.usable);
    found = f.read.word_is;
    none = λ ls. record { free = omega (arith, left, held); strokes = λ p. knows_more w.pages.count old.pages new.pages p (f.held p) (f.seen p) };
    laid = λ ls _ p. f.laid p;
    rest = λ ls. record { place = refl; values = λ i. values_begin old.entries.rows new.entries.rows i (subst (Begins old.entries.rows) (sym rel.rows) pin.pins.known); in_use = rose_less old.in_use new.in_use rose };
    in_use = rose;
  }
    where
      rose_less : (a b : ℕ) → Rose a b → a ≤ b
      rose_less a b r = omega (arith, r)
