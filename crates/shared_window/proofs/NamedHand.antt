-- What one name wrote, read on pages that are taken and given back.
use Rattle.std.proofs.Common.{◌≡◌, ℕ, ◌+◌, ◌<◌, ◌≤◌, List, length, slice_index, sym, ◌∙◌, subst, arith}
use Rattle.std.specs.Prelude.{Result, Ok, Err, IfErr, OnOk}
use Rattle.page_slots.specs.declared.stroke.StrokeName.{StrokeName}
use Rattle.tce_window.specs.declared.answers.NamedFault.{NamedFault}
use Rattle.tce_window.specs.declared.answers.NamedFault.TheVariants.{Range, InUse, Stale}
use Rattle.tce_window.specs.declared.piece.Piece.{Piece}
use Rattle.tce_window.specs.Named.{AreFresh, IsFresh, IsStale, from_place, to_place}
use Rattle.tce_window.specs.Region.{first_page, end_page, region_byte}
use Rattle.tce_window.specs.Window.{strokes_at}
use Rattle.shared_window.specs.Hand.{IsEmptyFor, GivesHand}
use Rattle.shared_window.specs.Reading.{ReadsOwn, AreFreshAt, IsStaleIn, RefusesNamed, TakesRange}
use Rattle.shared_window.specs.SharedWindow.{SharedWindowValue, WindowSeatValue, strokes_known, IsSeatAt}
use Rattle.shared_window.proofs.ReadingHand.{is_touched, back_only, back_known, reads_own}

-- what follows of an answer
on_ok : (r : Result (Unit {0}) NamedFault) (P Q : Type 0) → (P → Q) → OnOk r P → OnOk r Q
on_ok (Ok u) P Q f h = f h
on_ok (Err e) P Q f h = tt

if_err : (r : Result (Unit {0}) NamedFault) (P Q : NamedFault → Type 0) → ((fault : NamedFault) → P fault → Q fault) → IfErr r P → IfErr r Q
if_err (Ok u) P Q f h = tt
if_err (Err e) P Q f h = f e h

module _ (w : SharedWindowValue) (old mid : WindowSeatValue) (at len : ℕ) (pieces : List Piece) (t : TakesRange w old at len pieces mid) (new : WindowSeatValue) (ours : IsSeatAt w old) (gives : GivesHand mid.pages (strokes_at mid.region) new.pages)
    (empty : IsEmptyFor w.pages new.region) (entries : new.entries ≡ mid.entries) (counts : new.in_use ≡ mid.in_use) (name : StrokeName) (answer : Result (Unit {0}) NamedFault) where
  pub named_own : (out : List ℕ) → length out ≡ len → OnOk answer ((k : ℕ) → k < length out → slice_index out k ≡ region_byte (strokes_at mid.region) (at + k)) → OnOk answer (ReadsOwn w old at out new)
  named_own out size = on_ok answer ((k : ℕ) → k < length out → slice_index out k ≡ region_byte (strokes_at mid.region) (at + k)) (ReadsOwn w old at out new) (reads_own w old mid at len pieces t new ours gives empty entries counts out size)

  fresh_known : (p : ℕ) → first_page at ≤ p → p < end_page at len → IsFresh name (from_place at p) (to_place at len p) (strokes_at mid.region p) → IsFresh name (from_place at p) (to_place at len p) (strokes_known w.pages.count new.pages p)
  fresh_known p low high = subst (IsFresh name (from_place at p) (to_place at len p)) (sym (back_known w old mid at len pieces t new ours gives empty entries counts p (is_touched at len p low high)))

  pub named_fresh : OnOk answer (AreFresh name at len (strokes_at mid.region) (first_page at) (end_page at len)) → OnOk answer (AreFreshAt w name at len new)
  named_fresh = on_ok answer (AreFresh name at len (strokes_at mid.region) (first_page at) (end_page at len)) (AreFreshAt w name at len new) (λ h p low high. fresh_known p low high (h p low high))

  stale_known : (fault : NamedFault) → IsStaleIn name at len (strokes_at mid.region) fault → RefusesNamed w old name at len new fault
  stale_known Range h = absurd h
  stale_known (InUse page word) h = absurd h
  stale_known (Stale page found) h = record {
    stale = λ ls. record {
      inside = t.inside;
      first = record {
        from = h.from;
        below = h.below;
        stale = subst (IsStale name (from_place at page) (to_place at len page) found) (sym (back_known w old mid at len pieces t new ours gives empty entries counts page (is_touched at len page h.from h.below))) h.stale;
        before = λ p low high. let below = h.below in fresh_known p low (omega (arith, high, below)) (h.before p low high);
      };
    };
    only = back_only w old mid at len pieces t new ours gives empty entries counts;
    in_use = counts ∙ t.in_use;
  }

  pub named_stale : IfErr answer (IsStaleIn name at len (strokes_at mid.region)) → IfErr answer (RefusesNamed w old name at len new)
  named_stale = if_err answer (IsStaleIn name at len (strokes_at mid.region)) (RefusesNamed w old name at len new) stale_known
