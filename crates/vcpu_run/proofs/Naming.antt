-- The copies of a server name the strokes that other units laid: what a window's own unit lays, and what other pairs' copies do,
-- leaves that so.
use Rattle.std.proofs.Common.{◌≡◌, ◌≢◌, ◌∙◌, ◌⊎◌, inl, inr, ℕ, zero, suc, ◌+◌, ◌==◌, ◌&&◌, ◌<◌, ◌≤◌, Bool, true, false, cond, List, [], ◌∷◌, ◌++◌, All, Option, Some, None, length, slice_get, refl, sym, ap, ap₂, subst, arith, append-nil, length-append}
use Rattle.std.proofs.lemmas.Bool.Decides.{nat_tests}
use Rattle.std.proofs.lemmas.Grind.{flat_map-append}
use Rattle.std.proofs.lemmas.List.Elements.{All-head, All-tail, All-weaker}
use Rattle.std.specs.List.{Contains, flat_map}
use Rattle.vio_num.specs.Words.{Begins}
use Rattle.vio_num.specs.declared.names.UnitId.{UnitId}
use Rattle.page_slots.specs.Stroke.{StrokeValue}
use Rattle.tce_window.specs.Moved.{stroke_count}
use Rattle.tce_window.specs.Pieces.{Touches}
use Rattle.tce_window.specs.PortState.{PortState}
use Rattle.tce_window.specs.declared.piece.Piece.{Piece}
use Rattle.rdma_copy.specs.Copies.{side_of}
use Rattle.rdma_copy.specs.Copy.{IsLawful, Side}
use Rattle.rdma_copy.specs.declared.copy.CopyRecord.{CopyRecord}
use Rattle.unit_region.specs.Kept.{LaysOwnAll, LaysOwnOn}
use Rattle.block_server.specs.Advances.{IsOwnCopy}
use Rattle.block_server.specs.Makers.{AreNamed, Rises, VersionsAreInOrder, is_piece_of, is_piece_on, named_on, places_in, same_unit, stroke_in, versions_in, versions_of, versions_on}
use Rattle.block_server.proofs.Versions.{order_grown}
use Rattle.vcpu_run.specs.Named.{NamesNone}
use Rattle.vcpu_run.proofs.Homes.{all_at}

-- a stroke of another unit was there before its window's unit laid more
in_front : (unit : UnitId) (old more : List StrokeValue) (place : ℕ) (stroke : StrokeValue) → All (λ stroke. stroke.name.who ≡ unit) more
    → slice_get (old ++ more) place ≡ Some stroke → stroke.name.who ≢ unit → slice_get old place ≡ Some stroke
in_front unit [] more place stroke own at other = absurd (other (all_at (λ (stroke : StrokeValue). stroke.name.who ≡ unit) more place stroke own at))
in_front unit (x ∷ old) more zero stroke own at other = at
in_front unit (x ∷ old) more (suc place) stroke own at other = in_front unit old more place stroke own at other

was_there : (unit : UnitId) (old new : Option (List StrokeValue)) (place : ℕ) (stroke : StrokeValue) → LaysOwnOn unit old new
    → stroke_in new place ≡ Some stroke → stroke.name.who ≢ unit → stroke_in old place ≡ Some stroke
was_there unit (Some old) (Some new) place stroke lays at other =
    in_front unit old lays.more place stroke lays.own (ap (λ strokes. slice_get strokes place) (sym lays.is) ∙ at) other
was_there unit (Some old) None place stroke lays at other = absurd lays
was_there unit None (Some new) place stroke lays at other = absurd lays
was_there unit None None place stroke lays at other = at

no_fewer : (unit : UnitId) (old new : Option (List StrokeValue)) → LaysOwnOn unit old new → stroke_count old ≤ stroke_count new
no_fewer unit (Some old) (Some new) lays = omega (arith, ap length lays.is, length-append old lays.more)
no_fewer unit (Some old) None lays = absurd lays
no_fewer unit None (Some new) lays = absurd lays
no_fewer unit None None lays = omega arith

pub named_still : (old new : Side) (made : List CopyRecord) → new.unit ≡ old.unit → ((e : ℕ) → Begins (old.values e) (new.values e)) → LaysOwnAll old.unit old.strokes new.strokes → AreNamed old made → AreNamed new made
named_still old new made unit values lays is = record {
  rising = λ page. subst (λ u. Rises (named_on u page made)) (sym unit) (is.rising page);
  there = λ page. subst (λ u. All (λ place. place < stroke_count (new.strokes page)) (named_on u page made)) (sym unit)
      (All-weaker (λ place. place < stroke_count (old.strokes page)) (λ place. place < stroke_count (new.strokes page))
      (λ place less. omega (arith, less, no_fewer old.unit (old.strokes page) (new.strokes page) (lays page))) (named_on old.unit page made) (is.there page));
  others = λ page place stroke at other. subst (λ u. Contains (named_on u page made) place) (sym unit)
      (is.others page place stroke
      (was_there old.unit (old.strokes page) (new.strokes page) place stroke (lays page) at (λ e. other (e ∙ sym unit)))
      (λ e. other (e ∙ sym unit)));
  versions = λ entry. subst (λ u. VersionsAreInOrder (length (new.values entry)) (versions_on u entry made)) (sym unit)
      (order_grown (length (old.values entry)) (length (new.values entry)) (versions_on old.unit entry made) (no_value_gone (old.values entry) (new.values entry) (values entry)) (is.versions entry));
}
  where
    no_value_gone : (front whole : List ℕ) → Begins front whole → length front ≤ length whole
    no_value_gone front whole begins = omega (arith, ap length begins.1, length-append front begins.0)

-- copies that name nothing there name no more
none_of : (names : CopyRecord → List ℕ) (copies : List CopyRecord) → All (λ copy. names copy ≡ []) copies → flat_map names copies ≡ []
none_of names [] none = refl
none_of names (copy ∷ copies) none =
    ap (λ first. first ++ flat_map names copies) (All-head (λ (copy : CopyRecord). names copy ≡ []) copy copies none)
    ∙ none_of names copies (All-tail (λ (copy : CopyRecord). names copy ≡ []) copy copies none)

no_more : (names : CopyRecord → List ℕ) (before more : List CopyRecord) → All (λ copy. names copy ≡ []) more → flat_map names before ≡ flat_map names (before ++ more)
no_more names before more none =
    sym (append-nil (flat_map names before))
    ∙ (ap (λ last. flat_map names before ++ last) (sym (none_of names more none)) ∙ sym (flat_map-append names before more))

pub named_beside : (window : Side) (before more : List CopyRecord) → All (NamesNone window.unit) more → AreNamed window before → AreNamed window (before ++ more)
named_beside window before more none is = record {
  rising = λ page. subst Rises (places page) (is.rising page);
  there = λ page. subst (λ places. All (λ place. place < stroke_count (window.strokes page)) places) (places page) (is.there page);
  others = λ page place stroke at other. subst (λ places. Contains places place) (places page) (is.others page place stroke at other);
  versions = λ entry. subst (VersionsAreInOrder (length (window.values entry))) (versions entry) (is.versions entry);
}
  where
    places : (page : ℕ) → named_on window.unit page before ≡ named_on window.unit page (before ++ more)
    places page =
        no_more (λ copy. places_in window.unit page copy.to.items) before more
        (All-weaker (NamesNone window.unit) (λ copy. places_in window.unit page copy.to.items ≡ []) (λ copy none. none.0 page) more none)

    versions : (entry : ℕ) → versions_on window.unit entry before ≡ versions_on window.unit entry (before ++ more)
    versions entry =
        no_more (versions_of window.unit entry) before more
        (All-weaker (NamesNone window.unit) (λ copy. versions_of window.unit entry copy ≡ []) (λ copy none. none.1 entry) more none)

-- the pieces of a copy are of one unit, and name nothing in another's window
pub one_unit : (a b : UnitId) → same_unit a b ≡ true → a ≡ b
one_unit a b is = grind (arith, nat_tests)

first_of : (a b : Bool) → (a && b) ≡ true → a ≡ true
first_of true b e = refl
first_of false b e = e

pub touched_none : (unit other : UnitId) (from to page : ℕ) (pieces : List Piece) → Touches unit from to pieces → unit ≢ other → places_in other page pieces ≡ []
touched_none unit other from to page [] touched apart = refl
touched_none unit other from to page (piece ∷ pieces) touched apart =
    at (is_piece_on other page piece) refl (touched_none unit other (from + piece.len) to page pieces touched.2 apart)
  where
    at : (b : Bool) → is_piece_on other page piece ≡ b → places_in other page pieces ≡ [] → cond b (piece.at ∷ places_in other page pieces) (places_in other page pieces) ≡ []
    at true e none = absurd (apart (sym touched.1.unit_is ∙ one_unit piece.unit other (first_of (same_unit piece.unit other) (piece.page == page) e)))
    at false e none = none

touched_entries : (unit other : UnitId) (from to entry : ℕ) (pieces : List Piece) → Touches unit from to pieces → unit ≢ other → versions_in other entry pieces ≡ []
touched_entries unit other from to entry [] touched apart = refl
touched_entries unit other from to entry (piece ∷ pieces) touched apart =
    at (is_piece_of other entry piece) refl (touched_entries unit other (from + piece.len) to entry pieces touched.2 apart)
  where
    at : (b : Bool) → is_piece_of other entry piece ≡ b → versions_in other entry pieces ≡ []
        → cond b (piece.version ∷ versions_in other entry pieces) (versions_in other entry pieces) ≡ []
    at true e none = absurd (apart (sym touched.1.unit_is ∙ one_unit piece.unit other (first_of (same_unit piece.unit other) (piece.entry == entry) e)))
    at false e none = none

pub copy_none : (own client : PortState) (copy : CopyRecord) (other : UnitId) → IsOwnCopy own client copy
    → own.place.unit ≢ other → client.place.unit ≢ other → NamesNone other copy
copy_none own client copy other is no_own no_client = (λ page. at page is.lawful, λ entry. of entry is.lawful)
  where
    of : (entry : ℕ) → IsLawful copy (side_of client) is.from (side_of own) is.to ⊎ IsLawful copy (side_of own) is.from (side_of client) is.to → versions_of other entry copy ≡ []
    of entry (inl lawful) =
        ap₂ (λ read wrote. read ++ wrote) (touched_entries client.place.unit other is.from (is.from + length lawful.bytes) entry copy.from.items lawful.read.touched no_client)
        (touched_entries own.place.unit other is.to (is.to + length lawful.bytes) entry copy.to.items lawful.written.touched no_own)
    of entry (inr lawful) =
        ap₂ (λ read wrote. read ++ wrote) (touched_entries own.place.unit other is.from (is.from + length lawful.bytes) entry copy.from.items lawful.read.touched no_own)
        (touched_entries client.place.unit other is.to (is.to + length lawful.bytes) entry copy.to.items lawful.written.touched no_client)

    at : (page : ℕ) → IsLawful copy (side_of client) is.from (side_of own) is.to ⊎ IsLawful copy (side_of own) is.from (side_of client) is.to → places_in other page copy.to.items ≡ []
    at page (inl lawful) = touched_none own.place.unit other is.to (is.to + length lawful.bytes) page copy.to.items lawful.written.touched no_own
    at page (inr lawful) = touched_none client.place.unit other is.to (is.to + length lawful.bytes) page copy.to.items lawful.written.touched no_client
