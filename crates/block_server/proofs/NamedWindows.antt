-- Which strokes of a window the copies name, and which versions of its entries, after a copy and after a write.
use Rattle.std.proofs.Common.{◌≡◌, ◌≢◌, ◌<◌, ◌≤◌, ◌==◌, ◌&&◌, ℕ, suc, ◌+◌, ◌++◌, Bool, true, false, cond, List, [], ◌∷◌, Option, Some, None, Result, Ok, Err, OnOk, OnErr, All, length, take, drop, slice_get, refl, sym, ◌∙◌, ap, subst, arith, append-nil}
use Rattle.std.proofs.lemmas.Bool.Decides.{nat_tests}
use Rattle.std.proofs.lemmas.Grind.{flat_map-append}
use Rattle.std.proofs.lemmas.List.Elements.{All-nil, All-cons, All-head, All-tail, All-weaker}
use Rattle.std.proofs.lemmas.Option.{slice_get_within}
use Rattle.vio_num.specs.declared.names.UnitId.{UnitId}
use Rattle.page_slots.specs.Stroke.{StrokeValue}
use Rattle.page_slots.specs.declared.stroke.StrokeName.{StrokeName}
use Rattle.tce_window.specs.declared.piece.Piece.{Piece}
use Rattle.tce_window.specs.declared.answers.OwnFault.{OwnFault}
use Rattle.tce_window.specs.Moved.{AreApart, IsLaid, IsNamed, piece_strokes, places_on, stroke_count, stroke_of, strokes_on}
use Rattle.tce_window.specs.Pieces.{IsLast, Touches}
use Rattle.tce_window.specs.Port.{Grows, IsWritten, Later}
use Rattle.tce_window.specs.PortState.{LaysNone, OnlyReads, OnlyWrites, PortState, Writes}
use Rattle.tce_window.specs.Region.{stroke_on, touches, written}
use Rattle.rdma_copy.specs.declared.copy.CopyRecord.{CopyRecord}
use Rattle.rdma_copy.specs.declared.copy.CopyAnswer.{CopyAnswer}
use Rattle.rdma_copy.specs.declared.copy.CopyAnswer.TheVariants as copies
use Rattle.rdma_copy.specs.Answers.{IfCopied, OnRefused}
use Rattle.rdma_copy.specs.Copy.{Side}
use Rattle.rdma_copy.specs.Copies.{Copies, OnlyCopies, side_of}
use Rattle.block_server.specs.Copied.{copies_in}
use Rattle.block_server.specs.Makers.{AreNamed, Rises, VersionsAreInOrder, named_on, places_in, same_unit, stroke_in, versions_in, versions_on}
use Rattle.block_server.proofs.Making.{IsNamedPage, page_laid, page_written}
use Rattle.block_server.proofs.Versions.{none_last, order_copied, order_grown, versions_last, versions_none}

one_unit : (a b : UnitId) → same_unit a b ≡ true → a ≡ b
one_unit a b is = grind (arith, nat_tests)

pub unit_same : (a b : UnitId) → a ≡ b → same_unit a b ≡ true
unit_same a b is = grind (arith, nat_tests, is)

pub unit_other : (a b : UnitId) → a ≢ b → same_unit a b ≡ false
unit_other a b apart = by (same_unit a b) refl
  where
    by : (t : Bool) → same_unit a b ≡ t → t ≡ false
    by true is = absurd (apart (one_unit a b is))
    by false is = refl

-- the pieces of a range are of the window's unit
pieces_of : (unit : UnitId) (from to : ℕ) (pieces : List Piece) → Touches unit from to pieces → All (λ piece. piece.unit ≡ unit) pieces
pieces_of unit from to [] touched = All-nil (λ piece. piece.unit ≡ unit)
pieces_of unit from to (piece ∷ pieces) touched =
    All-cons (λ p. p.unit ≡ unit) piece pieces touched.1.unit_is (pieces_of unit (from + piece.len) to pieces touched.2)

-- pieces of the window itself, and of another
own_places : (unit : UnitId) (page : ℕ) (pieces : List Piece) → All (λ piece. piece.unit ≡ unit) pieces → places_in unit page pieces ≡ places_on page pieces
own_places unit page [] own = refl
own_places unit page (piece ∷ pieces) own =
    ap (λ t. cond (t && (piece.page == page)) (piece.at ∷ places_in unit page pieces) (places_in unit page pieces))
    (unit_same piece.unit unit (All-head (λ p. p.unit ≡ unit) piece pieces own))
    ∙ ap (λ rest. cond (piece.page == page) (piece.at ∷ rest) rest) (own_places unit page pieces (All-tail (λ p. p.unit ≡ unit) piece pieces own))

other_places : (unit other : UnitId) (page : ℕ) (pieces : List Piece) → other ≢ unit → All (λ piece. piece.unit ≡ other) pieces → places_in unit page pieces ≡ []
other_places unit other page [] apart own = refl
other_places unit other page (piece ∷ pieces) apart own =
    ap (λ t. cond (t && (piece.page == page)) (piece.at ∷ places_in unit page pieces) (places_in unit page pieces))
    (unit_other piece.unit unit (λ is. apart (sym (All-head (λ p. p.unit ≡ other) piece pieces own) ∙ is)))
    ∙ other_places unit other page pieces apart (All-tail (λ p. p.unit ≡ other) piece pieces own)

-- what is so of each piece of a page is so of its place
places_all : (P : ℕ → Type 0) (page : ℕ) (pieces : List Piece) → All (λ piece. piece.page ≡ page → P piece.at) pieces → All P (places_on page pieces)
places_all P page [] each = All-nil P
places_all P page (piece ∷ pieces) each = by (piece.page == page) refl (places_all P page pieces (All-tail (λ p. p.page ≡ page → P p.at) piece pieces each))
  where
    by : (t : Bool) → (piece.page == page) ≡ t → All P (places_on page pieces) → All P (cond t (piece.at ∷ places_on page pieces) (places_on page pieces))
    by true is rest = All-cons P piece.at (places_on page pieces) (All-head (λ p. p.page ≡ page → P p.at) piece pieces each (grind (arith, nat_tests, is))) rest
    by false is rest = rest

places_rise : (page : ℕ) (pieces : List Piece) → AreApart pieces → Rises (places_on page pieces)
places_rise page [] apart = tt
places_rise page (piece ∷ pieces) apart = by (piece.page == page) refl (places_rise page pieces apart.1)
  where
    by : (t : Bool) → (piece.page == page) ≡ t → Rises (places_on page pieces) → Rises (cond t (piece.at ∷ places_on page pieces) (places_on page pieces))
    by true is rest = (
      places_all (λ at. piece.at < at) page pieces
          (All-weaker (λ p. p.page ≡ piece.page → piece.at < p.at) (λ p. p.page ≡ page → piece.at < p.at)
          (λ p above on. above (grind (arith, nat_tests, is, on))) pieces apart.0),
      rest,
    )
    by false is rest = rest

-- one stroke for each piece
places_long : (page : ℕ) (name : StrokeName) (bytes : List ℕ) (pieces : List Piece)
    → length (places_on page pieces) ≡ length (strokes_on page pieces (piece_strokes name bytes pieces))
places_long page name bytes [] = refl
places_long page name bytes (piece ∷ pieces) = by (piece.page == page) (places_long page name (drop piece.len bytes) pieces)
  where
    by : (t : Bool) → length (places_on page pieces) ≡ length (strokes_on page pieces (piece_strokes name (drop piece.len bytes) pieces))
        → length (cond t (piece.at ∷ places_on page pieces) (places_on page pieces))
        ≡ length (cond t (record { name = name; offset = piece.offset; bytes = take piece.len bytes } ∷ strokes_on page pieces (piece_strokes name (drop piece.len bytes) pieces))
        (strokes_on page pieces (piece_strokes name (drop piece.len bytes) pieces)))
    by true same = ap suc same
    by false same = same

-- a piece that names a stroke names one that is there
stroke_there : (name : StrokeName) (piece : Piece) (strokes : Option (List StrokeValue)) → IsNamed name piece (stroke_in strokes piece.at) → piece.at < stroke_count strokes
stroke_there name piece (Some s) is = by (slice_get s piece.at) refl is
  where
    by : (o : Option StrokeValue) → slice_get s piece.at ≡ o → IsNamed name piece o → piece.at < length s
    by (Some stroke) e named = slice_get_within s piece.at stroke e
    by None e named = absurd named
stroke_there name piece None is = absurd is

page_of : (window : Side) (copies : List CopyRecord) → AreNamed window copies → (page : ℕ)
    → IsNamedPage window.unit (window.strokes page) (named_on window.unit page copies)
page_of window copies named page = record { rising = named.rising page; there = named.there page; others = named.others page }

of_pages : (window : Side) (copies : List CopyRecord) → ((page : ℕ) → IsNamedPage window.unit (window.strokes page) (named_on window.unit page copies))
    → ((entry : ℕ) → VersionsAreInOrder (length (window.values entry)) (versions_on window.unit entry copies)) → AreNamed window copies
of_pages window copies pages versions = record {
  rising = λ page. (pages page).rising;
  there = λ page. (pages page).there;
  others = λ page. (pages page).others;
  versions = versions;
}

-- no value is gone, so versions in order stay so
values_grown : (old new : Side) (copies : List CopyRecord) → new.unit ≡ old.unit → ((e : ℕ) → length (old.values e) ≤ length (new.values e))
    → AreNamed old copies → (entry : ℕ) → VersionsAreInOrder (length (new.values entry)) (versions_on new.unit entry copies)
values_grown old new copies unit_is more named entry =
    subst (λ u. VersionsAreInOrder (length (new.values entry)) (versions_on u entry copies)) (sym unit_is)
    (order_grown (length (old.values entry)) (length (new.values entry)) (versions_on old.unit entry copies) (more entry) (named.versions entry))

-- values of a window that is not shared, and values that are the same
later_least : (old new : List ℕ) → Later false old new → length old ≤ length new
later_least old new same = omega (arith, ap length same)

same_least : (old new : ℕ → List ℕ) → new ≡ old → (e : ℕ) → length (old e) ≤ length (new e)
same_least old new same e = omega (arith, ap (λ (values : ℕ → List ℕ). length (values e)) same)

-- what is known of a page that no other has a hand in stays the same
pub grows_same : (old new : Option (List StrokeValue)) → Grows false old new → new ≡ old
grows_same (Some old) (Some new) grown = ap Some grown
grows_same (Some old) None grown = absurd grown
grows_same None (Some new) grown = absurd grown
grows_same None None grown = refl

grown_page : (unit : UnitId) (old new : Option (List StrokeValue)) (named : List ℕ) → Grows false old new → IsNamedPage unit old named → IsNamedPage unit new named
grown_page unit old new named grown page = subst (λ s. IsNamedPage unit s named) (sym (grows_same old new grown)) page

-- the strokes of a copy were laid on a page, and it names them
copied_page : (unit : UnitId) (page : ℕ) (name : StrokeName) (bytes : List ℕ) (pieces : List Piece) (strokes : ℕ → Option (List StrokeValue))
    (old : Option (List StrokeValue)) (named : List ℕ) → IsLaid false page pieces (piece_strokes name bytes pieces) old (strokes page) → AreApart pieces
    → All (λ piece. IsNamed name piece (stroke_of strokes piece)) pieces → IsNamedPage unit old named
    → IsNamedPage unit (strokes page) (named ++ places_on page pieces)
copied_page unit page name bytes pieces strokes old named laid apart are is =
    subst (λ s. IsNamedPage unit s (named ++ places_on page pieces)) (sym laid.laid)
    (page_laid unit laid.before (strokes_on page pieces (piece_strokes name bytes pieces)) named (places_on page pieces)
    (grown_page unit old laid.before named laid.grown is)
    (places_rise page pieces apart) (places_all (λ at. stroke_count laid.before ≤ at) page pieces laid.behind)
    (subst (λ s. All (λ at. at < stroke_count s) (places_on page pieces)) laid.laid there)
    (places_long page name bytes pieces))
  where
    there : All (λ at. at < stroke_count (strokes page)) (places_on page pieces)
    there = places_all (λ at. at < stroke_count (strokes page)) page pieces
        (All-weaker (λ piece. IsNamed name piece (stroke_of strokes piece)) (λ piece. piece.page ≡ page → piece.at < stroke_count (strokes page))
        (λ piece one on. subst (λ p. piece.at < stroke_count (strokes p)) on (stroke_there name piece (strokes piece.page) one)) pieces are)

-- one copy more
named_push : (unit : UnitId) (page : ℕ) (copies : List CopyRecord) (copy : CopyRecord)
    → named_on unit page (copies ++ copy ∷ []) ≡ named_on unit page copies ++ places_in unit page copy.to.items
named_push unit page copies copy =
    flat_map-append (λ (c : CopyRecord). places_in unit page c.to.items) copies (copy ∷ [])
    ∙ ap (λ places. named_on unit page copies ++ places) (append-nil (places_in unit page copy.to.items))

-- Neither the window nor the copies changed.
pub named_rests : (old new : Side) (copies copies' : List CopyRecord) → new.unit ≡ old.unit → ((p : ℕ) → Grows false (old.strokes p) (new.strokes p))
    → ((e : ℕ) → length (old.values e) ≤ length (new.values e)) → copies' ≡ copies → AreNamed old copies → AreNamed new copies'
named_rests old new copies copies' unit_is grown more same named =
    subst (AreNamed new) (sym same) (of_pages new copies (λ page. subst (λ u. IsNamedPage u (new.strokes page) (named_on u page copies)) (sym unit_is)
    (grown_page old.unit (old.strokes page) (new.strokes page) (named_on old.unit page copies) (grown page) (page_of old copies named page)))
    (values_grown old new copies unit_is more named))

-- A copy was made to another window.
named_elsewhere : (window : Side) (copies : List CopyRecord) (copy : CopyRecord) (other : UnitId) (from to : ℕ) → Touches other from to copy.to.items
    → other ≢ window.unit → All (IsLast window.values) copy.from.items → AreNamed window copies → AreNamed window (copies ++ copy ∷ [])
named_elsewhere window copies copy other from to touched apart last named =
    of_pages window (copies ++ copy ∷ []) (λ page. subst (IsNamedPage window.unit (window.strokes page))
    (sym (named_push window.unit page copies copy
    ∙ ap (λ places. named_on window.unit page copies ++ places) (other_places window.unit other page copy.to.items apart (pieces_of other from to copy.to.items touched))
    ∙ append-nil (named_on window.unit page copies)))
    (page_of window copies named page))
    (λ entry. order_copied window.values window.unit entry copies copy (versions_last window.values window.unit entry copy.from.items last)
    (none_last (length (window.values entry)) (versions_in window.unit entry copy.to.items)
    (versions_none window.unit other entry copy.to.items (unit_other other window.unit apart) (pieces_of other from to copy.to.items touched)))
    (named.versions entry))

-- A copy was made to the window.
named_copied : (src old new : PortState) (from to len : ℕ) (name : StrokeName) (copies : List CopyRecord) (copy : CopyRecord)
    → Copies false src old new from to len name copy → new.place ≡ old.place → src.place.unit ≢ old.place.unit → ((e : ℕ) → length (old.values e) ≤ length (new.values e))
    → AreNamed (side_of old) copies → AreNamed (side_of new) (copies ++ copy ∷ [])
named_copied src old new from to len name copies copy made place apart more named = of_pages (side_of new) (copies ++ copy ∷ []) (λ page. at page) versions
  where
    unit_is : new.place.unit ≡ old.place.unit
    unit_is = ap (λ p. p.unit) place

    versions : (entry : ℕ) → VersionsAreInOrder (length (new.values entry)) (versions_on new.place.unit entry (copies ++ copy ∷ []))
    versions entry =
        order_copied new.values new.place.unit entry copies copy
        (none_last (length (new.values entry)) (versions_in new.place.unit entry copy.from.items)
        (versions_none new.place.unit src.place.unit entry copy.from.items (unit_other src.place.unit new.place.unit (λ is. apart (is ∙ unit_is)))
        (pieces_of src.place.unit _ _ copy.from.items made.lawful.read.touched)))
        (versions_last new.values new.place.unit entry copy.to.items made.last_written)
        (values_grown (side_of old) (side_of new) copies unit_is more named entry)

    at : (page : ℕ) → IsNamedPage new.place.unit (new.strokes page) (named_on new.place.unit page (copies ++ copy ∷ []))
    at page = subst (IsNamedPage new.place.unit (new.strokes page))
        (sym (named_push new.place.unit page copies copy ∙ ap (λ places. named_on new.place.unit page copies ++ places)
        (own_places new.place.unit page copy.to.items (pieces_of new.place.unit _ _ copy.to.items made.lawful.written.touched))))
        (copied_page new.place.unit page name _ copy.to.items new.strokes (old.strokes page) (named_on new.place.unit page copies) (made.laid page)
        made.lawful.written.apart
        (subst (λ n. All (λ piece. IsNamed n piece (stroke_of new.strokes piece)) copy.to.items) made.name_is made.lawful.written.named)
        (subst (λ u. IsNamedPage u (old.strokes page) (named_on u page copies)) (sym (ap (λ p. p.unit) place)) (page_of (side_of old) copies named page)))

-- The window to which a copy may have been made.
pub target_named : (shared : Bool) (src old new : PortState) (from to len : ℕ) (name : StrokeName) (answer : CopyAnswer) (before after : List CopyRecord)
    → shared ≡ false → IfCopied answer (Copies shared src old new from to len name) → OnRefused answer (LaysNone shared old new)
    → OnlyCopies shared old new → src.place.unit ≢ old.place.unit → after ≡ before ++ copies_in answer → AreNamed (side_of old) before → AreNamed (side_of new) after
target_named shared src old new from to len name answer before after alone copied refused rest apart made named =
    by answer (subst (λ b. IfCopied answer (Copies b src old new from to len name)) alone copied) (subst (λ b. OnRefused answer (LaysNone b old new)) alone refused) made
  where
    more : (e : ℕ) → length (old.values e) ≤ length (new.values e)
    more e = later_least (old.values e) (new.values e) (subst (λ b. Later b (old.values e) (new.values e)) alone (rest.values e))

    none : LaysNone false old new → after ≡ before ++ [] → AreNamed (side_of new) after
    none laid made = named_rests (side_of old) (side_of new) before after (ap (λ p. p.unit) rest.place) laid.strokes more (made ∙ append-nil before) named

    by : (answer : CopyAnswer) → IfCopied answer (Copies false src old new from to len name) → OnRefused answer (LaysNone false old new)
        → after ≡ before ++ copies_in answer → AreNamed (side_of new) after
    by (copies.Copied copy) copied refused made =
        subst (AreNamed (side_of new)) (sym made) (named_copied src old new from to len name before copy copied rest.place apart more named)
    by copies.Parameter copied refused made = none refused made
    by (copies.SourceParm fault) copied refused made = none refused made
    by (copies.DestParm fault) copied refused made = none refused made
    by (copies.Busy page word) copied refused made = none refused made
    by copies.NoMemory copied refused made = none refused made

-- The window from which a copy may have been made to another.
pub source_named : (shared other_shared : Bool) (old new other other' : PortState) (from to len : ℕ) (name : StrokeName) (answer : CopyAnswer)
    (before after : List CopyRecord) → shared ≡ false → LaysNone shared old new → OnlyCopies shared old new
    → IfCopied answer (Copies other_shared new other other' from to len name) → other'.place ≡ other.place → other.place.unit ≢ old.place.unit
    → after ≡ before ++ copies_in answer → AreNamed (side_of old) before → AreNamed (side_of new) after
source_named shared other_shared old new other other' from to len name answer before after alone laid rest copied place apart made named = by answer copied made
  where
    still : AreNamed (side_of new) before
    still = named_rests (side_of old) (side_of new) before before (ap (λ p. p.unit) rest.place) (subst (λ b. LaysNone b old new) alone laid).strokes
        (λ e. later_least (old.values e) (new.values e) (subst (λ b. Later b (old.values e) (new.values e)) alone (rest.values e))) refl named

    far : other'.place.unit ≢ new.place.unit
    far is = apart (sym (ap (λ p. p.unit) place) ∙ is ∙ ap (λ p. p.unit) rest.place)

    none : after ≡ before ++ [] → AreNamed (side_of new) after
    none made = subst (AreNamed (side_of new)) (sym (made ∙ append-nil before)) still

    by : (answer : CopyAnswer) → IfCopied answer (Copies other_shared new other other' from to len name) → after ≡ before ++ copies_in answer → AreNamed (side_of new) after
    by (copies.Copied copy) copied made = subst (AreNamed (side_of new)) (sym made)
        (named_elsewhere (side_of new) before copy other'.place.unit _ _ copied.lawful.written.touched far copied.last_read still)
    by copies.Parameter copied made = none made
    by (copies.SourceParm fault) copied made = none made
    by (copies.DestParm fault) copied made = none made
    by (copies.Busy page word) copied made = none made
    by copies.NoMemory copied made = none made

-- the owner's strokes are of the window's own unit
written_page : (unit : UnitId) (name : StrokeName) (at : ℕ) (bytes : List ℕ) (page : ℕ) (old new : Option (List StrokeValue)) (named : List ℕ)
    → name.who ≡ unit → IsWritten false name at bytes page old new → IsNamedPage unit old named → IsNamedPage unit new named
written_page unit name at bytes page old new named who is page_is =
    subst (λ s. IsNamedPage unit s named) (sym is.laid) (by is.before (touches at (length bytes) page) refl (grown_page unit old is.before named is.grown page_is))
  where
    by : (before : Option (List StrokeValue)) (t : Bool) → touches at (length bytes) page ≡ t → IsNamedPage unit before named
        → IsNamedPage unit (written name at bytes page before) named
    by (Some s) true e was = rw e (page_written unit s (stroke_on name at bytes page) named who was)
    by None true e was = rw e was
    by before false e was = rw e was

pub write_named : (shared : Bool) (old new : PortState) (at : ℕ) (bytes : List ℕ) (mark : ℕ) (result : Result (Unit {0}) OwnFault) (copies : List CopyRecord)
    → shared ≡ false → OnOk result (Writes shared old at bytes mark new) → OnErr result (LaysNone shared old new) → OnlyWrites old new
    → AreNamed (side_of old) copies → AreNamed (side_of new) copies
write_named shared old new at bytes mark (Ok done) copies alone wrote none rest named =
    of_pages (side_of new) copies (λ page. subst (λ u. IsNamedPage u (new.strokes page) (named_on u page copies)) (sym (ap (λ p. p.unit) rest.place))
    (written_page old.place.unit _ at bytes page (old.strokes page) (new.strokes page) (named_on old.place.unit page copies) refl
    ((subst (λ b. Writes b old at bytes mark new) alone wrote).strokes page) (page_of (side_of old) copies named page)))
    (values_grown (side_of old) (side_of new) copies (ap (λ p. p.unit) rest.place) (same_least old.values new.values rest.values) named)
write_named shared old new at bytes mark (Err fault) copies alone wrote none rest named =
    named_rests (side_of old) (side_of new) copies copies (ap (λ p. p.unit) rest.place) (subst (λ b. LaysNone b old new) alone none).strokes
    (same_least old.values new.values rest.values) refl named

-- more room for copies, and a read
pub same_named : (window : Side) (copies copies' : List CopyRecord) → copies' ≡ copies → AreNamed window copies → AreNamed window copies'
same_named window copies copies' same named = subst (AreNamed window) (sym same) named

pub read_named : (shared : Bool) (old new : PortState) (copies : List CopyRecord) → shared ≡ false → OnlyReads shared old new
    → AreNamed (side_of old) copies → AreNamed (side_of new) copies
read_named shared old new copies alone rest named =
    named_rests (side_of old) (side_of new) copies copies (ap (λ p. p.unit) rest.place) (subst (λ b. OnlyReads b old new) alone rest).strokes
    (same_least old.values new.values rest.values) refl named
