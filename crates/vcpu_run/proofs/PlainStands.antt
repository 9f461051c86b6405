-- What stands in a window that is its owner's own: what a read finds there, and what stays there behind a write elsewhere.
use Rattle.std.proofs.Common.{◌≡◌, ◌∙◌, ℕ, ◌+◌, ◌*◌, ◌/◌, ◌%◌, ◌<◌, ◌≤◌, ◌++◌, All, true, List, [], ◌∷◌, Option, Some, None, IsSome, append-nil, drop, get_or, length, length-append, refl, slice_get, sym, take, ap, ap₂, subst, arith}
use Rattle.std.specs.List.{flat_map}
use Rattle.std.proofs.lemmas.Bool.Decides.{nat_tests}
use Rattle.std.proofs.lemmas.Grind.{same_number_lists}
use Rattle.std.proofs.lemmas.List.{get_or-drop, get_or-take, take_all}
use Rattle.std.proofs.lemmas.List.Elements.{All-head}
use Rattle.page_slots.specs.Page.{left_by}
use Rattle.page_slots.specs.Stroke.{StrokeValue}
use Rattle.vio_num.specs.declared.names.UnitId.{UnitId}
use Rattle.tce_window.specs.declared.answers.Right.{Right}
use Rattle.tce_window.specs.declared.answers.Right.TheVariants.{Read, Write}
use Rattle.tce_window.specs.declared.piece.Piece.{Piece}
use Rattle.tce_window.specs.Grant.{IsCurrent, grants}
use Rattle.tce_window.specs.Moved.{left_at, read_bytes}
use Rattle.tce_window.specs.Pieces.{HasStrokes, IsGranted, IsUsable, Touches}
use Rattle.tce_window.specs.PortState.{PortState, Reads}
use Rattle.tce_window.specs.Region.{byte_in}
use Rattle.block_server.specs.Talk.{IsReadWhole, StandAt}
use Rattle.vscsi_client.specs.Units.{slot_address}
use Rattle.vscsi_client.specs.declared.TheConstants.{DATA_START, SLOTS}
use Rattle.vcpu_run.specs.PlainTalk.{HasRights, IsOwnWindow, shown, shown_on}
use Rattle.vcpu_run.proofs.PlainPages.{shown_long}

-- ---- entries

grants_all : (right : Right) (e : ℕ) → grants right (4096 * e + 3) ≡ true
grants_all Read e = grind (arith, nat_tests)
grants_all Write e = grind (arith, nat_tests)

-- where the driver's pages have all rights, each of their entries has its last value
end_value : (before : List ℕ) (value : ℕ) → slice_get (before ++ value ∷ []) (length before) ≡ Some value
end_value [] value = refl
end_value (first ∷ before) value = end_value before value

own_current : (window : PortState) → HasRights window → (e : ℕ) → 4096 * e < DATA_START → (version : ℕ) × IsCurrent window.values e version (4096 * e + 3)
own_current window rights e front = (
  length (rights.last e front).0,
  record {
    shown = ap (λ (list : List ℕ). slice_get list (length (rights.last e front).0)) (rights.last e front).1 ∙ end_value (rights.last e front).0 (4096 * e + 3);
    last = ap (λ (list : List ℕ). length list) (rights.last e front).1 ∙ length-append (rights.last e front).0 ((4096 * e + 3) ∷ []);
  },
)

-- each slot may be used
pub slot_usable : (window : PortState) → IsOwnWindow window → HasRights window → (right : Right) (slot : ℕ) → slot ≤ SLOTS
    → IsUsable window.values right window.place.size (slot_address slot) 256
slot_usable window own rights right slot within = λ e from below. (
  omega (arith, below, within, own.size),
  record {
    version = (own_current window rights e (omega (arith, below, within))).0;
    value = 4096 * e + 3;
    current = (own_current window rights e (omega (arith, below, within))).1;
    granted = grants_all right e;
  },
)

-- an entry has pieces on its own page alone
pub own_page : (window : PortState) → IsOwnWindow window → (right : Right) (piece : Piece) → IsGranted window.values right piece → piece.page ≡ piece.entry
own_page window own right piece granted = granted.page ∙ (own.values piece.entry).names piece.version granted.value granted.shown

-- ---- reads

-- the one piece of a range that one entry has
pub record IsOne (start count : ℕ) (pieces : List Piece) : Type 0 where
  pub piece : Piece
  pub one : pieces ≡ piece ∷ []
  pub entry : piece.entry ≡ start / 4096
  pub offset : piece.offset ≡ start % 4096
  pub long : piece.len ≡ count

pub one_of : (unit : UnitId) (start count to : ℕ) (pieces : List Piece) → to ≡ start + count → 1 ≤ count → start % 4096 + count ≤ 4096 → Touches unit start to pieces
    → IsOne start count pieces
one_of unit start count to [] is some fits touched = absurd (omega (arith, is, touched, some))
one_of unit start count to (piece ∷ []) is some fits touched = record {
  piece = piece;
  one = refl;
  entry = touched.1.entry;
  offset = touched.1.offset;
  long = omega (arith, is, touched.1.len, fits);
}
one_of unit start count to (piece ∷ next ∷ pieces) is some fits touched = absurd (omega (arith, is, touched.1.len, fits, touched.2.0))

-- what a piece reads that has all strokes of its page
pub piece_shown : (piece : Piece) (now : Option (List StrokeValue)) → HasStrokes piece now
    → take piece.len (drop piece.offset (left_at now piece.at)) ≡ shown_on now piece.offset piece.len
piece_shown piece None has = absurd has
piece_shown piece (Some strokes) has =
    ap (λ list. take piece.len (drop piece.offset (left_by list))) (take_all piece.at strokes (omega (arith, has)))

pub read_shown : (window : PortState) → IsOwnWindow window → (address len : ℕ) (read : List ℕ) → 1 ≤ len → address % 4096 + len ≤ 4096 → IsReadWhole window address read
    → length read ≡ len → read ≡ shown window address len
read_shown window own address len read some fits whole long =
    let one = one_of window.place.unit address len (address + length read) whole.pieces (ap (λ (n : ℕ). address + n) long) some fits whole.read.touched in
    let P : Piece → Type 0 = λ piece. HasStrokes piece (window.strokes piece.page) in
    let page : one.piece.page ≡ address / 4096 =
    own_page window own Read one.piece (All-head (IsGranted window.values Read) one.piece [] (subst (All (IsGranted window.values Read)) one.one whole.read.granted)) ∙ one.entry in
    sym whole.read.join
    ∙ ap (flat_map (read_bytes window.strokes)) one.one
    ∙ append-nil (read_bytes window.strokes one.piece)
    ∙ piece_shown one.piece (window.strokes one.piece.page) (All-head P one.piece [] (subst (All P) one.one whole.all))
    ∙ ap₂ (λ (start count : ℕ). shown_on (window.strokes one.piece.page) start count) one.offset one.long
    ∙ ap (λ (p : ℕ). shown_on (window.strokes p) (address % 4096) len) page

-- a range on a page of the region, which is one of the driver's
pub record IsOnPage (window : PortState) (address len : ℕ) : Type 0 where
  pub some : 1 ≤ len
  pub fits : address % 4096 + len ≤ 4096
  pub inside : address / 4096 < window.place.size
  pub front : 4096 * (address / 4096) < DATA_START

-- bytes stand where a window shows them, and there alone, if they may be read
pub shown_stand : (window : PortState) → IsOwnWindow window → (address : ℕ) (bytes : List ℕ) → IsOnPage window address (length bytes) → shown window address (length bytes) ≡ bytes
    → StandAt window address bytes
shown_stand window own address bytes on is read whole long = read_shown window own address (length bytes) read on.some on.fits whole long ∙ is

-- what the owner reads in its region
pub byte_shown : (strokes : Option (List StrokeValue)) (start count k : ℕ) → IsSome strokes → k < count → get_or (shown_on strokes start count) k 0 ≡ byte_in strokes (start + k)
byte_shown None start count k there less = absurd (cc (there))
byte_shown (Some strokes) start count k there less = get_or-take count (drop start (left_by strokes)) k 0 less ∙ get_or-drop start (left_by strokes) k 0

pub region_shown : (window : PortState) → IsOwnWindow window → (address : ℕ) (read : List ℕ) → IsOnPage window address (length read) → Reads window address read
    → read ≡ shown window address (length read)
region_shown window own address read on reads =
    same_number_lists read (shown window address (length read))
    (sym (shown_long (window.strokes page) (address % 4096) (length read) there on.fits))
    (λ k less. reads.bytes k less ∙ ap₂ (λ (p n : ℕ). byte_in (window.strokes p) n) (page_is k less) (place_is k less)
    ∙ sym (byte_shown (window.strokes page) (address % 4096) (length read) k there less))
  where
    page : ℕ
    page = address / 4096

    there : IsSome (window.strokes page)
    there = own.there page on.inside

    page_is : (k : ℕ) → k < length read → (address + k) / 4096 ≡ address / 4096
    page_is k less = omega (arith, less, on.fits)

    place_is : (k : ℕ) → k < length read → (address + k) % 4096 ≡ address % 4096 + k
    place_is k less = omega (arith, less, on.fits)
