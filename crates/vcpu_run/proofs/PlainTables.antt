-- The bytes of a plain client's window, one by one: what a read of it finds, and which stay behind a write elsewhere. By them its tables
-- stay, and a server unit writes the data of a command behind the driver's pages.
use Rattle.std.proofs.Common.{◌≡◌, ◌∙◌, ◌⊎◌, inl, inr, ℕ, ◌+◌, ◌-◌, ◌/◌, ◌%◌, ◌<◌, ◌≤◌, ◌++◌, All, List, [], ◌∷◌, Option, Some, None, IsSome, get_or, length, refl, sym, ap, ap₂, subst, arith}
use Rattle.std.specs.List.{flat_map}
use Rattle.std.proofs.Math.ListN.{get_or-append}
use Rattle.std.proofs.lemmas.Bool.{cases_lt}
use Rattle.std.proofs.lemmas.Grind.{same_number_lists}
use Rattle.std.proofs.lemmas.List.{get_or-append_right}
use Rattle.std.proofs.lemmas.List.Elements.{All-head, All-tail}
use Rattle.page_slots.specs.Stroke.{StrokeValue}
use Rattle.vio_num.specs.declared.names.UnitId.{UnitId}
use Rattle.tce_window.specs.Moved.{read_bytes}
use Rattle.tce_window.specs.Pieces.{HasStrokes, IsGranted, Touches}
use Rattle.tce_window.specs.PortState.{PortState}
use Rattle.tce_window.specs.Region.{byte_in, region_byte}
use Rattle.tce_window.specs.declared.answers.Right.TheVariants.{Read}
use Rattle.tce_window.specs.declared.piece.Piece.{Piece}
use Rattle.block_server.specs.Talk.{IsReadWhole}
use Rattle.vcpu_run.specs.PlainTalk.{IsOwnWindow, shown, shown_on}
use Rattle.vcpu_run.proofs.PlainPages.{shown_long}
use Rattle.vcpu_run.proofs.PlainStands.{byte_shown, own_page, piece_shown}

-- ---- what a read finds

has_some : (piece : Piece) (now : Option (List StrokeValue)) → HasStrokes piece now → IsSome now
has_some piece (Some strokes) has = refl
has_some piece None has = absurd has

-- what one piece reads
one_read : (window : PortState) → IsOwnWindow window → (from to : ℕ) (piece : Piece) → piece.entry ≡ from / 4096 → piece.offset ≡ from % 4096 → piece.offset + piece.len ≤ 4096
    → IsGranted window.values Read piece → HasStrokes piece (window.strokes piece.page)
    → read_bytes window.strokes piece ≡ shown window from piece.len
one_read window own from to piece entry offset inside granted has =
    piece_shown piece (window.strokes piece.page) has
    ∙ ap₂ (λ (p start : ℕ). shown_on (window.strokes p) start piece.len) (own_page window own Read piece granted ∙ entry) offset

-- each byte of a read is that of the region
pieces_read : (window : PortState) → IsOwnWindow window → (unit : UnitId) (from to : ℕ) (pieces : List Piece) → Touches unit from to pieces
    → All (IsGranted window.values Read) pieces → All (λ piece. HasStrokes piece (window.strokes piece.page)) pieces
    → (k : ℕ) → from + k < to → get_or (flat_map (read_bytes window.strokes) pieces) k 0 ≡ region_byte window.strokes (from + k)
pieces_read window own unit from to [] touched granted has k less = absurd (omega (arith, touched, less))
pieces_read window own unit from to (piece ∷ pieces) touched granted has k less =
    by (cases_lt k piece.len)
    (λ behind. pieces_read window own unit (from + piece.len) to pieces touched.2 (All-tail (IsGranted window.values Read) piece pieces granted)
    (All-tail (λ (one : Piece). HasStrokes one (window.strokes one.page)) piece pieces has) (k - piece.len) (omega (arith, less, behind)))
  where
    P : Piece → Type 0
    P one = HasStrokes one (window.strokes one.page)

    len : piece.offset + piece.len ≤ 4096
    len = omega (arith, touched.1.offset, touched.1.len)

    page : piece.page ≡ from / 4096
    page = own_page window own Read piece (All-head (IsGranted window.values Read) piece pieces granted) ∙ touched.1.entry

    there : IsSome (window.strokes (from / 4096))
    there = subst (λ p. IsSome (window.strokes p)) page (has_some piece (window.strokes piece.page) (All-head P piece pieces has))

    read : read_bytes window.strokes piece ≡ shown window from piece.len
    read = one_read window own from to piece touched.1.entry touched.1.offset len (All-head (IsGranted window.values Read) piece pieces granted) (All-head P piece pieces has)

    long : length (read_bytes window.strokes piece) ≡ piece.len
    long = ap (λ (list : List ℕ). length list) read ∙ shown_long (window.strokes (from / 4096)) (from % 4096) piece.len there (omega (arith, len, touched.1.offset))

    rest : List ℕ
    rest = flat_map (read_bytes window.strokes) pieces

    by : (k < piece.len) ⊎ (piece.len ≤ k) → (piece.len ≤ k → get_or rest (k - piece.len) 0 ≡ region_byte window.strokes (from + piece.len + (k - piece.len)))
        → get_or (read_bytes window.strokes piece ++ rest) k 0 ≡ region_byte window.strokes (from + k)
    by (inl inside) later =
        get_or-append (read_bytes window.strokes piece) rest 0 k (omega (arith, inside, long))
        ∙ ap (λ (list : List ℕ). get_or list k 0) read
        ∙ byte_shown (window.strokes (from / 4096)) (from % 4096) piece.len k there inside
        ∙ ap₂ (λ (p n : ℕ). byte_in (window.strokes p) n) page_is place_is
      where
        page_is : from / 4096 ≡ (from + k) / 4096
        page_is = omega (arith, inside, len, touched.1.offset)

        place_is : from % 4096 + k ≡ (from + k) % 4096
        place_is = omega (arith, inside, len, touched.1.offset)
    by (inr behind) later =
        get_or-append_right (read_bytes window.strokes piece) rest piece.len k 0 long behind
        ∙ later behind
        ∙ ap (λ (a : ℕ). region_byte window.strokes a) (omega (arith, behind))

pub read_bytes_are : (window : PortState) → IsOwnWindow window → (address : ℕ) (read : List ℕ) → IsReadWhole window address read → (k : ℕ) → k < length read
    → get_or read k 0 ≡ region_byte window.strokes (address + k)
read_bytes_are window own address read whole k less =
    ap (λ (list : List ℕ). get_or list k 0) (sym whole.read.join)
    ∙ pieces_read window own window.place.unit address (address + length read) whole.pieces whole.read.touched whole.read.granted whole.all k (omega (arith, less))

-- so these bytes are read where they stand
pub reads_what_stands : (window : PortState) → IsOwnWindow window → (address : ℕ) (bytes read : List ℕ) → length read ≡ length bytes
    → ((k : ℕ) → k < length bytes → region_byte window.strokes (address + k) ≡ get_or bytes k 0) → IsReadWhole window address read → read ≡ bytes
reads_what_stands window own address bytes read long stands whole =
    same_number_lists read bytes long
    (λ k less. read_bytes_are window own address read whole k less ∙ stands k (omega (arith, less, long)))

-- ---- what stays

-- a page that shows one byte the same has it the same
byte_same : (old new : Option (List StrokeValue)) (k : ℕ) → k < 4096 → shown_on new k 1 ≡ shown_on old k 1 → byte_in new k ≡ byte_in old k
byte_same None None k less same = refl
byte_same (Some old) None k less same = absurd (omega (arith, ap (λ (list : List ℕ). length list) same, shown_long (Some old) k 1 refl (omega (arith, less))))
byte_same None (Some new) k less same = absurd (omega (arith, ap (λ (list : List ℕ). length list) same, shown_long (Some new) k 1 refl (omega (arith, less))))
byte_same (Some old) (Some new) k less same =
    ap (λ (n : ℕ). byte_in (Some new) n) (omega arith)
    ∙ sym (byte_shown (Some new) k 1 0 refl (omega arith)) ∙ ap (λ (list : List ℕ). get_or list 0 0) same ∙ byte_shown (Some old) k 1 0 refl (omega arith)
    ∙ ap (λ (n : ℕ). byte_in (Some old) n) (omega arith)

pub region_same : (old new : PortState) (a : ℕ) → shown new a 1 ≡ shown old a 1 → region_byte new.strokes a ≡ region_byte old.strokes a
region_same old new a same = byte_same (old.strokes (a / 4096)) (new.strokes (a / 4096)) (a % 4096) (omega arith) same
