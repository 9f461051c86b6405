-- The bytes that a copy moves from page 0 of the own window are those that were written there before it.
use Rattle.std.proofs.Common.{◌≡◌, ◌+◌, ◌-◌, ◌*◌, ◌<◌, ◌≤◌, ◌++◌, ℕ, min, Bool, true, false, cond, All, List, [], ◌∷◌, Option, Some, None, length, take, drop, refl, sym, ◌∙◌, ap, ap₂, subst, arith, append-nil}
use Rattle.std.proofs.lemmas.Bool.Decides.{nat_tests}
use Rattle.std.proofs.lemmas.List.{take-append-le, take_all}
use Rattle.std.proofs.lemmas.List.Elements.{All-head}
use Rattle.page_slots.specs.Page.{left_by}
use Rattle.page_slots.specs.Stroke.{StrokeValue}
use Rattle.page_slots.specs.declared.stroke.StrokeName.{StrokeName}
use Rattle.page_slots.proofs.Laws.{left_by-push}
use Rattle.vio_num.specs.declared.names.UnitId.{UnitId}
use Rattle.tce_window.specs.declared.piece.Piece.{Piece}
use Rattle.tce_window.specs.declared.answers.Right.TheVariants.{Read}
use Rattle.tce_window.specs.Moved.{IsReadFrom, IsWrittenTo, left_at, read_bytes}
use Rattle.tce_window.specs.Pieces.{HasStrokes, IsGranted, IsLast}
use Rattle.tce_window.specs.PortState.{LaysNone, OnlyWrites, PortState, Writes}
use Rattle.tce_window.specs.Region.{stroke_on, touches, written}
use Rattle.tce_window.specs.Strokes.{with_strokes}
use Rattle.rdma_copy.specs.Copies.{Copies, OnlyCopies}
use Rattle.rdma_copy.specs.declared.copy.CopyRecord.{CopyRecord}
use Rattle.block_server.specs.Copied.{MakesOne, own_name}
use Rattle.block_server.specs.Delivers.{DeliversOne}
use Rattle.block_server.specs.SiteState.{SiteState}
use Rattle.block_server.proofs.FirstPages.{entry_page}
use Rattle.block_server.proofs.NamedWindows.{grows_same}
use Rattle.block_server.proofs.Owning.{same_first}

-- a page shows its last stroke, if this begins with the page
read_last : (piece : Piece) (before now : Option (List StrokeValue)) (stroke : StrokeValue) → now ≡ with_strokes before (stroke ∷ []) → HasStrokes piece now
    → piece.offset ≡ 0 → stroke.offset ≡ 0 → piece.len ≡ length stroke.bytes → take piece.len (drop piece.offset (left_at now piece.at)) ≡ stroke.bytes
read_last piece None now stroke laid has from begins long = absurd (subst (HasStrokes piece) laid has)
read_last piece (Some strokes) now stroke laid has from begins long =
    ap₂ (λ (n : ℕ) s. take piece.len (drop n (left_at s piece.at))) from laid
    ∙ ap (λ list. take piece.len (left_by list)) (take_all piece.at all (omega (arith, subst (HasStrokes piece) laid has)))
    ∙ ap (take piece.len) (left_by-push strokes stroke ∙ ap (λ (n : ℕ). take n page ++ stroke.bytes ++ drop (n + length stroke.bytes) page) begins)
    ∙ take-append-le piece.len stroke.bytes (drop (0 + length stroke.bytes) page) (omega (arith, long))
    ∙ take_all piece.len stroke.bytes (omega (arith, long))
  where
    all : List StrokeValue
    all = strokes ++ stroke ∷ []

    page : List ℕ
    page = left_by strokes

-- what is read from page 0 on is its last stroke, if this has as many bytes
read_whole : (unit : UnitId) (values : ℕ → List ℕ) (strokes : ℕ → Option (List StrokeValue)) (moved : List ℕ) (pieces : List Piece)
    (before : Option (List StrokeValue)) (stroke : StrokeValue) → ((e : ℕ) → e < 34 → values e ≡ (4096 * e + 3) ∷ [])
    → 1 ≤ length moved → length moved ≤ 4096 → length moved ≡ length stroke.bytes → IsReadFrom unit values strokes 0 pieces moved → All (IsLast values) pieces
    → All (λ piece. HasStrokes piece (strokes piece.page)) pieces → strokes 0 ≡ with_strokes before (stroke ∷ []) → stroke.offset ≡ 0 → moved ≡ stroke.bytes
read_whole unit values strokes moved [] before stroke first some few long read last has laid begins = absurd (omega (arith, some, read.touched))
read_whole unit values strokes moved (piece ∷ []) before stroke first some few long read last has laid begins =
    sym read.join ∙ append-nil (read_bytes strokes piece)
    ∙ read_last piece before (strokes piece.page) stroke (ap strokes page_is ∙ laid) (All-head (λ p. HasStrokes p (strokes p.page)) piece [] has)
    (omega (arith, read.touched.1.offset)) begins (omega (arith, read.touched.1.len, few, long))
  where
    page_is : piece.page ≡ 0
    page_is = entry_page values Read piece first (omega (arith, read.touched.1.entry)) (All-head (IsGranted values Read) piece [] read.granted)
        (All-head (IsLast values) piece [] last) ∙ read.touched.1.entry
read_whole unit values strokes moved (piece ∷ other ∷ pieces) before stroke first some few long read last has laid begins =
    absurd (omega (arith, few, read.touched.1.len, read.touched.2.0))

-- the stroke of a write to page 0
first_stroke : (name : StrokeName) (bytes : List ℕ) → length bytes ≤ 4096 → (stroke_on name 0 bytes 0).bytes ≡ bytes
first_stroke name bytes few =
    let all : min 4096 (length bytes) - 0 ≡ length bytes = omega (arith, few) in
    ap (λ (n : ℕ). take n bytes) all ∙ take_all (length bytes) bytes (omega arith)

is_touched : (len : ℕ) → 1 ≤ len → touches 0 len 0 ≡ true
is_touched len some = grind (arith, nat_tests)

written_first : (name : StrokeName) (bytes : List ℕ) (before now : Option (List StrokeValue)) → 1 ≤ length bytes → now ≡ written name 0 bytes 0 before
    → now ≡ with_strokes before (stroke_on name 0 bytes 0 ∷ [])
written_first name bytes before now some laid =
    laid ∙ ap (λ t. cond t (with_strokes before (stroke_on name 0 bytes 0 ∷ [])) before) (is_touched (length bytes) some)

-- a write to page 0 and a copy from there delivered the bytes that were written
pub delivered_bytes : (shared : Bool) (own own' own'' client client' : PortState) (address mark len : ℕ) (bytes : List ℕ) (name : StrokeName) (copy : CopyRecord)
    → ((e : ℕ) → e < 34 → own''.values e ≡ (4096 * e + 3) ∷ []) → 1 ≤ len → len ≤ 4096 → length bytes ≡ len → Writes false own 0 bytes mark own'
    → LaysNone false own' own'' → (copied : Copies shared own'' client client' 0 address len name copy) → copied.lawful.bytes ≡ bytes
delivered_bytes shared own own' own'' client client' address mark len bytes name copy first some few long wrote none copied =
    read_whole own''.place.unit own''.values own''.strokes copied.lawful.bytes copy.from.items before stroke first (omega (arith, some, moved)) (omega (arith, few, moved))
    (moved ∙ sym long ∙ ap length (sym whole)) copied.lawful.read copied.last_read copied.all_read
    (grows_same (own'.strokes 0) (own''.strokes 0) (none.strokes 0)
    ∙ written_first by bytes before (own'.strokes 0) (omega (arith, some, long)) (wrote.strokes 0).laid) refl
    ∙ whole
  where
    by : StrokeName
    by = own_name own mark

    before : Option (List StrokeValue)
    before = (wrote.strokes 0).before

    stroke : StrokeValue
    stroke = stroke_on by 0 bytes 0

    whole : stroke.bytes ≡ bytes
    whole = first_stroke by bytes (omega (arith, few, long))

    moved : length copied.lawful.bytes ≡ len
    moved = copied.lawful.len ∙ copied.len_is

-- the same of a call that writes and then copies
pub delivers_one : (own_shared shared : Bool) (old new : SiteState) (own' client' : PortState) (address mark len : ℕ) (copies' : List CopyRecord) (bytes : List ℕ)
    → own_shared ≡ false → ((e : ℕ) → e < 34 → old.own.values e ≡ (4096 * e + 3) ∷ []) → 1 ≤ len → len ≤ 4096 → length bytes ≡ len
    → Writes own_shared old.own 0 bytes mark own' → OnlyWrites old.own own' → client' ≡ old.client → copies' ≡ old.copies
    → LaysNone own_shared own' new.own → OnlyCopies own_shared own' new.own
    → MakesOne shared new.own client' new.client 0 address len (own_name own' mark) copies' new.copies → DeliversOne old new 0 address mark bytes
delivers_one true shared old new own' client' address mark len copies' bytes alone first some few long wrote rest client copies none own_rest made = absurd (cc (alone))
delivers_one false shared old new own' client' address mark len copies' bytes alone first some few long wrote rest client copies none own_rest made = record {
  copy = made.copy;
  made = made.made ∙ ap (λ front. front ++ made.copy ∷ []) copies;
  delivered = record {
    name_is = made.copied.name_is ∙ ap (λ place. record { who = place.unit; mark = mark }) (sym own_rest.place);
    len_is = made.copied.len_is ∙ sym long;
    read = subst (λ (list : List ℕ). IsReadFrom new.own.place.unit new.own.values new.own.strokes 0 made.copy.from.items list) is made.copied.lawful.read;
    written = subst (λ (list : List ℕ). IsWrittenTo new.client.place.unit new.client.values new.client.strokes address made.copy.name made.copy.to.items list) is
        made.copied.lawful.written;
  };
}
  where
    values' : (e : ℕ) → e < 34 → own'.values e ≡ (4096 * e + 3) ∷ []
    values' e below = ap (λ values. values e) rest.values ∙ first e below

    is : made.copied.lawful.bytes ≡ bytes
    is = delivered_bytes shared old.own own' new.own client' new.client address mark len bytes (own_name own' mark) made.copy
        (same_first false own' new.own refl own_rest values') some few long wrote none made.copied
