-- The bytes of a unit's own window, as writes lay them and copies read them.
use Rattle.std.proofs.Common.{◌≡◌, ◌+◌, ◌-◌, ◌*◌, ◌/◌, ◌%◌, ◌<◌, ◌≤◌, ◌++◌, ◌&&◌, ℕ, min, Bool, true, false, cond, nat_le, nat_lt, All, IsSome, List, [], ◌∷◌, Option, Some, None, length, take, drop, get_or, fold, refl, sym, ◌∙◌, ap, ap₂, arith, length-append, length-take}
use Rattle.std.specs.List.{flat_map}
use Rattle.std.proofs.lemmas.Bool.Decides.{nat_tests}
use Rattle.std.proofs.lemmas.List.{get_or-drop, get_or-take, get_or_append_left, get_or-append_right, length-drop, take_all}
use Rattle.std.proofs.lemmas.List.Elements.{All-head, All-tail}
use Rattle.vio_num.specs.declared.names.UnitId.{UnitId}
use Rattle.page_slots.specs.Page.{left_by, overwritten, zeros}
use Rattle.page_slots.specs.Stroke.{StrokeValue}
use Rattle.page_slots.specs.declared.stroke.StrokeName.{StrokeName}
use Rattle.page_slots.proofs.Laws.{left_by-push, length-zeros}
use Rattle.tce_window.specs.Moved.{left_at, read_bytes}
use Rattle.tce_window.specs.Pieces.{HasStrokes, IsGranted, IsLast, Touches}
use Rattle.tce_window.specs.Port.{IsWritten}
use Rattle.tce_window.specs.PortState.{LaysNone, OnlyReads, PortState, Reads, Writes}
use Rattle.tce_window.specs.Region.{byte_in, region_byte, stroke_on, touches}
use Rattle.tce_window.specs.Strokes.{with_strokes}
use Rattle.tce_window.specs.declared.answers.Right.{Right}
use Rattle.tce_window.specs.declared.piece.Piece.{Piece}
use Rattle.tce_window.proofs.Laws.{not_none}
use Rattle.std.specs.Prelude.{slice_index}
use Rattle.block_server.specs.Cargo.{AreShown, data_bytes}
use Rattle.block_server.proofs.FirstPages.{entry_page}
use Rattle.block_server.proofs.NamedWindows.{grows_same}

-- ---- a page

long_after : (page : List ℕ) (stroke : StrokeValue) → 4096 ≤ length page → 4096 ≤ length (overwritten page stroke)
long_after page stroke long =
    omega (
      arith,
      long,
      length-append (take stroke.offset page) (stroke.bytes ++ drop (stroke.offset + length stroke.bytes) page),
      length-append (take stroke.offset page) stroke.bytes,
      length-append (take stroke.offset page ++ stroke.bytes) (drop (stroke.offset + length stroke.bytes) page),
      length-append stroke.bytes (drop (stroke.offset + length stroke.bytes) page),
      length-take stroke.offset page,
      length-drop (stroke.offset + length stroke.bytes) page,
    )

-- a page has 4,096 bytes, whatever its strokes
page_long : (page : List ℕ) (strokes : List StrokeValue) → 4096 ≤ length page → 4096 ≤ length (fold overwritten page strokes)
page_long page [] long = long
page_long page (stroke ∷ strokes) long = page_long (overwritten page stroke) strokes (long_after page stroke long)

pub left_long : (strokes : List StrokeValue) → 4096 ≤ length (left_by strokes)
left_long strokes = page_long zeros strokes (omega (arith, length-zeros))

-- the byte where the last stroke lies is its
pub byte_over : (strokes : List StrokeValue) (stroke : StrokeValue) (i : ℕ) → stroke.offset ≤ i → i < 4096 → i < stroke.offset + length stroke.bytes
    → get_or (left_by (strokes ++ stroke ∷ [])) i 0 ≡ get_or stroke.bytes (i - stroke.offset) 0
byte_over strokes stroke i from inside to =
    ap (λ (p : List ℕ). get_or p i 0) (left_by-push strokes stroke)
    ∙ get_or_append_left (take stroke.offset page ++ stroke.bytes) behind 0 i (omega (arith, front, length-append (take stroke.offset page) stroke.bytes, to))
    ∙ get_or-append_right (take stroke.offset page) stroke.bytes stroke.offset i 0 front from
  where
    page : List ℕ
    page = left_by strokes

    behind : List ℕ
    behind = drop (stroke.offset + length stroke.bytes) page

    front : length (take stroke.offset page) ≡ stroke.offset
    front = omega (arith, length-take stroke.offset page, left_long strokes, from, inside)

-- ---- what a write lays

on_touched : (at len a : ℕ) → at ≤ a → a < at + len → touches at len (a / 4096) ≡ true
on_touched at len a from to = grind (arith, nat_tests)

pub shown_there : (before now : Option (List StrokeValue)) (stroke : StrokeValue) (i : ℕ) → now ≡ with_strokes before (stroke ∷ []) → IsSome now
    → stroke.offset ≤ i → i < 4096 → i < stroke.offset + length stroke.bytes → byte_in now i ≡ get_or stroke.bytes (i - stroke.offset) 0
shown_there (Some strokes) now stroke i laid there from inside to = ap (λ s. byte_in s i) laid ∙ byte_over strokes stroke i from inside to
shown_there None now stroke i laid there from inside to = absurd (not_none now laid there)

-- the bytes of a range show what was written to it
pub write_shows : (own own' : PortState) (at mark : ℕ) (bytes : List ℕ) → Writes false own at bytes mark own' → (a : ℕ) → at ≤ a → a < at + length bytes
    → region_byte own'.strokes a ≡ get_or bytes (a - at) 0
write_shows own own' at mark bytes wrote a from to =
    shown_there laid.before (own'.strokes p) stroke i
    (laid.laid ∙ ap (λ t. cond t (with_strokes laid.before (stroke ∷ [])) laid.before) (on_touched at (length bytes) a from to))
    (wrote.there p (omega (arith, from)) (omega (arith, to))) (omega (arith, from)) (omega arith) (omega (arith, len, from, to))
    ∙ get_or-take (end - first) (drop first bytes) (i - stroke.offset) 0 (omega (arith, from, to))
    ∙ get_or-drop first bytes (i - stroke.offset) 0
    ∙ ap (λ (k : ℕ). get_or bytes k 0) (omega (arith, from))
  where
    p : ℕ
    p = a / 4096

    i : ℕ
    i = a % 4096

    first : ℕ
    first = 4096 * p - at

    end : ℕ
    end = min (4096 * (p + 1) - at) (length bytes)

    name : StrokeName
    name = record { who = own.place.unit; mark = mark }

    stroke : StrokeValue
    stroke = stroke_on name at bytes p

    laid : IsWritten false name at bytes p (own.strokes p) (own'.strokes p)
    laid = wrote.strokes p

    len : length stroke.bytes ≡ end - first
    len = omega (arith, length-take (end - first) (drop first bytes), length-drop first bytes)

-- ---- what a copy reads

shown_whole : (piece : Piece) (now : Option (List StrokeValue)) (k : ℕ) → HasStrokes piece now → k < piece.len → piece.offset + piece.len ≤ 4096
    → get_or (take piece.len (drop piece.offset (left_at now piece.at))) k 0 ≡ byte_in now (piece.offset + k)
shown_whole piece None k has less inside = absurd has
shown_whole piece (Some strokes) k has less inside =
    get_or-take piece.len (drop piece.offset (left_by (take piece.at strokes))) k 0 less ∙ get_or-drop piece.offset (left_by (take piece.at strokes)) k 0
    ∙ ap (λ list. get_or (left_by list) (piece.offset + k) 0) (take_all piece.at strokes (omega (arith, has)))

read_long : (piece : Piece) (now : Option (List StrokeValue)) → HasStrokes piece now → piece.offset + piece.len ≤ 4096
    → length (take piece.len (drop piece.offset (left_at now piece.at))) ≡ piece.len
read_long piece None has inside = absurd has
read_long piece (Some strokes) has inside =
    omega (
      arith,
      inside,
      length-take piece.len (drop piece.offset (left_by (take piece.at strokes))),
      length-drop piece.offset (left_by (take piece.at strokes)),
      left_long (take piece.at strokes),
    )

-- the bytes that pieces of the own window read are those that the window shows
pub read_shows : (unit : UnitId) (values : ℕ → List ℕ) (right : Right) (strokes : ℕ → Option (List StrokeValue)) (from to : ℕ) (pieces : List Piece)
    → ((e : ℕ) → e < 34 → values e ≡ (4096 * e + 3) ∷ []) → to ≤ 139264 → Touches unit from to pieces → All (IsGranted values right) pieces
    → All (IsLast values) pieces → All (λ piece. HasStrokes piece (strokes piece.page)) pieces → (k : ℕ) → from + k < to
    → get_or (flat_map (read_bytes strokes) pieces) k 0 ≡ region_byte strokes (from + k)
read_shows unit values right strokes from to [] first inside touched granted last has k less = absurd (omega (arith, touched, less))
read_shows unit values right strokes from to (piece ∷ pieces) first inside touched granted last has k less =
    at (nat_lt k piece.len) refl (read_shows unit values right strokes (from + piece.len) to pieces first inside touched.2 (All-tail (IsGranted values right) piece pieces granted)
    (All-tail (IsLast values) piece pieces last) (All-tail (λ p. HasStrokes p (strokes p.page)) piece pieces has))
  where
    mine : HasStrokes piece (strokes piece.page)
    mine = All-head (λ p. HasStrokes p (strokes p.page)) piece pieces has

    page_is : piece.page ≡ from / 4096
    page_is = entry_page values right piece first (omega (arith, touched.1.entry, touched.0, inside)) (All-head (IsGranted values right) piece pieces granted)
        (All-head (IsLast values) piece pieces last) ∙ touched.1.entry

    long : length (read_bytes strokes piece) ≡ piece.len
    long = read_long piece (strokes piece.page) mine (omega (arith, touched.1.offset, touched.1.len))

    at : (b : Bool) → nat_lt k piece.len ≡ b
        → ((k : ℕ) → from + piece.len + k < to → get_or (flat_map (read_bytes strokes) pieces) k 0 ≡ region_byte strokes (from + piece.len + k))
        → get_or (read_bytes strokes piece ++ flat_map (read_bytes strokes) pieces) k 0 ≡ region_byte strokes (from + k)
    at true below rest =
        let here : k < piece.len = grind (arith, nat_tests) in
        get_or_append_left (read_bytes strokes piece) (flat_map (read_bytes strokes) pieces) 0 k (omega (arith, here, long))
        ∙ shown_whole piece (strokes piece.page) k mine here (omega (arith, touched.1.offset, touched.1.len))
        ∙ ap₂ (λ (p i : ℕ). byte_in (strokes p) i) (page_is ∙ omega (arith, touched.1.offset, touched.1.len, here)) (omega (arith, touched.1.offset, touched.1.len, here))
    at false above rest =
        let past : piece.len ≤ k = grind (arith, nat_tests) in
        get_or-append_right (read_bytes strokes piece) (flat_map (read_bytes strokes) pieces) piece.len k 0 long past
        ∙ rest (k - piece.len) (omega (arith, less, past))
        ∙ ap (region_byte strokes) (omega (arith, past))

-- ---- what leaves a page as it is

-- nothing was laid
pub none_laid : (shared : Bool) (own own' : PortState) → shared ≡ false → LaysNone shared own own' → (p : ℕ) → own'.strokes p ≡ own.strokes p
none_laid true own own' alone none p = absurd (cc (alone))
none_laid false own own' alone none p = grows_same (own.strokes p) (own'.strokes p) (none.strokes p)

-- a write to other pages
pub write_leaves : (shared : Bool) (own own' : PortState) (at mark : ℕ) (bytes : List ℕ) → shared ≡ false → Writes shared own at bytes mark own' → (p : ℕ)
    → touches at (length bytes) p ≡ false → own'.strokes p ≡ own.strokes p
write_leaves true own own' at mark bytes alone wrote p other = absurd (cc (alone))
write_leaves false own own' at mark bytes alone wrote p other =
    laid.laid ∙ ap (λ t. cond t (with_strokes laid.before (stroke_on name at bytes p ∷ [])) laid.before) other ∙ grows_same (own.strokes p) laid.before laid.grown
  where
    name : StrokeName
    name = record { who = own.place.unit; mark = mark }

    laid : IsWritten false name at bytes p (own.strokes p) (own'.strokes p)
    laid = wrote.strokes p

pub past_end : (at len p : ℕ) → at + len ≤ 4096 * p → touches at len p ≡ false
past_end at len p behind = at_first (nat_le (at / 4096) p)
  where
    second : nat_lt p ((at + len + 4095) / 4096) ≡ false
    second = grind (arith, nat_tests)

    at_first : (b : Bool) → (b && nat_lt p ((at + len + 4095) / 4096)) ≡ false
    at_first true = second
    at_first false = refl

pub before_first : (at len p : ℕ) → 4096 * (p + 1) ≤ at → touches at len p ≡ false
before_first at len p ahead = ap (λ t. t && nat_lt p ((at + len + 4095) / 4096)) first
  where
    first : nat_le (at / 4096) p ≡ false
    first = grind (arith, nat_tests)

-- pages from 2 on, and the data's bytes
pub same_data : (own own' : PortState) → ((p : ℕ) → 2 ≤ p → own'.strokes p ≡ own.strokes p) → data_bytes own' ≡ data_bytes own
unfolding data_bytes
same_data own own' same i k = byte_in (same ((8192 + k) / 4096) (omega arith) i) ((8192 + k) % 4096)

pub none_data : (shared : Bool) (own own' : PortState) → shared ≡ false → LaysNone shared own own' → data_bytes own' ≡ data_bytes own
none_data shared own own' alone none = same_data own own' (λ p behind. none_laid shared own own' alone none p)

pub first_data : (shared : Bool) (own own' : PortState) (mark : ℕ) (bytes : List ℕ) → shared ≡ false → length bytes ≤ 4096 → Writes shared own 0 bytes mark own'
    → data_bytes own' ≡ data_bytes own
first_data shared own own' mark bytes alone few wrote =
    same_data own own' (λ p behind. write_leaves shared own own' 0 mark bytes alone wrote p (past_end 0 (length bytes) p (omega (arith, few, behind))))

pub read_data : (shared : Bool) (own own' : PortState) → shared ≡ false → OnlyReads shared own own' → data_bytes own' ≡ data_bytes own
read_data true own own' alone rest = absurd (cc (alone))
read_data false own own' alone rest = same_data own own' (λ p behind. grows_same (own.strokes p) (own'.strokes p) (rest.strokes p))

-- ---- what the data's pages show

-- after they were written
pub data_shown : (shared : Bool) (own own' : PortState) (mark : ℕ) (bytes : List ℕ) → shared ≡ false → Writes shared own 8192 bytes mark own' → (k : ℕ) → k < length bytes
    → data_bytes own' k ≡ slice_index bytes k
unfolding data_bytes
data_shown true own own' mark bytes alone wrote k less = absurd (cc (alone))
data_shown false own own' mark bytes alone wrote k less = write_shows own own' 8192 mark bytes wrote (8192 + k) (omega arith) (omega (arith, less)) ∙ ap (λ (n : ℕ). get_or bytes n 0) (omega arith)

-- the same in two writes
pub data_shown_two : (shared : Bool) (own own' own'' : PortState) (mark : ℕ) (bytes front rest : List ℕ) → shared ≡ false → bytes ≡ front ++ rest → length front ≡ 65536
    → Writes shared own 8192 front mark own' → Writes shared own' 73728 rest mark own'' → (k : ℕ) → k < length bytes → data_bytes own'' k ≡ slice_index bytes k
unfolding data_bytes
data_shown_two true own own' own'' mark bytes front rest alone split long first second k less = absurd (cc (alone))
data_shown_two false own own' own'' mark bytes front rest alone split long first second k less = at (nat_lt k 65536) refl
  where
    joined : get_or (front ++ rest) k 0 ≡ get_or bytes k 0
    joined = ap (λ (list : List ℕ). get_or list k 0) (sym split)

    all : length bytes ≡ 65536 + length rest
    all = omega (arith, ap length split, length-append front rest, long)

    at : (b : Bool) → nat_lt k 65536 ≡ b → region_byte own''.strokes (8192 + k) ≡ get_or bytes k 0
    at true below =
        let here : k < 65536 = grind (arith, nat_tests) in
        ap (λ s. byte_in s ((8192 + k) % 4096)) (write_leaves false own' own'' 73728 mark rest refl second ((8192 + k) / 4096) (before_first 73728 (length rest) ((8192 + k) / 4096) (omega (arith, here))))
        ∙ write_shows own own' 8192 mark front first (8192 + k) (omega arith) (omega (arith, here, long)) ∙ ap (λ (n : ℕ). get_or front n 0) (omega arith)
        ∙ sym (get_or_append_left front rest 0 k (omega (arith, here, long))) ∙ joined
    at false above =
        let past : 65536 ≤ k = grind (arith, nat_tests) in
        write_shows own' own'' 73728 mark rest second (8192 + k) (omega (arith, past)) (omega (arith, less, all)) ∙ ap (λ (n : ℕ). get_or rest n 0) (omega (arith, past))
        ∙ sym (get_or-append_right front rest 65536 k 0 long past) ∙ joined

-- what is read from the first of the data's pages on
pub reads_shown : (own : PortState) (out : List ℕ) → Reads own 8192 out → AreShown (data_bytes own) out
unfolding data_bytes
reads_shown own out reads k less = sym (reads.bytes k less)

reads_behind : (own : PortState) (rest : List ℕ) → Reads own 73728 rest → (n : ℕ) → n < length rest → data_bytes own (65536 + n) ≡ get_or rest n 0
unfolding data_bytes
reads_behind own rest reads n inside = ap (region_byte own.strokes) (omega arith) ∙ sym (reads.bytes n inside)

-- the same in two reads
pub reads_two : (shared : Bool) (own own' : PortState) (front rest : List ℕ) → shared ≡ false → OnlyReads shared own own' → length front ≡ 65536 → Reads own 8192 front
    → Reads own' 73728 rest → AreShown (data_bytes own') (front ++ rest)
reads_two shared own own' front rest alone only long first second k less = at (nat_lt k 65536) refl
  where
    at : (b : Bool) → nat_lt k 65536 ≡ b → data_bytes own' k ≡ get_or (front ++ rest) k 0
    at true below =
        let here : k < 65536 = grind (arith, nat_tests) in
        ap (λ (s : ℕ → ℕ). s k) (read_data shared own own' alone only) ∙ reads_shown own front first k (omega (arith, here, long)) ∙ sym (get_or_append_left front rest 0 k (omega (arith, here, long)))
    at false above =
        let past : 65536 ≤ k = grind (arith, nat_tests) in
        ap (data_bytes own') (omega (arith, past)) ∙ reads_behind own' rest second (k - 65536) (omega (arith, less, past, length-append front rest, long))
        ∙ sym (get_or-append_right front rest 65536 k 0 long past)
