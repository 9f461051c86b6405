-- The bytes of a unit's region, as a write lays them and as pieces of it are read.
use Rattle.std.proofs.Common.{◌≡◌, ◌+◌, ◌-◌, ◌*◌, ◌/◌, ◌%◌, ◌<◌, ◌≤◌, ◌++◌, ℕ, zero, suc, min, Bool, true, false, cond, nat_lt, All, IsSome, List, [], ◌∷◌, Option, Some, None, length, take, drop, get_or, slice_get, fold, refl, sym, ◌∙◌, ap, ap₂, subst, arith, length-append, length-take}
use Rattle.std.specs.List.{flat_map}
use Rattle.std.proofs.lemmas.Bool.Decides.{nat_tests}
use Rattle.std.proofs.lemmas.List.{ext_get_or, get_or-drop, get_or-take, get_or_append_left, get_or-append_right, length-drop, take_all}
use Rattle.std.proofs.lemmas.List.Elements.{All-cons, All-head, All-nil, All-tail}
use Rattle.vio_num.specs.declared.names.UnitId.{UnitId}
use Rattle.page_slots.specs.Page.{left_by, overwritten, zeros}
use Rattle.page_slots.specs.Stroke.{StrokeValue}
use Rattle.page_slots.specs.declared.stroke.StrokeName.{StrokeName}
use Rattle.page_slots.proofs.Strokes.{left_by-push, length-zeros}
use Rattle.tce_window.specs.Moved.{left_at, read_bytes, stroke_count}
use Rattle.tce_window.specs.Pieces.{HasStrokes, IsGranted, Touches}
use Rattle.tce_window.specs.Port.{Grows, IsWritten}
use Rattle.tce_window.specs.PortState.{PortState, Writes}
use Rattle.tce_window.specs.Region.{byte_in, region_byte, stroke_on, touches}
use Rattle.tce_window.specs.Strokes.{with_strokes}
use Rattle.tce_window.specs.declared.answers.Right.TheVariants.{Read}
use Rattle.tce_window.specs.declared.piece.Piece.{Piece}
use Rattle.tce_window.proofs.Laws.{not_none}
use Rattle.lan_switch.specs.Source.{OnlyReadThrough, Reads}
use Rattle.lan_script.specs.Values.{AreOwn}
use Rattle.lan_script.proofs.Placing.{same_some}

-- ---- a page

long_after : (page : List ℕ) (stroke : StrokeValue) → 4096 ≤ length page → 4096 ≤ length (overwritten page stroke)
long_after page stroke long =
    omega (
      arith,
      long,
      length-append (take stroke.offset page) (stroke.bytes ++ drop (stroke.offset + length stroke.bytes) page),
      length-append (take stroke.offset page) stroke.bytes,
      length-append (take stroke.offset page ++ stroke.bytes) (drop (stroke.offset + length stroke.bytes) page),
      length-append stroke.bytes (drop (stroke.offset + length stroke.bytes) page),
      length-take stroke.offset page,
      length-drop (stroke.offset + length stroke.bytes) page,
    )

-- a page has 4,096 bytes, whatever its strokes
page_long : (page : List ℕ) (strokes : List StrokeValue) → 4096 ≤ length page → 4096 ≤ length (fold overwritten page strokes)
page_long page [] long = long
page_long page (stroke ∷ strokes) long = page_long (overwritten page stroke) strokes (long_after page stroke long)

left_long : (strokes : List StrokeValue) → 4096 ≤ length (left_by strokes)
left_long strokes = page_long zeros strokes (omega (arith, length-zeros))

-- the byte where the last stroke lies is its
byte_over : (strokes : List StrokeValue) (stroke : StrokeValue) (i : ℕ) → stroke.offset ≤ i → i < 4096 → i < stroke.offset + length stroke.bytes
    → get_or (left_by (strokes ++ stroke ∷ [])) i 0 ≡ get_or stroke.bytes (i - stroke.offset) 0
byte_over strokes stroke i from inside to =
    ap (λ (p : List ℕ). get_or p i 0) (left_by-push strokes stroke)
    ∙ get_or_append_left (take stroke.offset page ++ stroke.bytes) behind 0 i (omega (arith, front, length-append (take stroke.offset page) stroke.bytes, to))
    ∙ get_or-append_right (take stroke.offset page) stroke.bytes stroke.offset i 0 front from
  where
    page : List ℕ
    page = left_by strokes

    behind : List ℕ
    behind = drop (stroke.offset + length stroke.bytes) page

    front : length (take stroke.offset page) ≡ stroke.offset
    front = omega (arith, length-take stroke.offset page, left_long strokes, from, inside)

-- ---- what a write lays

on_touched : (at len a : ℕ) → at ≤ a → a < at + len → touches at len (a / 4096) ≡ true
on_touched at len a from to = grind (arith, nat_tests)

shown_there : (before now : Option (List StrokeValue)) (stroke : StrokeValue) (i : ℕ) → now ≡ with_strokes before (stroke ∷ []) → IsSome now
    → stroke.offset ≤ i → i < 4096 → i < stroke.offset + length stroke.bytes → byte_in now i ≡ get_or stroke.bytes (i - stroke.offset) 0
shown_there (Some strokes) now stroke i laid there from inside to = ap (λ s. byte_in s i) laid ∙ byte_over strokes stroke i from inside to
shown_there None now stroke i laid there from inside to = absurd (not_none now laid there)

-- each page that a write touched is there
pub write_there : (own own' : PortState) (at mark : ℕ) (bytes : List ℕ) → Writes false own at bytes mark own' → (a : ℕ) → at ≤ a → a < at + length bytes
    → IsSome (own'.strokes (a / 4096))
write_there own own' at mark bytes wrote a from to = wrote.there (a / 4096) (omega (arith, from)) (omega (arith, to))

-- the bytes of a range show what was written to it
pub write_shows : (own own' : PortState) (at mark : ℕ) (bytes : List ℕ) → Writes false own at bytes mark own' → (a : ℕ) → at ≤ a → a < at + length bytes
    → region_byte own'.strokes a ≡ get_or bytes (a - at) 0
write_shows own own' at mark bytes wrote a from to =
    shown_there laid.before (own'.strokes p) stroke i
    (laid.laid ∙ ap (λ t. cond t (with_strokes laid.before (stroke ∷ [])) laid.before) (on_touched at (length bytes) a from to))
    (write_there own own' at mark bytes wrote a from to) (omega (arith, from)) (omega arith) (omega (arith, len, from, to))
    ∙ get_or-take (end - first) (drop first bytes) (i - stroke.offset) 0 (omega (arith, from, to))
    ∙ get_or-drop first bytes (i - stroke.offset) 0
    ∙ ap (λ (k : ℕ). get_or bytes k 0) (omega (arith, from))
  where
    p : ℕ
    p = a / 4096

    i : ℕ
    i = a % 4096

    first : ℕ
    first = 4096 * p - at

    end : ℕ
    end = min (4096 * (p + 1) - at) (length bytes)

    name : StrokeName
    name = record { who = own.place.unit; mark = mark }

    stroke : StrokeValue
    stroke = stroke_on name at bytes p

    laid : IsWritten false name at bytes p (own.strokes p) (own'.strokes p)
    laid = wrote.strokes p

    len : length stroke.bytes ≡ end - first
    len = omega (arith, length-take (end - first) (drop first bytes), length-drop first bytes)

-- ---- what pieces read

shown_whole : (piece : Piece) (now : Option (List StrokeValue)) (k : ℕ) → HasStrokes piece now → k < piece.len → piece.offset + piece.len ≤ 4096
    → get_or (take piece.len (drop piece.offset (left_at now piece.at))) k 0 ≡ byte_in now (piece.offset + k)
shown_whole piece None k has less inside = absurd has
shown_whole piece (Some strokes) k has less inside =
    get_or-take piece.len (drop piece.offset (left_by (take piece.at strokes))) k 0 less ∙ get_or-drop piece.offset (left_by (take piece.at strokes)) k 0
    ∙ ap (λ list. get_or (left_by list) (piece.offset + k) 0) (take_all piece.at strokes (omega (arith, has)))

read_long : (piece : Piece) (now : Option (List StrokeValue)) → HasStrokes piece now → piece.offset + piece.len ≤ 4096
    → length (take piece.len (drop piece.offset (left_at now piece.at))) ≡ piece.len
read_long piece None has inside = absurd has
read_long piece (Some strokes) has inside =
    omega (
      arith,
      inside,
      length-take piece.len (drop piece.offset (left_by (take piece.at strokes))),
      length-drop piece.offset (left_by (take piece.at strokes)),
      left_long (take piece.at strokes),
    )

-- a piece names as many strokes as its page has
whole_page : (piece : Piece) (now : Option (List StrokeValue)) → IsSome now → piece.at ≤ stroke_count now → stroke_count now ≤ piece.at → HasStrokes piece now
whole_page piece (Some strokes) there reached all = omega (arith, reached, all)
whole_page piece None there reached all = absurd (cc (there))

-- an entry all of whose values name its own page was granted that page
value_own : (values : List ℕ) (e i value : ℕ) → All (λ v. v / 4096 ≡ e) values → slice_get values i ≡ Some value → value / 4096 ≡ e
value_own [] e i value all f = absurd (cc (f))
value_own (v ∷ values) e zero value all f = subst (λ (x : ℕ). x / 4096 ≡ e) (same_some v value f) (All-head (λ (x : ℕ). x / 4096 ≡ e) v values all)
value_own (v ∷ values) e (suc i) value all f = value_own values e i value (All-tail (λ (x : ℕ). x / 4096 ≡ e) v values all) f

own_page : (values : ℕ → List ℕ) (piece : Piece) → AreOwn values → IsGranted values Read piece → piece.page ≡ piece.entry
own_page values piece all granted =
    omega (arith, granted.page, value_own (values piece.entry) piece.entry piece.version granted.value (all piece.entry) granted.shown)

-- The pieces of a range of a window whose entries name their own pages, whose pages are there with all their strokes.
record AreWhole (values : ℕ → List ℕ) (strokes : ℕ → Option (List StrokeValue)) (from to : ℕ) (pieces : List Piece) : Type 0 where
  all : AreOwn values
  there : (a : ℕ) → from ≤ a → a < to → IsSome (strokes (a / 4096))
  granted : All (IsGranted values Read) pieces
  reached : All (λ piece. piece.at ≤ stroke_count (strokes piece.page)) pieces
  fresh : All (λ piece. stroke_count (strokes piece.page) ≤ piece.at) pieces

-- the bytes that they read are those that the region shows
read_shows : (unit : UnitId) (values : ℕ → List ℕ) (strokes : ℕ → Option (List StrokeValue)) (from to : ℕ) (pieces : List Piece)
    → Touches unit from to pieces → AreWhole values strokes from to pieces → (k : ℕ) → from + k < to
    → get_or (flat_map (read_bytes strokes) pieces) k 0 ≡ region_byte strokes (from + k)
read_shows unit values strokes from to [] touched are k less = absurd (omega (arith, touched, less))
read_shows unit values strokes from to (piece ∷ pieces) touched are k less =
    at (nat_lt k piece.len) refl (read_shows unit values strokes (from + piece.len) to pieces touched.2
    (record {
      all = are.all;
      there = λ a above below. are.there a (omega (arith, above)) below;
      granted = All-tail (IsGranted values Read) piece pieces are.granted;
      reached = All-tail (λ p. p.at ≤ stroke_count (strokes p.page)) piece pieces are.reached;
      fresh = All-tail (λ p. stroke_count (strokes p.page) ≤ p.at) piece pieces are.fresh;
    }))
  where
    page_is : piece.page ≡ from / 4096
    page_is = own_page values piece are.all (All-head (IsGranted values Read) piece pieces are.granted) ∙ touched.1.entry

    mine : HasStrokes piece (strokes piece.page)
    mine = whole_page piece (strokes piece.page)
        (subst (λ (p : ℕ). IsSome (strokes p)) (sym page_is) (are.there from (omega arith) touched.0))
        (All-head (λ p. p.at ≤ stroke_count (strokes p.page)) piece pieces are.reached)
        (All-head (λ p. stroke_count (strokes p.page) ≤ p.at) piece pieces are.fresh)

    long : length (read_bytes strokes piece) ≡ piece.len
    long = read_long piece (strokes piece.page) mine (omega (arith, touched.1.offset, touched.1.len))

    at : (b : Bool) → nat_lt k piece.len ≡ b
        → ((k : ℕ) → from + piece.len + k < to → get_or (flat_map (read_bytes strokes) pieces) k 0 ≡ region_byte strokes (from + piece.len + k))
        → get_or (read_bytes strokes piece ++ flat_map (read_bytes strokes) pieces) k 0 ≡ region_byte strokes (from + k)
    at true below rest =
        let here : k < piece.len = grind (arith, nat_tests) in
        get_or_append_left (read_bytes strokes piece) (flat_map (read_bytes strokes) pieces) 0 k (omega (arith, here, long))
        ∙ shown_whole piece (strokes piece.page) k mine here (omega (arith, touched.1.offset, touched.1.len))
        ∙ ap₂ (λ (p i : ℕ). byte_in (strokes p) i) (page_is ∙ omega (arith, touched.1.offset, touched.1.len, here)) (omega (arith, touched.1.offset, touched.1.len, here))
    at false above rest =
        let past : piece.len ≤ k = grind (arith, nat_tests) in
        get_or-append_right (read_bytes strokes piece) (flat_map (read_bytes strokes) pieces) piece.len k 0 long past
        ∙ rest (k - piece.len) (omega (arith, less, past))
        ∙ ap (region_byte strokes) (omega (arith, past))

-- ---- what a window that was read through shows

-- nothing was laid on a page
same_page : (old new : Option (List StrokeValue)) → Grows false old new → new ≡ old
same_page (Some old) (Some new) grown = ap Some grown
same_page (Some old) None grown = absurd grown
same_page None (Some new) grown = absurd grown
same_page None None grown = refl

still_fresh : (old new : ℕ → Option (List StrokeValue)) → ((p : ℕ) → new p ≡ old p) → (pieces : List Piece)
    → All (λ piece. stroke_count (old piece.page) ≤ piece.at) pieces → All (λ piece. stroke_count (new piece.page) ≤ piece.at) pieces
still_fresh old new same [] all = All-nil (λ (piece : Piece). stroke_count (new piece.page) ≤ piece.at)
still_fresh old new same (p ∷ pieces) all =
    All-cons (λ (piece : Piece). stroke_count (new piece.page) ≤ piece.at) p pieces
    (subst (λ (s : Option (List StrokeValue)). stroke_count s ≤ p.at) (sym (same p.page)) (All-head (λ (piece : Piece). stroke_count (old piece.page) ≤ piece.at) p pieces all))
    (still_fresh old new same pieces (All-tail (λ (piece : Piece). stroke_count (old piece.page) ≤ piece.at) p pieces all))

-- what is read of a region are the bytes that it shows
pub reads_shown : (old new : PortState) (at : ℕ) (pieces : List Piece) (frame bytes : List ℕ) → OnlyReadThrough false old new → Reads old new at pieces frame
    → AreOwn old.values → length frame ≡ length bytes
    → ((k : ℕ) → k < length bytes → IsSome (old.strokes ((at + k) / 4096)))
    → ((k : ℕ) → k < length bytes → region_byte old.strokes (at + k) ≡ get_or bytes k 0) → frame ≡ bytes
reads_shown old new at pieces frame bytes through reads all long there each = ext_get_or 0 frame bytes long (λ k less. at_place k less)
  where
    same : (p : ℕ) → new.strokes p ≡ old.strokes p
    same p = same_page (old.strokes p) (new.strokes p) (through.none.strokes p)

    whole : AreWhole new.values new.strokes at (at + length frame) pieces
    whole = record {
      all = λ e. subst (λ (l : List ℕ). All (λ v. v / 4096 ≡ e) l) (sym (through.rest.values e)) (all e);
      there = λ a above below.
          subst (λ (s : Option (List StrokeValue)). IsSome s) (sym (same (a / 4096)))
          (subst (λ (x : ℕ). IsSome (old.strokes (x / 4096))) (omega (arith, above)) (there (a - at) (omega (arith, above, below, long))));
      granted = reads.read.granted;
      reached = reads.read.reached;
      fresh = still_fresh old.strokes new.strokes same pieces reads.all;
    }

    at_place : (k : ℕ) → k < length frame → get_or frame k 0 ≡ get_or bytes k 0
    at_place k less =
        ap (λ (l : List ℕ). get_or l k 0) (sym reads.read.join)
        ∙ read_shows old.place.unit new.values new.strokes at (at + length frame) pieces reads.read.touched whole k (omega (arith, less))
        ∙ ap (λ (s : Option (List StrokeValue)). byte_in s ((at + k) % 4096)) (same ((at + k) / 4096)) ∙ each k (omega (arith, less, long))
