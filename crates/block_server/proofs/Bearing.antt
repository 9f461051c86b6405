-- That strokes which were laid one behind the other are parts of what was written, and that a copy lays parts of what its source shows.
use Rattle.std.proofs.Common.{◌≡◌, ◌+◌, ◌-◌, ◌*◌, ◌<◌, ◌≤◌, ◌==◌, ℕ, Bool, true, false, cond, arith, All, List, [], ◌∷◌, Option, Some, None, drop, get_or, length, refl, sym, ◌∙◌, ap, subst, take}
use Rattle.std.specs.List.{flat_map}
use Rattle.std.proofs.lemmas.Bool.Decides.{nat_tests}
use Rattle.std.proofs.lemmas.List.{drop-drop, get_or-drop, get_or-take, length-take-le}
use Rattle.std.proofs.lemmas.List.Elements.{All-cons, All-head, All-nil, All-tail}
use Rattle.vio_num.specs.declared.names.UnitId.{UnitId}
use Rattle.page_slots.specs.Stroke.{StrokeValue}
use Rattle.page_slots.specs.declared.stroke.StrokeName.{StrokeName}
use Rattle.tce_window.specs.declared.answers.Right.TheVariants.{Read, Write}
use Rattle.tce_window.specs.declared.piece.Piece.{Piece}
use Rattle.tce_window.specs.Moved.{piece_strokes, read_bytes, strokes_on}
use Rattle.tce_window.specs.Pieces.{IsGranted, IsLast, IsPieceAt, Touches}
use Rattle.tce_window.specs.PortState.{LaysNone, PortState}
use Rattle.tce_window.specs.Region.{region_byte}
use Rattle.tce_window.specs.Strokes.{with_strokes}
use Rattle.rdma_copy.specs.Answers.{IfCopied, OnRefused}
use Rattle.rdma_copy.specs.Copies.{Copies, OnlyCopies}
use Rattle.rdma_copy.specs.declared.copy.CopyAnswer.{CopyAnswer}
use Rattle.rdma_copy.specs.declared.copy.CopyAnswer.TheVariants as copies
use Rattle.rdma_copy.specs.declared.copy.CopyRecord.{CopyRecord}
use Rattle.block_server.specs.Bearing.{BearsIn, BearsWithin, IsShownAs, StrokeBears, Writing}
use Rattle.block_server.specs.Copied.{own_name}
use Rattle.block_server.specs.Ranges.{AddsEach, Known, StrokeLiesIn, known_in}
use Rattle.block_server.proofs.DataPages.{read_shows}
use Rattle.block_server.proofs.NamedWindows.{grows_same}
use Rattle.block_server.proofs.Owning.{same_first}
use Rattle.block_server.proofs.RangeLaws.{each_none, each_on, each_weaker, laid_each, take_most, touches_on}

bears_within_on : (Writes : Writing) (old mid new : Known) → BearsWithin Writes old mid → BearsWithin Writes mid new → BearsWithin Writes old new
bears_within_on Writes old mid new first next = record {
  values = next.values ∙ first.values;
  strokes = λ page. each_on (StrokeBears old.values Writes page) (old.strokes page) (mid.strokes page) (new.strokes page) (first.strokes page)
      (subst (λ (v : ℕ → List ℕ). AddsEach (StrokeBears v Writes page) (mid.strokes page) (new.strokes page)) first.values (next.strokes page));
}

pub bears_none : (Writes : Writing) (known : Option Known) → BearsIn Writes known known
bears_none Writes (Some known) = record { values = refl; strokes = λ page. each_none (StrokeBears known.values Writes page) (known.strokes page) }
bears_none Writes None = tt

pub bears_same : (Writes : Writing) (old new : Option Known) → new ≡ old → BearsIn Writes old new
bears_same Writes old new same = subst (BearsIn Writes old) (sym same) (bears_none Writes old)

pub bears_on : (Writes : Writing) (old mid new : Option Known) → BearsIn Writes old mid → BearsIn Writes mid new → BearsIn Writes old new
bears_on Writes (Some old) (Some mid) (Some new) first next = bears_within_on Writes old mid new first next
bears_on Writes None None None first next = tt
bears_on Writes (Some old) (Some mid) None first next = absurd next
bears_on Writes (Some old) None new first next = absurd first
bears_on Writes None (Some mid) new first next = absurd first
bears_on Writes None None (Some new) first next = absurd next

pub bears_wider : (Writes Wider : Writing) → ((address : ℕ) (bytes : List ℕ) (name : StrokeName) → Writes address bytes name → Wider address bytes name)
    → (old new : Option Known) → BearsIn Writes old new → BearsIn Wider old new
bears_wider Writes Wider more (Some old) (Some new) is = record {
  values = is.values;
  strokes = λ page. each_weaker (StrokeBears old.values Writes page) (StrokeBears old.values Wider page)
      (λ stroke h. record { address = h.address; bytes = h.bytes; writes = more h.address h.bytes stroke.name h.writes; lies = h.lies; bears = h.bears })
      (old.strokes page) (new.strokes page) (is.strokes page);
}
bears_wider Writes Wider more None None is = tt
bears_wider Writes Wider more (Some old) None is = absurd is
bears_wider Writes Wider more None (Some new) is = absurd is

-- ---- copies

-- the stroke of a piece bears what falls to it of the bytes of a range
piece_bears : (Writes : Writing) (unit : UnitId) (values : ℕ → List ℕ) (name : StrokeName) (whole : List ℕ) (piece : Piece) (to from end : ℕ) → Writes to whole name
    → IsPieceAt unit from end piece → IsGranted values Write piece → IsLast values piece → to ≤ from → from + piece.len ≤ to + length whole
    → StrokeBears values Writes piece.page (record { name = name; offset = piece.offset; bytes = take piece.len (drop (from - to) whole) })
piece_bears Writes unit values name whole piece to from end writes at granted last low high =
    let most : length (take piece.len (drop (from - to) whole)) ≤ piece.len = take_most piece.len (drop (from - to) whole) in
    let start : 4096 * piece.entry + piece.offset ≡ from = omega (arith, at.entry, at.offset) in
    record {
      address = to;
      bytes = whole;
      writes = writes;
      lies = record {
        entry = piece.entry;
        named = record { version = piece.version; value = granted.value; current = record { shown = granted.shown; last = last }; named = sym granted.page };
        from = omega (arith, start, low);
        to = omega (arith, start, most, high);
        within = omega (arith, at.offset, at.len, most);
      };
      bears = λ k less.
          get_or-take piece.len (drop (from - to) whole) k 0 (omega (arith, less, most)) ∙ get_or-drop (from - to) whole k 0
          ∙ ap (λ (n : ℕ). get_or whole n 0) (omega (arith, start, low));
    }

pieces_bear : (Writes : Writing) (unit : UnitId) (values : ℕ → List ℕ) (name : StrokeName) (whole : List ℕ) (to end page : ℕ) → Writes to whole name → end ≡ to + length whole
    → (pieces : List Piece) (from : ℕ) (rest : List ℕ) → rest ≡ drop (from - to) whole → Touches unit from end pieces → All (IsGranted values Write) pieces → All (IsLast values) pieces
    → to ≤ from → All (StrokeBears values Writes page) (strokes_on page pieces (piece_strokes name rest pieces))
pieces_bear Writes unit values name whole to end page writes ends [] from rest is touched granted last low = All-nil (StrokeBears values Writes page)
pieces_bear Writes unit values name whole to end page writes ends (piece ∷ pieces) from rest is touched granted last low =
    by (piece.page == page) refl
    (pieces_bear Writes unit values name whole to end page writes ends pieces (from + piece.len) (drop piece.len rest)
    (ap (drop piece.len) is ∙ drop-drop piece.len (from - to) whole ∙ ap (λ (n : ℕ). drop n whole) (omega (arith, low))) touched.2
    (All-tail (IsGranted values Write) piece pieces granted) (All-tail (IsLast values) piece pieces last) (omega (arith, low)))
  where
    first : StrokeValue
    first = record { name = name; offset = piece.offset; bytes = take piece.len rest }

    behind : List StrokeValue
    behind = strokes_on page pieces (piece_strokes name (drop piece.len rest) pieces)

    here : StrokeBears values Writes piece.page first
    here = subst (λ (list : List ℕ). StrokeBears values Writes piece.page (record { name = name; offset = piece.offset; bytes = take piece.len list })) (sym is)
        (piece_bears Writes unit values name whole piece to from end writes touched.1 (All-head (IsGranted values Write) piece pieces granted)
        (All-head (IsLast values) piece pieces last) low (let h = touches_on unit (from + piece.len) end pieces touched.2 in omega (arith, h, ends)))

    by : (t : Bool) → (piece.page == page) ≡ t → All (StrokeBears values Writes page) behind → All (StrokeBears values Writes page) (cond t (first ∷ behind) behind)
    by true same bear =
        All-cons (StrokeBears values Writes page) first behind
        (subst (λ (p : ℕ). StrokeBears values Writes p first) (grind (arith, nat_tests, same)) here) bear
    by false same bear = bear

unlaid_bears : (Writes : Writing) (old new : PortState) → LaysNone false old new → OnlyCopies false old new → BearsWithin Writes (known_in old) (known_in new)
unlaid_bears Writes old new none rest = record {
  values = λ i e. rest.values e i;
  strokes = λ page. subst (AddsEach (StrokeBears old.values Writes page) (old.strokes page))
      (sym (grows_same (old.strokes page) (new.strokes page) (none.strokes page))) (each_none (StrokeBears old.values Writes page) (old.strokes page));
}

-- a copy from the own window lays what this shows
laid_bears : (src src' old new : PortState) (from to len mark : ℕ) (unit : UnitId) (copy : CopyRecord) → unit ≡ src.place.unit
    → ((e : ℕ) → e < 34 → src.values e ≡ (4096 * e + 3) ∷ []) → from + len ≤ 139264 → LaysNone false src src' → OnlyCopies false src src'
    → Copies false src' old new from to len (record { who = unit; mark = mark }) copy → OnlyCopies false old new
    → BearsWithin (IsShownAs (own_name src mark) to len (λ k. region_byte src.strokes (from + k))) (known_in old) (known_in new)
laid_bears src src' old new from to len mark unit copy named first inside none only copied rest = record {
  values = same;
  strokes = λ page.
      let laid = copied.laid page in
      subst (AddsEach (StrokeBears old.values Writes page) (old.strokes page))
      (ap (λ before. with_strokes before (strokes_on page copy.to.items (piece_strokes name bytes copy.to.items))) (sym (grows_same (old.strokes page) laid.before laid.grown))
      ∙ sym laid.laid)
      (laid_each (StrokeBears old.values Writes page) (old.strokes page) (strokes_on page copy.to.items (piece_strokes name bytes copy.to.items))
      (subst (λ (v : ℕ → List ℕ). All (StrokeBears v Writes page) (strokes_on page copy.to.items (piece_strokes name bytes copy.to.items))) same
      (pieces_bear Writes new.place.unit new.values name bytes to (to + length copied.lawful.bytes) page writes
      (ap (λ (list : List ℕ). to + length list) (sym copied.lawful.read.join)) copy.to.items to bytes (ap (λ (n : ℕ). drop n bytes) at_start)
      copied.lawful.written.touched copied.lawful.written.granted copied.last_written (omega arith))));
}
  where
    name : StrokeName
    name = record { who = unit; mark = mark }

    bytes : List ℕ
    bytes = flat_map (read_bytes src'.strokes) copy.from.items

    same : new.values ≡ old.values
    same = λ i e. rest.values e i

    at_start : 0 ≡ to - to
    at_start = omega arith

    long : length copied.lawful.bytes ≡ len
    long = copied.lawful.len ∙ copied.len_is

    Writes : Writing
    Writes = IsShownAs (own_name src mark) to len (λ k. region_byte src.strokes (from + k))

    writes : Writes to bytes name
    writes = record {
      name_is = ap (λ (who : UnitId). record { who = who; mark = mark }) named;
      address_is = refl;
      long = ap length copied.lawful.read.join ∙ long;
      are = λ k less.
          read_shows src'.place.unit src'.values Read src'.strokes from (from + length copied.lawful.bytes) copy.from.items (same_first false src src' refl only first)
          (omega (arith, long, inside)) copied.lawful.read.touched copied.lawful.read.granted copied.last_read copied.all_read k (omega (arith, less, long))
          ∙ ap (λ (strokes : ℕ → Option (List StrokeValue)). region_byte strokes (from + k)) (λ i p. grows_same (src.strokes p) (src'.strokes p) (none.strokes p) i);
    }

copied_bears : (src src' old new : PortState) (from to len mark : ℕ) (unit : UnitId) (answer : CopyAnswer) → unit ≡ src.place.unit
    → ((e : ℕ) → e < 34 → src.values e ≡ (4096 * e + 3) ∷ []) → from + len ≤ 139264 → LaysNone false src src' → OnlyCopies false src src'
    → IfCopied answer (Copies false src' old new from to len (record { who = unit; mark = mark })) → OnRefused answer (LaysNone false old new) → OnlyCopies false old new
    → BearsWithin (IsShownAs (own_name src mark) to len (λ k. region_byte src.strokes (from + k))) (known_in old) (known_in new)
copied_bears src src' old new from to len mark unit (copies.Copied copy) named first inside none only copied refused rest =
    laid_bears src src' old new from to len mark unit copy named first inside none only copied rest
copied_bears src src' old new from to len mark unit copies.Parameter named first inside none only copied refused rest = unlaid_bears _ old new refused rest
copied_bears src src' old new from to len mark unit (copies.SourceParm fault) named first inside none only copied refused rest = unlaid_bears _ old new refused rest
copied_bears src src' old new from to len mark unit (copies.DestParm fault) named first inside none only copied refused rest = unlaid_bears _ old new refused rest
copied_bears src src' old new from to len mark unit (copies.Busy page word) named first inside none only copied refused rest = unlaid_bears _ old new refused rest
copied_bears src src' old new from to len mark unit copies.NoMemory named first inside none only copied refused rest = unlaid_bears _ old new refused rest

pub copy_bears : (own_shared shared : Bool) (src src' old new : PortState) (from to len mark : ℕ) (unit : UnitId) (answer : CopyAnswer) → own_shared ≡ false → unit ≡ src.place.unit
    → ((e : ℕ) → e < 34 → src.values e ≡ (4096 * e + 3) ∷ []) → from + len ≤ 139264 → LaysNone own_shared src src' → OnlyCopies own_shared src src'
    → IfCopied answer (Copies shared src' old new from to len (record { who = unit; mark = mark })) → OnRefused answer (LaysNone shared old new) → OnlyCopies shared old new
    → BearsIn (IsShownAs (own_name src mark) to len (λ k. region_byte src.strokes (from + k)))
    (cond shared None (Some (known_in old))) (cond shared None (Some (known_in new)))
copy_bears true shared src src' old new from to len mark unit answer alone named first inside none only copied refused rest = absurd (cc (alone))
copy_bears false true src src' old new from to len mark unit answer alone named first inside none only copied refused rest = tt
copy_bears false false src src' old new from to len mark unit answer alone named first inside none only copied refused rest =
    copied_bears src src' old new from to len mark unit answer named first inside none only copied refused rest
