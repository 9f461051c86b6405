-- What is summed up of a range whose last strokes are of one name: where all strokes of that name bear some bytes at their places, it is these.
use Rattle.std.proofs.Common.{◌≡◌, ◌∙◌, ℕ, zero, suc, ◌+◌, ◌-◌, ◌*◌, ◌/◌, ◌%◌, ◌<◌, ◌≤◌, ◌==◌, ◌||◌, nat_le, nat_lt, All, Bool, true, false, true≢false, cond, drop, eqb-true, fold, MatchBool, length, List, [], ◌∷◌, ◌++◌, Option, Some, None, take, refl, sym, ap, subst, arith}
use Rattle.std.proofs.lemmas.Bool.Decides.{nat_tests}
use Rattle.std.proofs.lemmas.List.{ext_get_or, get_or-drop, get_or-take, length-take-le}
use Rattle.std.proofs.lemmas.List.Elements.{All-head, All-tail}
use Rattle.std.specs.List.{list_any, slice_index, sum}
use Rattle.page_slots.specs.Page.{AreWithinPage, covered}
use Rattle.page_slots.proofs.Laws.{last_stroke_shows}
use Rattle.page_slots.specs.Stroke.{StrokeValue}
use Rattle.page_slots.specs.declared.stroke.StrokeName.{StrokeName}
use Rattle.tce_window.specs.Named.{IsFresh, covers, from_place, same_name, to_place}
use Rattle.tce_window.specs.Region.{byte_in, end_page, first_page, touches}
use Rattle.vscsi_client.specs.Transferred.{DataRange}
use Rattle.vscsi_client.specs.declared.TheConstants.{PART_BYTES}
use Rattle.vcpu_run.specs.DataRead.{AreBothRead, IsDataRead, IsPartRead}
use Rattle.vcpu_run.specs.LinesShow.{Seen}

-- what a stroke of the name has at place k of its page
abbrev HasAt : StrokeName → (k value : ℕ) → StrokeValue → Type 0
HasAt name k value s = same_name s.name name ≡ true → covers k s ≡ true → slice_index s.bytes (k - s.offset) ≡ value

abbrev run_step : StrokeName → List StrokeValue → StrokeValue → List StrokeValue
run_step name run s = cond (same_name s.name name) (run ++ s ∷ []) []

any_push : (k : ℕ) (run : List StrokeValue) (s : StrokeValue) → covers k s ≡ false → list_any (covers k) (run ++ s ∷ []) ≡ true → list_any (covers k) run ≡ true
any_push k [] s none is = absurd (true≢false (sym is ∙ ap (λ b. b || false) none))
any_push k (r ∷ run) s none is = by (any_push k run s none) (covers k r) is
  where
    by : (list_any (covers k) (run ++ s ∷ []) ≡ true → list_any (covers k) run ≡ true) → (b : Bool) → (b || list_any (covers k) (run ++ s ∷ [])) ≡ true → (b || list_any (covers k) run) ≡ true
    by rest true h = refl
    by rest false h = rest h

-- one stroke more
one_more : (name : StrokeName) (k value b : ℕ) (run : List StrokeValue) (s : StrokeValue) → HasAt name k value s → (list_any (covers k) run ≡ true → b ≡ value)
    → list_any (covers k) (run_step name run s) ≡ true → covered k b s ≡ value
one_more name k value b run s has before is = by (same_name s.name name) refl (covers k s) refl is
  where
    by : (same : Bool) → same_name s.name name ≡ same → (cov : Bool) → covers k s ≡ cov → list_any (covers k) (cond same (run ++ s ∷ []) []) ≡ true
        → cond cov (slice_index s.bytes (k - s.offset)) b ≡ value
    by false e cov c h = absurd (true≢false (sym h))
    by true e true c h = has e c
    by true e false c h = before (any_push k run s c h)

last_byte : (name : StrokeName) (k value b : ℕ) (run strokes : List StrokeValue) → All (HasAt name k value) strokes → (list_any (covers k) run ≡ true → b ≡ value)
    → list_any (covers k) (fold (run_step name) run strokes) ≡ true → fold (covered k) b strokes ≡ value
last_byte name k value b run [] all before is = before is
last_byte name k value b run (s ∷ strokes) all before is =
    last_byte name k value (covered k b s) (run_step name run s) strokes (All-tail (HasAt name k value) s strokes all)
    (one_more name k value b run s (All-head (HasAt name k value) s strokes all) before) is

-- what is so of each place that a stroke of the name covers is so of one that the last of them cover
abbrev IsSoAt : StrokeName → (k : ℕ) → Type 0 → StrokeValue → Type 0
IsSoAt name k Q s = same_name s.name name ≡ true → covers k s ≡ true → Q

one_so : (name : StrokeName) (k : ℕ) (Q : Type 0) (run : List StrokeValue) (s : StrokeValue) → IsSoAt name k Q s → (list_any (covers k) run ≡ true → Q)
    → list_any (covers k) (run_step name run s) ≡ true → Q
one_so name k Q run s has before is = by (same_name s.name name) refl (covers k s) refl is
  where
    by : (same : Bool) → same_name s.name name ≡ same → (cov : Bool) → covers k s ≡ cov → list_any (covers k) (cond same (run ++ s ∷ []) []) ≡ true → Q
    by false e cov c h = absurd (true≢false (sym h))
    by true e true c h = has e c
    by true e false c h = before (any_push k run s c h)

last_so : (name : StrokeName) (k : ℕ) (Q : Type 0) (run strokes : List StrokeValue) → All (IsSoAt name k Q) strokes → (list_any (covers k) run ≡ true → Q)
    → list_any (covers k) (fold (run_step name) run strokes) ≡ true → Q
last_so name k Q run [] all before is = before is
last_so name k Q run (s ∷ strokes) all before is =
    last_so name k Q (run_step name run s) strokes (All-tail (IsSoAt name k Q) s strokes all) (one_so name k Q run s (All-head (IsSoAt name k Q) s strokes all) before) is

-- The strokes lie within their page; those of the name have there what h gives, and none lies from this address on.
pub record Bear (name : StrokeName) (h : ℕ → ℕ) (end page : ℕ) (strokes : List StrokeValue) : Type 0 where
  pub within : AreWithinPage strokes
  pub bytes : (k : ℕ) → All (HasAt name k (h (4096 * page + k))) strokes
  pub inside : (k : ℕ) → All (IsSoAt name k (4096 * page + k < end)) strokes

page_byte : (name : StrokeName) (h : ℕ → ℕ) (end page from to k : ℕ) (strokes : Option (List StrokeValue)) → ((list : List StrokeValue) → strokes ≡ Some list → Bear name h end page list)
    → IsFresh name from to strokes → from ≤ k → k < to → k < 4096 → byte_in strokes k ≡ h (4096 * page + k)
page_byte name h end page from to k None bear fresh low high less = absurd fresh
page_byte name h end page from to k (Some strokes) bear fresh low high less =
    let is : Bear name h end page strokes = bear strokes refl in
    last_stroke_shows strokes is.within k less
    ∙ last_byte name k (h (4096 * page + k)) 0 [] strokes (is.bytes k) (λ none. absurd (true≢false (sym none))) (fresh k low high)

page_inside : (name : StrokeName) (h : ℕ → ℕ) (end page from to k : ℕ) (strokes : Option (List StrokeValue)) → ((list : List StrokeValue) → strokes ≡ Some list → Bear name h end page list)
    → IsFresh name from to strokes → from ≤ k → k < to → 4096 * page + k < end
page_inside name h end page from to k None bear fresh low high = absurd fresh
page_inside name h end page from to k (Some strokes) bear fresh low high =
    let is : Bear name h end page strokes = bear strokes refl in
    last_so name k (4096 * page + k < end) [] strokes (is.inside k) (λ none. absurd (true≢false (sym none))) (fresh k low high)

is_touched : (from n p : ℕ) → from / 4096 ≤ p → p < (from + n + 4095) / 4096 → touches from n p ≡ true
is_touched from n p low high = grind (arith, nat_tests)

-- Each byte that was read is what h gives at its address, which is below the end.
record BearsAt (h : ℕ → ℕ) (end address byte : ℕ) : Type 0 where
  value : byte ≡ h address
  below : address < end

part_bears : (seen : Seen) (name : StrokeName) (h : ℕ → ℕ) (end at len : ℕ) (bytes : List ℕ)
    → ((page : ℕ) (front : List StrokeValue) → touches at len page ≡ true → seen.front_at page (Some front) → Bear name h end page front) → IsPartRead seen name at len bytes
    → (k : ℕ) → k < len → BearsAt h end (at + k) (slice_index bytes k)
part_bears seen name h end at len bytes bear is k less = record {
  value = is.read k less
      ∙ page_byte name h end page (from_place at page) (to_place at len page) place (is.fronts page) front (is.fresh page first last) (omega arith) (omega (arith, less)) (omega arith)
      ∙ ap h (omega arith);
  below =
      let low : from_place at page ≤ place = omega arith in
      let high : place < to_place at len page = omega (arith, less) in
      let found : 4096 * page + place < end = page_inside name h end page (from_place at page) (to_place at len page) place (is.fronts page) front (is.fresh page first last) low high in
      omega (arith, found);
}
  where
    page : ℕ
    page = (at + k) / 4096

    place : ℕ
    place = (at + k) % 4096

    first : first_page at ≤ (at + k) / 4096
    first = omega arith

    last : (at + k) / 4096 < end_page at len
    last = omega (arith, less)

    touched : touches at len ((at + k) / 4096) ≡ true
    touched = is_touched at len ((at + k) / 4096) first last

    front : (list : List StrokeValue) → is.fronts ((at + k) / 4096) ≡ Some list → Bear name h end ((at + k) / 4096) list
    front list there = bear ((at + k) / 4096) list touched (subst (seen.front_at ((at + k) / 4096)) there (is.there ((at + k) / 4096) touched))

-- ---- the whole range

-- The strokes of the name in a range bear these bytes, each at its place from the range's start on.
abbrev pub BearAll : Seen → StrokeName → DataRange → List ℕ → Type 0
BearAll seen name range inn = (page : ℕ) (front : List StrokeValue) → touches range.at range.len page ≡ true → seen.front_at page (Some front)
    → Bear name (λ a. slice_index inn (a - range.at)) (range.at + length inn) page front

-- All that was read is this.
record Reads (inn bytes : List ℕ) (len : ℕ) : Type 0 where
  each : (k : ℕ) → k < len → slice_index bytes k ≡ slice_index inn k
  few : (k : ℕ) → k < len → k < length inn

whole_read : (seen : Seen) (name : StrokeName) (range : DataRange) (inn bytes : List ℕ) → BearAll seen name range inn → IsPartRead seen name range.at range.len bytes → Reads inn bytes range.len
whole_read seen name range inn bytes bear is = record {
  each = λ k less. (at k less).value ∙ ap (slice_index inn) (omega arith);
  few = λ k less. let below = (at k less).below in omega (arith, below);
}
  where
    at : (k : ℕ) → k < range.len → BearsAt (λ a. slice_index inn (a - range.at)) (range.at + length inn) (range.at + k) (slice_index bytes k)
    at k less = part_bears seen name (λ a. slice_index inn (a - range.at)) (range.at + length inn) range.at range.len bytes bear is k less

both_read : (seen : Seen) (name : StrokeName) (range : DataRange) (inn bytes : List ℕ) → BearAll seen name range inn → PART_BYTES < range.len → AreBothRead seen name range bytes → Reads inn bytes range.len
both_read seen name range inn bytes bear long is = record { each = λ k less. each k less (nat_lt k PART_BYTES) refl; few = λ k less. few k less (nat_lt k PART_BYTES) refl }
  where
    low : (page : ℕ) → touches range.at PART_BYTES page ≡ true → touches range.at range.len page ≡ true
    low page is = grind (arith, nat_tests, is, long)

    high : (page : ℕ) → touches (range.at + PART_BYTES) (range.len - PART_BYTES) page ≡ true → touches range.at range.len page ≡ true
    high page is = grind (arith, nat_tests, is, long)

    front_part : (k : ℕ) → k < PART_BYTES → BearsAt (λ a. slice_index inn (a - range.at)) (range.at + length inn) (range.at + k) (slice_index (take PART_BYTES bytes) k)
    front_part k few = part_bears seen name (λ a. slice_index inn (a - range.at)) (range.at + length inn) range.at PART_BYTES (take PART_BYTES bytes) (λ page front at there. bear page front (low page at) there) is.0 k few

    rest_part : (k : ℕ) → k < range.len - PART_BYTES
        → BearsAt (λ a. slice_index inn (a - range.at)) (range.at + length inn) (range.at + PART_BYTES + k) (slice_index (drop PART_BYTES bytes) k)
    rest_part k within =
        part_bears seen name (λ a. slice_index inn (a - range.at)) (range.at + length inn) (range.at + PART_BYTES) (range.len - PART_BYTES) (drop PART_BYTES bytes)
        (λ page front at there. bear page front (high page at) there) is.1 k within

    each : (k : ℕ) → k < range.len → (b : Bool) → nat_lt k PART_BYTES ≡ b → slice_index bytes k ≡ slice_index inn k
    each k less true e =
        let under : k < PART_BYTES = grind (arith, nat_tests, e) in
        sym (get_or-take PART_BYTES bytes k 0 under) ∙ (front_part k under).value ∙ ap (slice_index inn) (omega arith)
    each k less false e =
        let many : PART_BYTES ≤ k = grind (arith, nat_tests, e) in
        let within : k - PART_BYTES < range.len - PART_BYTES = omega (arith, many, less) in
        let at : PART_BYTES + (k - PART_BYTES) ≡ k = omega (arith, many) in
        sym (get_or-drop PART_BYTES bytes (k - PART_BYTES) 0 ∙ ap (slice_index bytes) at) ∙ (rest_part (k - PART_BYTES) within).value ∙ ap (slice_index inn) (omega (arith, many))

    few : (k : ℕ) → k < range.len → (b : Bool) → nat_lt k PART_BYTES ≡ b → k < length inn
    few k less true e =
        let under : k < PART_BYTES = grind (arith, nat_tests, e) in
        let below = (front_part k under).below in
        omega (arith, below)
    few k less false e =
        let many : PART_BYTES ≤ k = grind (arith, nat_tests, e) in
        let within : k - PART_BYTES < range.len - PART_BYTES = omega (arith, many, less) in
        let below = (rest_part (k - PART_BYTES) within).below in
        omega (arith, below, many)

-- What is said of the data of a range whose strokes bear some bytes: how many of the first of them there are, and their sum.
pub sums_first : (seen : Seen) (name : StrokeName) (range : DataRange) (len total : ℕ) (inn : List ℕ) → BearAll seen name range inn → IsDataRead seen name range len total
    → (len ≤ length inn) × (total ≡ sum (take len inn))
sums_first seen name range len total inn bear is = (
  omega (arith, is.in_range, least range.len refl),
  is.total_is ∙ ap sum same ∙ ap (λ n. sum (take n inn)) (sym is.in_range),
)
  where
    parted : (b : Bool) → nat_le range.len PART_BYTES ≡ b → MatchBool b (IsPartRead seen name range.at range.len is.bytes) (AreBothRead seen name range is.bytes) → Reads inn is.bytes range.len
    parted true e read = whole_read seen name range inn is.bytes bear read
    parted false e read = both_read seen name range inn is.bytes bear (grind (arith, nat_tests, e)) read

    by : (b : Bool) → (range.len == 0) ≡ b
        → MatchBool b (is.bytes ≡ []) (MatchBool (nat_le range.len PART_BYTES) (IsPartRead seen name range.at range.len is.bytes) (AreBothRead seen name range is.bytes)) → Reads inn is.bytes range.len
    by true e read =
        let none : range.len ≡ 0 = eqb-true range.len 0 e in
        record { each = λ k less. absurd (omega (arith, less, none)); few = λ k less. absurd (omega (arith, less, none)) }
    by false e read = parted (nat_le range.len PART_BYTES) refl read

    reads : Reads inn is.bytes range.len
    reads = by (range.len == 0) refl is.read

    least : (n : ℕ) → n ≡ range.len → n ≤ length inn
    least zero e = omega arith
    least (suc n) e = let last = reads.few n (omega (arith, e)) in omega (arith, last)

    long : length (take range.len inn) ≡ range.len
    long = length-take-le range.len inn (least range.len refl)

    same : is.bytes ≡ take range.len inn
    same =
        ext_get_or 0 is.bytes (take range.len inn) (omega (arith, is.len_is, is.in_range, long))
        (λ k less. reads.each k (omega (arith, less, is.len_is, is.in_range)) ∙ sym (get_or-take range.len inn k 0 (omega (arith, less, is.len_is, is.in_range))))
