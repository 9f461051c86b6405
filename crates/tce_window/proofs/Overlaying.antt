-- Pieces that lie over a range of a region, one on each page, and the strokes of a write over them.
use Rattle.std.proofs.Common.{◌≡◌, ℕ, ◌+◌, ◌-◌, ◌*◌, ◌/◌, ◌%◌, ◌<◌, ◌≤◌, min, Bool, true, false, List, [], ◌∷◌, Option, Some, None, IsSome, All, length, take, drop, cond, refl, sym, ◌∙◌, ap, ap₂, ⊎_elim, slice_range, arith, append-nil}
use Rattle.std.proofs.lemmas.Bool.{cases_lt, eq-eqb, ne_eqb}
use Rattle.std.proofs.lemmas.Bool.Decides.{nat_tests}
use Rattle.std.proofs.lemmas.List.{length-drop, drop-drop}
use Rattle.std.proofs.lemmas.List.Elements.{All-nil, All-cons}
use Rattle.page_slots.specs.Stroke.{StrokeValue}
use Rattle.page_slots.specs.declared.stroke.StrokeName.{StrokeName}
use Rattle.tce_window.specs.declared.piece.Piece.{Piece}
use Rattle.tce_window.specs.Held.{held_len}
use Rattle.tce_window.specs.Laying.{LieOver}
use Rattle.tce_window.specs.Moved.{piece_strokes, strokes_on}
use Rattle.tce_window.specs.Region.{touches, stroke_on, written}
use Rattle.tce_window.specs.Strokes.{with_strokes}
use Rattle.tce_window.proofs.Values.{by_number}

-- the pieces have as many bytes as the range
pub over_len : (from to : ℕ) (pieces : List Piece) → LieOver from to pieces → from + held_len pieces ≡ to
over_len from to [] h = omega (arith, h)
over_len from to (piece ∷ pieces) h = omega (arith, over_len (from + piece.len) to pieces h.4)

-- and lie on the pages that it touches
pub over_there : (strokes : ℕ → Option (List StrokeValue)) (from to : ℕ) (pieces : List Piece) → LieOver from to pieces
    → ((p : ℕ) → from / 4096 ≤ p → p * 4096 < to → IsSome (strokes p)) → All (λ piece. IsSome (strokes piece.page)) pieces
over_there strokes from to [] h there = All-nil (λ piece. IsSome (strokes piece.page))
over_there strokes from to (piece ∷ pieces) h there =
    All-cons (λ piece. IsSome (strokes piece.page)) piece pieces
    (there piece.page (omega (arith, h.1)) (omega (arith, h.0, h.1)))
    (over_there strokes (from + piece.len) to pieces h.4 (λ p low high. there p (omega (arith, low)) high))

-- a range that touches a page, and one that does not
is_touched : (from len p : ℕ) → from / 4096 ≤ p → p < (from + len + 4095) / 4096 → touches from len p ≡ true
is_touched from len p low high = grind (arith, nat_tests)

is_before : (from len p : ℕ) → p < from / 4096 → touches from len p ≡ false
is_before from len p low = grind (arith, nat_tests)

is_behind : (from len p : ℕ) → (from + len + 4095) / 4096 ≤ p → touches from len p ≡ false
is_behind from len p high = grind (arith, nat_tests)

-- the strokes of a range on page p: one, where it touches the page
abbrev pub on_touched : StrokeName → (from : ℕ) → (bytes : List ℕ) → (p : ℕ) → List StrokeValue
on_touched name from bytes p = cond (touches from (length bytes) p) (stroke_on name from bytes p ∷ []) []

-- the first stroke is that of its page
first_is : (name : StrokeName) (from to offset len : ℕ) (bytes : List ℕ) → offset ≡ from % 4096 → len ≡ min (to - from) (4096 - from % 4096) → from + length bytes ≡ to
    → ◌≡◌ {A = StrokeValue} (record { name = name; offset = offset; bytes = take len bytes }) (stroke_on name from bytes (from / 4096))
first_is name from to offset len bytes at size long =
    let start : 4096 * (from / 4096) - from ≡ 0 = omega arith in
    let end : min (4096 * (from / 4096 + 1) - from) (length bytes) ≡ len = omega (arith, size, long) in
    let whole : len - 0 ≡ len = omega arith in
    let place : from - 4096 * (from / 4096) ≡ offset = omega (arith, at) in
    let part : slice_range bytes (4096 * (from / 4096) - from) (min (4096 * (from / 4096 + 1) - from) (length bytes)) ≡ take len bytes = ap₂ (slice_range bytes) start end ∙ ap (λ n. take n bytes) whole in
    sym (ap₂ (λ o b. record { name = name; offset = o; bytes = b }) place part)

-- a later one is the same of the bytes that are left
later_is : (name : StrokeName) (from k p : ℕ) (bytes : List ℕ) → k ≤ length bytes → from + k ≤ 4096 * p
    → stroke_on name (from + k) (drop k bytes) p ≡ stroke_on name from bytes p
later_is name from k p bytes within behind =
    let left : length (drop k bytes) ≡ length bytes - k = length-drop k bytes in
    let place : from + k - 4096 * p ≡ from - 4096 * p = omega (arith, behind) in
    let start : k + (4096 * p - (from + k)) ≡ 4096 * p - from = omega (arith, behind) in
    let count : min (4096 * (p + 1) - (from + k)) (length (drop k bytes)) - (4096 * p - (from + k)) ≡ min (4096 * (p + 1) - from) (length bytes) - (4096 * p - from) = omega (arith, behind, left, within) in
    ap₂ (λ o b. record { name = name; offset = o; bytes = b }) place
    (ap (take (min (4096 * (p + 1) - (from + k)) (length (drop k bytes)) - (4096 * p - (from + k)))) (drop-drop (4096 * p - (from + k)) k bytes)
    ∙ ap₂ (λ n m. take n (drop m bytes)) count start)

-- and the pages that are touched then are the others that were
touched_later : (from n k p : ℕ) → k ≤ n → (from + k) % 4096 ≡ 0 → (from + k) / 4096 ≡ from / 4096 + 1 → (from / 4096 ≡ p → ⊥)
    → touches (from + k) (n - k) p ≡ touches from n p
touched_later from n k p within whole next other =
    ⊎_elim
    (λ low. is_before (from + k) (n - k) p (omega (arith, low, next)) ∙ sym (is_before from n p low))
    (λ ge. ⊎_elim
    (λ below.
    let behind : from / 4096 < p = ⊎_elim (λ lt. lt) (λ le. absurd (other (omega (arith, ge, le)))) (cases_lt (from / 4096) p) in
    is_touched (from + k) (n - k) p (omega (arith, behind, next)) (omega (arith, below, within)) ∙ sym (is_touched from n p ge below))
    (λ past. is_behind (from + k) (n - k) p (omega (arith, past, within)) ∙ sym (is_behind from n p past))
    (cases_lt p ((from + n + 4095) / 4096)))
    (cases_lt p (from / 4096))

some_on : (name : StrokeName) (from p : ℕ) (bytes : List ℕ) (t : Bool) → touches from (length bytes) p ≡ t → on_touched name from bytes p ≡ cond t (stroke_on name from bytes p ∷ []) []
some_on name from p bytes t e = rw e refl

-- the strokes of a write lie one on each page that it touches
pub over_strokes : (name : StrokeName) (from to : ℕ) (bytes : List ℕ) (pieces : List Piece) (p : ℕ) → LieOver from to pieces → from + length bytes ≡ to → 1 ≤ length bytes
    → strokes_on p pieces (piece_strokes name bytes pieces) ≡ on_touched name from bytes p
over_strokes name from to bytes [] p h long some = absurd (omega (arith, h, long, some))
over_strokes name from to bytes (piece ∷ []) p h long some =
    let own : from / 4096 ≡ piece.page = omega (arith, h.1) in
    let short : from % 4096 + length bytes ≤ 4096 = omega (arith, h.3, h.4, long) in
    by_number piece.page p (strokes_on p (piece ∷ []) (piece_strokes name bytes (piece ∷ [])) ≡ on_touched name from bytes p)
    (λ same.
    let here : from / 4096 ≡ p = own ∙ same in
    rw (eq-eqb piece.page p same)
    (ap (λ s. s ∷ []) (first_is name from to piece.offset piece.len bytes h.2 h.3 long ∙ ap (stroke_on name from bytes) here)
    ∙ sym (some_on name from p bytes true (is_touched from (length bytes) p (omega (arith, here)) (omega (arith, here, some))))))
    (λ other.
    rw (ne_eqb piece.page p other)
    (sym (some_on name from p bytes false
    (⊎_elim (λ low. is_before from (length bytes) p low)
    (λ ge. is_behind from (length bytes) p
    (let behind : from / 4096 < p = ⊎_elim (λ lt. lt) (λ le. absurd (other (omega (arith, ge, le, own)))) (cases_lt (from / 4096) p) in omega (arith, behind, short)))
    (cases_lt p (from / 4096))))))
over_strokes name from to bytes (piece ∷ next ∷ rest) p h long some =
    let own : from / 4096 ≡ piece.page = omega (arith, h.1) in
    let k : ℕ = piece.len in
    let left : length (drop k bytes) ≡ length bytes - k = length-drop k bytes in
    let size : k ≡ 4096 - from % 4096 = omega (arith, h.3, h.4.0) in
    let within : k ≤ length bytes = omega (arith, h.4.0, long) in
    let whole : (from + k) % 4096 ≡ 0 = omega (arith, size) in
    let further : (from + k) / 4096 ≡ from / 4096 + 1 = omega (arith, size) in
    let later : strokes_on p (next ∷ rest) (piece_strokes name (drop k bytes) (next ∷ rest)) ≡ on_touched name (from + k) (drop k bytes) p =
    over_strokes name (from + k) to (drop k bytes) (next ∷ rest) p h.4 (omega (arith, left, within, long)) (omega (arith, left, h.4.0, long)) in
    by_number piece.page p (strokes_on p (piece ∷ next ∷ rest) (piece_strokes name bytes (piece ∷ next ∷ rest)) ≡ on_touched name from bytes p)
    (λ same.
    let here : from / 4096 ≡ p = own ∙ same in
    rw (eq-eqb piece.page p same)
    (ap₂ (λ s ss. s ∷ ss)
    (first_is name from to piece.offset piece.len bytes h.2 h.3 long ∙ ap (stroke_on name from bytes) here)
    (later ∙ some_on name (from + k) p (drop k bytes) false (is_before (from + k) (length (drop k bytes)) p (omega (arith, here, further))))
    ∙ sym (some_on name from p bytes true (is_touched from (length bytes) p (omega (arith, here)) (omega (arith, here, some))))))
    (λ other.
    rw (ne_eqb piece.page p other)
    (later ∙ others name from k p bytes within whole further (λ e. other (sym own ∙ e)) left))
  where
    others : (name : StrokeName) (from k p : ℕ) (bytes : List ℕ) → k ≤ length bytes → (from + k) % 4096 ≡ 0 → (from + k) / 4096 ≡ from / 4096 + 1 → (from / 4096 ≡ p → ⊥)
        → length (drop k bytes) ≡ length bytes - k → on_touched name (from + k) (drop k bytes) p ≡ on_touched name from bytes p
    others name from k p bytes within whole further other left =
        let same : touches (from + k) (length (drop k bytes)) p ≡ touches from (length bytes) p = ap (λ n. touches (from + k) n p) left ∙ touched_later from (length bytes) k p within whole further other in
        ⊎_elim
        (λ low.
        let no : touches from (length bytes) p ≡ false = is_before from (length bytes) p low in
        some_on name (from + k) p (drop k bytes) false (same ∙ no) ∙ sym (some_on name from p bytes false no))
        (λ ge.
        let behind : from / 4096 < p = ⊎_elim (λ lt. lt) (λ le. absurd (other (omega (arith, ge, le)))) (cases_lt (from / 4096) p) in
        ap₂ (λ t s. cond t (s ∷ []) []) same (later_is name from k p bytes within (omega (arith, behind, further, whole))))
        (cases_lt p (from / 4096))

-- so the page has what a write leaves on it
pub over_written : (name : StrokeName) (from : ℕ) (bytes : List ℕ) (pieces : List Piece) (p : ℕ) (old : Option (List StrokeValue)) → LieOver from (from + length bytes) pieces → 1 ≤ length bytes
    → with_strokes old (strokes_on p pieces (piece_strokes name bytes pieces)) ≡ written name from bytes p old
over_written name from bytes pieces p old h some =
    ap (with_strokes old) (over_strokes name from (from + length bytes) bytes pieces p h refl some)
    ∙ one_or_none (touches from (length bytes) p) old (stroke_on name from bytes p)
  where
    one_or_none : (t : Bool) (old : Option (List StrokeValue)) (stroke : StrokeValue) → with_strokes old (cond t (stroke ∷ []) []) ≡ cond t (with_strokes old (stroke ∷ [])) old
    one_or_none true old stroke = refl
    one_or_none false (Some s) stroke = ap Some (append-nil s)
    one_or_none false None stroke = refl
