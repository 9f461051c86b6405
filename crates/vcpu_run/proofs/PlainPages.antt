-- What a page shows: what its strokes left from a place on, whatever was laid elsewhere on it.
use Rattle.std.proofs.Common.{◌≡◌, ◌∙◌, ◌⊎◌, inl, inr, ℕ, ◌+◌, ◌-◌, ◌≤◌, ◌++◌, All, List, [], ◌∷◌, Option, Some, None, IsSome, append_assoc, drop, fold, length, length-append, length-drop, length-take, length-take-le, refl, sym, take, take-append-drop, ap, arith}
use Rattle.std.proofs.lemmas.List.{drop-append-le, drop-drop, drop_at, take-append-le, take_at}
use Rattle.std.proofs.lemmas.List.Elements.{All-head, All-tail}
use Rattle.page_slots.specs.Page.{left_by, overwritten, replaced, zeros}
use Rattle.page_slots.specs.Stroke.{StrokeValue}
use Rattle.page_slots.proofs.Laws.{left_by-push, length-zeros}
use Rattle.vcpu_run.specs.PlainTalk.{shown_on}

-- ---- pages

-- a stroke makes no page shorter
pub grows_on : (page : List ℕ) (stroke : StrokeValue) → 4096 ≤ length page → 4096 ≤ length (overwritten page stroke)
grows_on page s long =
    omega (
      arith,
      long,
      length-append (take s.offset page ++ s.bytes) (drop (s.offset + length s.bytes) page),
      length-append (take s.offset page) s.bytes,
      length-take s.offset page,
      length-drop (s.offset + length s.bytes) page,
    )

all_long : (page : List ℕ) (strokes : List StrokeValue) → 4096 ≤ length page → 4096 ≤ length (fold overwritten page strokes)
all_long page [] long = long
all_long page (s ∷ strokes) long = all_long (overwritten page s) strokes (grows_on page s long)

pub left_long : (strokes : List StrokeValue) → 4096 ≤ length (left_by strokes)
left_long strokes = all_long zeros strokes (omega (arith, length-zeros))

-- what was just written shows
shows : (page bytes : List ℕ) (offset : ℕ) → offset ≤ length page → take (length bytes) (drop offset (replaced page offset bytes)) ≡ bytes
shows page bytes offset inside =
    ap (λ list. take (length bytes) (drop offset list)) (append_assoc (take offset page) bytes (drop (offset + length bytes) page))
    ∙ ap (take (length bytes)) (drop_at (take offset page) (bytes ++ drop (offset + length bytes) page) offset (length-take-le offset page inside))
    ∙ take_at bytes (drop (offset + length bytes) page) (length bytes) refl

-- a stroke touches none of so many bytes of a page, from a place on
pub record IsApart (start count : ℕ) (s : StrokeValue) : Type 0 where
  pub within : s.offset + length s.bytes ≤ 4096
  pub apart : (s.offset + length s.bytes ≤ start) ⊎ (start + count ≤ s.offset)

apart_one : (page : List ℕ) (s : StrokeValue) (start count : ℕ) → 4096 ≤ length page → start + count ≤ 4096 → IsApart start count s
    → take count (drop start (overwritten page s)) ≡ take count (drop start page)
apart_one page s start count long inside is = by is.apart
  where
    front : List ℕ
    front = take s.offset page

    front_long : length front ≡ s.offset
    front_long = length-take-le s.offset page (omega (arith, long, is.within))

    rest : List ℕ
    rest = drop (s.offset + length s.bytes) page

    -- the bytes before the stroke, whatever is behind them
    early : (more : List ℕ) → start + count ≤ s.offset → take count (drop start (front ++ more)) ≡ take count (drop start front)
    early more before =
        ap (take count) (drop-append-le start front more (omega (arith, before, front_long)))
        ∙ take-append-le count (drop start front) more (omega (arith, before, front_long, length-drop start front))

    by : (s.offset + length s.bytes ≤ start) ⊎ (start + count ≤ s.offset) → take count (drop start (overwritten page s)) ≡ take count (drop start page)
    by (inr before) =
        ap (λ list. take count (drop start list)) (append_assoc front s.bytes rest) ∙ early (s.bytes ++ rest) before
        ∙ sym (ap (λ list. take count (drop start list)) (sym (take-append-drop s.offset page)) ∙ early (drop s.offset page) before)
    by (inl behind) =
        ap (take count)
        (ap (λ (n : ℕ). drop n (front ++ s.bytes ++ rest)) there
        ∙ sym (drop-drop left (length (front ++ s.bytes)) (front ++ s.bytes ++ rest))
        ∙ ap (drop left) (drop_at (front ++ s.bytes) rest (length (front ++ s.bytes)) refl)
        ∙ drop-drop left (s.offset + length s.bytes) page
        ∙ ap (λ (n : ℕ). drop n page) (omega (arith, behind)))
      where
        left : ℕ
        left = start - (s.offset + length s.bytes)

        there : start ≡ length (front ++ s.bytes) + left
        there = omega (arith, behind, front_long, length-append front s.bytes)

apart_all : (page : List ℕ) (strokes : List StrokeValue) (start count : ℕ) → 4096 ≤ length page → start + count ≤ 4096 → All (IsApart start count) strokes
    → take count (drop start (fold overwritten page strokes)) ≡ take count (drop start page)
apart_all page [] start count long inside all = refl
apart_all page (s ∷ strokes) start count long inside all =
    apart_all (overwritten page s) strokes start count (grows_on page s long) inside (All-tail (IsApart start count) s strokes all)
    ∙ apart_one page s start count long inside (All-head (IsApart start count) s strokes all)

fold_more : (page : List ℕ) (xs ys : List StrokeValue) → fold overwritten page (xs ++ ys) ≡ fold overwritten (fold overwritten page xs) ys
fold_more page [] ys = refl
fold_more page (x ∷ xs) ys = fold_more (overwritten page x) xs ys

-- ---- what a window shows

pub shown_long : (strokes : Option (List StrokeValue)) (start count : ℕ) → IsSome strokes → start + count ≤ 4096 → length (shown_on strokes start count) ≡ count
shown_long None start count there inside = absurd (cc (there))
shown_long (Some strokes) start count there inside =
    omega (arith, inside, left_long strokes, length-take count (drop start (left_by strokes)), length-drop start (left_by strokes))

-- strokes that touch none of it change none of it
pub shown_apart : (strokes more : List StrokeValue) (start count : ℕ) → start + count ≤ 4096 → All (IsApart start count) more
    → shown_on (Some (strokes ++ more)) start count ≡ shown_on (Some strokes) start count
shown_apart strokes more start count inside apart =
    ap (λ list. take count (drop start list)) (fold_more zeros strokes more) ∙ apart_all (left_by strokes) more start count (left_long strokes) inside apart

-- a stroke that was laid last shows
pub shown_last : (strokes : List StrokeValue) (stroke : StrokeValue) → stroke.offset ≤ 4096
    → shown_on (Some (strokes ++ stroke ∷ [])) stroke.offset (length stroke.bytes) ≡ stroke.bytes
shown_last strokes stroke inside =
    ap (λ list. take (length stroke.bytes) (drop stroke.offset list)) (left_by-push strokes stroke)
    ∙ shows (left_by strokes) stroke.bytes stroke.offset (omega (arith, inside, left_long strokes))
