-- The bytes of a page, place by place.
use Rattle.std.proofs.Common.{◌≡◌, ℕ, ◌+◌, ◌-◌, ◌≤◌, ◌<◌, ◌⊎◌, inl, inr, List, [], ◌∷◌, ◌++◌, length, take, drop, get_or, fold, refl, ap, sym, ◌∙◌, arith, length-append, length-drop}
use Rattle.std.proofs.lemmas.List.{length-take-le, get_or_append_left, get_or-append-add, get_or-take, get_or-drop}
use Rattle.std.proofs.lemmas.Bool.{cases_lt}
use Rattle.std.proofs.lemmas.Bool.Decides.{nat_tests}
use Rattle.page_slots.specs.Stroke.{StrokeValue, IsWithinPage}
use Rattle.page_slots.specs.Page.{overwritten, covered, AreWithinPage}

pub length-overwritten : (page : List ℕ) (stroke : StrokeValue) → length page ≡ 4096 → IsWithinPage stroke → length (overwritten page stroke) ≡ 4096
length-overwritten page s e h =
    omega (arith, length-append (take s.offset page ++ s.bytes) (drop (s.offset + length s.bytes) page), length-append (take s.offset page) s.bytes, length-take-le s.offset page (omega arith), length-drop (s.offset + length s.bytes) page)

-- a place before the stroke, in it, and behind it
before : (page : List ℕ) (s : StrokeValue) (k : ℕ) → length page ≡ 4096 → IsWithinPage s → k < s.offset → get_or (overwritten page s) k 0 ≡ get_or page k 0
before page s k e h lt =
    let front : length (take s.offset page) ≡ s.offset = length-take-le s.offset page (omega arith) in
    get_or_append_left (take s.offset page ++ s.bytes) _ 0 k (omega (arith, length-append (take s.offset page) s.bytes))
    ∙ get_or_append_left (take s.offset page) s.bytes 0 k (omega arith)
    ∙ get_or-take s.offset page k 0 lt

inside : (page : List ℕ) (s : StrokeValue) (j : ℕ) → length page ≡ 4096 → IsWithinPage s → j < length s.bytes → get_or (overwritten page s) (s.offset + j) 0 ≡ get_or s.bytes j 0
inside page s j e h lt =
    let front : length (take s.offset page) ≡ s.offset = length-take-le s.offset page (omega arith) in
    get_or_append_left (take s.offset page ++ s.bytes) _ 0 (s.offset + j) (omega (arith, length-append (take s.offset page) s.bytes))
    ∙ ap (λ (n : ℕ). get_or (take s.offset page ++ s.bytes) (n + j) 0) (sym front)
    ∙ get_or-append-add (take s.offset page) s.bytes j 0

behind : (page : List ℕ) (s : StrokeValue) (j : ℕ) → length page ≡ 4096 → IsWithinPage s → get_or (overwritten page s) (s.offset + length s.bytes + j) 0 ≡ get_or page (s.offset + length s.bytes + j) 0
behind page s j e h =
    let front : length (take s.offset page ++ s.bytes) ≡ s.offset + length s.bytes = omega (arith, length-append (take s.offset page) s.bytes, length-take-le s.offset page (omega arith)) in
    ap (λ (n : ℕ). get_or (overwritten page s) (n + j) 0) (sym front)
    ∙ get_or-append-add (take s.offset page ++ s.bytes) (drop (s.offset + length s.bytes) page) j 0
    ∙ get_or-drop (s.offset + length s.bytes) page j 0

from_offset : (page : List ℕ) (s : StrokeValue) (k : ℕ) → length page ≡ 4096 → IsWithinPage s → s.offset ≤ k → (k < s.offset + length s.bytes) ⊎ (s.offset + length s.bytes ≤ k) → get_or (overwritten page s) k 0 ≡ covered k (get_or page k 0) s
from_offset page s k e h ge (inl lt) =
    let at : k ≡ s.offset + (k - s.offset) = omega arith in
    let there : get_or (overwritten page s) k 0 ≡ get_or s.bytes (k - s.offset) 0 =
    ap (λ (n : ℕ). get_or (overwritten page s) n 0) at ∙ inside page s (k - s.offset) e h (omega arith)
    in
    there ∙ grind (arith, nat_tests)
from_offset page s k e h ge (inr past) =
    let at : k ≡ s.offset + length s.bytes + (k - (s.offset + length s.bytes)) = omega arith in
    let there : get_or (overwritten page s) k 0 ≡ get_or page k 0 =
    ap (λ (n : ℕ). get_or (overwritten page s) n 0) at
    ∙ behind page s (k - (s.offset + length s.bytes)) e h
    ∙ ap (λ (n : ℕ). get_or page n 0) (sym at)
    in
    there ∙ grind (arith, nat_tests)

by_place : (page : List ℕ) (s : StrokeValue) (k : ℕ) → length page ≡ 4096 → IsWithinPage s → (k < s.offset) ⊎ (s.offset ≤ k) → get_or (overwritten page s) k 0 ≡ covered k (get_or page k 0) s
by_place page s k e h (inl lt) = before page s k e h lt ∙ grind (arith, nat_tests)
by_place page s k e h (inr ge) = from_offset page s k e h ge (cases_lt k (s.offset + length s.bytes))

pub byte-overwritten : (page : List ℕ) (s : StrokeValue) (k : ℕ) → length page ≡ 4096 → IsWithinPage s → get_or (overwritten page s) k 0 ≡ covered k (get_or page k 0) s
byte-overwritten page s k e h = by_place page s k e h (cases_lt k s.offset)

pub size : (page : List ℕ) (strokes : List StrokeValue) → length page ≡ 4096 → AreWithinPage strokes → length (fold overwritten page strokes) ≡ 4096
size page [] e h = e
size page (s ∷ strokes) e h = size (overwritten page s) strokes (length-overwritten page s e h.0) h.1

pub byte : (page : List ℕ) (strokes : List StrokeValue) (k : ℕ) → length page ≡ 4096 → AreWithinPage strokes → get_or (fold overwritten page strokes) k 0 ≡ fold (covered k) (get_or page k 0) strokes
byte page [] k e h = refl
byte page (s ∷ strokes) k e h =
    byte (overwritten page s) strokes k (length-overwritten page s e h.0) h.1
    ∙ ap (λ (b : ℕ). fold (covered k) b strokes) (byte-overwritten page s k e h.0)
