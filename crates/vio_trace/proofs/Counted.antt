-- The number of a line, and the place at which it begins.
use Rattle.std.proofs.Common.{ltb, ◌≡◌, ◌<◌, ◌≤◌, ◌+◌, ◌-◌, ◌==◌, if◌then◌else◌, ℕ, Bool, true, false, List, [], ◌∷◌, ◌++◌, length, slice_index, take, drop, refl, ap, ◌∙◌, add-one, arith}
use Rattle.std.proofs.Math.Seq.{take-suc}
use Rattle.std.proofs.lemmas.Bool.{ltb-false, ltb-true, ne_eqb}
use Rattle.std.proofs.lemmas.List.{length-drop, take-append-drop}
use Rattle.vio_trace.specs.declared.read.TraceFault.TheVariants as trace_faults
use Rattle.vio_trace.specs.Form.{IsNoText}
use Rattle.vio_trace.specs.Shared.{NoneHasLines, NoneShares, SharesLine, SharesLines, line_ends}
use Rattle.vio_trace.proofs.Sharing.{twice}

pub ends_append : (xs ys : List ℕ) → line_ends (xs ++ ys) ≡ line_ends xs + line_ends ys
ends_append [] ys = omega arith
ends_append (x ∷ xs) ys = at (ends_append xs ys) (x == 10) where
  at : line_ends (xs ++ ys) ≡ line_ends xs + line_ends ys → (b : Bool)
      → (if b then 1 + line_ends (xs ++ ys) else line_ends (xs ++ ys)) ≡ (if b then 1 + line_ends xs else line_ends xs) + line_ends ys
  at e true = omega (arith, e)
  at e false = e

-- what a byte adds
pub ends_one : (byte : ℕ) → byte ≡ 10 → line_ends (byte ∷ []) ≡ 1
ends_one byte e = ap (λ (b : ℕ). line_ends (b ∷ [])) e

pub ends_none : (byte : ℕ) → ¬ (byte ≡ 10) → line_ends (byte ∷ []) ≡ 0
ends_none byte other = ap (λ (b : Bool). if b then 1 + 0 else 0) (ne_eqb byte 10 other)

pub ends_few : (byte : ℕ) → line_ends (byte ∷ []) ≤ 1
ends_few byte = at (byte == 10) where
  at : (b : Bool) → (if b then 1 + 0 else 0) ≤ 1
  at true = omega arith
  at false = omega arith

-- one byte more is behind
pub ends_more : (text : List ℕ) (at : ℕ) → at < length text → line_ends (take (at + 1) text) ≡ line_ends (take at text) + line_ends (slice_index text at ∷ [])
ends_more text at within =
    let next : take (at + 1) text ≡ take at text ++ slice_index text at ∷ [] = rw add-one (take-suc text at 0 within) in
    ap line_ends next ∙ ends_append (take at text) (slice_index text at ∷ [])

-- texts with the same lines up to one share the line at its place
pub lines_shared : (bytes text : List ℕ) (left line : ℕ) → left ≤ length bytes → line ≡ line_ends (take (length bytes - left) bytes) + 1
    → SharesLines line bytes text → SharesLine left bytes text
lines_shared bytes text left line n e s = record {
  front = s.front;
  rest = s.rest;
  theirs = s.theirs;
  bytes_are = s.bytes_are;
  other_is = s.other_is;
  past = past;
} where
  past : length s.rest < left
  past = by (ltb (length s.rest) left) refl where
    by : (b : Bool) → ltb (length s.rest) left ≡ b → length s.rest < left
    by true is = ltb-true (length s.rest) left is
    by false is =
        let k = length bytes - left in
        let behind : length (drop k bytes) ≤ length s.rest = omega (arith, length-drop k bytes, n, ltb-false (length s.rest) left is) in
        let t = twice (s.front ++ 10 ∷ []) (take k bytes) (drop k bytes) s.rest (take-append-drop k bytes ∙ s.bytes_are) behind in
        absurd (omega (arith, e, s.lines, ap line_ends t.front_is, ends_append (s.front ++ 10 ∷ []) t.more))

-- where none shares the line at its place, none has the lines up to it
pub none_has : (bytes : List ℕ) (left line : ℕ) → line ≡ line_ends (take (length bytes - left) bytes) + 1 → NoneShares IsNoText bytes left
    → NoneHasLines bytes (trace_faults.Bad line)
none_has bytes left line e bad trace text s h = bad.1 text (lines_shared bytes text left line bad.0 e s) trace h
