-- The lines of a text are not many, and one line more of them was read.
use Rattle.std.proofs.Common.{◌≡◌, ◌≤◌, ◌==◌, ℕ, ◌+◌, ◌-◌, if◌then◌else◌, ◌∷◌, List, Bool, true, false, arith, ap, sym, ◌∙◌, length, take}
use Rattle.std.specs.Io.BufRead.{strip_last, ends_with_byte}
use Rattle.std.proofs.lemmas.List.{length-take}
use Rattle.std.proofs.lemmas.List.Sums.{count_by-le-length}
use Rattle.std.proofs.lemmas.List.Splits.{length-slice_split}
use Rattle.boot_text.specs.declared.cause.Cause.{Cause}
use Rattle.boot_text.specs.BootText.{Reading, refused, judge, goes_on, read_from}
use Rattle.boot_text.specs.Said.{good, bad}
use Rattle.boot_text.specs.SoFar.{SoFar}
use Rattle.boot_text.specs.Words.{lines_of}

-- a text without the line feed at its end is no longer
stripped : (xs : List ℕ) → length (strip_last 10 xs) ≤ length xs
stripped xs = elim (ends_with_byte 10 xs) as (λ (b : Bool). length (if b then take (length xs - 1) xs else xs) ≤ length xs) [
  | true ↦ omega (arith, length-take (length xs - 1) xs)
  | false ↦ omega arith
]

pub few_lines : (text : List ℕ) → length (lines_of text) ≤ length text + 1
few_lines text =
    omega (arith, stripped text, length-slice_split (λ b. b == 10) (strip_last 10 text), count_by-le-length (λ b. b == 10) (strip_last 10 text))

-- behind a line that is not wrong stands what the lines after it say
pub line_good : (number : ℕ) (s s' : SoFar) (line : List ℕ) (lines : List (List ℕ)) (whole : Reading)
    → judge number s line ≡ good s' → read_from number s (line ∷ lines) ≡ whole → read_from (number + 1) s' lines ≡ whole
line_good number s s' line lines whole h left = sym (ap (goes_on number (λ t. read_from (number + 1) t lines)) h) ∙ left

-- and a line that is wrong is the first
pub line_bad : (number : ℕ) (s : SoFar) (cause : Cause) (line : List ℕ) (lines : List (List ℕ)) (whole : Reading)
    → judge number s line ≡ bad cause → read_from number s (line ∷ lines) ≡ whole → whole ≡ refused number cause
line_bad number s cause line lines whole h left = sym left ∙ ap (goes_on number (λ t. read_from (number + 1) t lines)) h
