-- The lines of a text, and the words of a line.
use Rattle.std.specs.Prelude.{ℕ, ◌==◌, Bool, not, List, [], get_or, length}
use Rattle.std.specs.List.{slice_split, filter}
use Rattle.std.specs.Io.BufRead.{strip_last}
use lib.Pointwise.{pointwise}
use lib.Dec.{eqb}

-- the lines of a text: a line feed ends each, and the last may lack it
abbrev pub lines_of : List ℕ → List (List ℕ)
lines_of text = slice_split (λ b. b == 10) (strip_last 10 text)

-- the words of a line, which one or more spaces part
abbrev pub words_of : List ℕ → List (List ℕ)
words_of line = filter (λ word. not (length word == 0)) (slice_split (λ b. b == 32) line)

-- word i of a line, from 0
abbrev pub word : List (List ℕ) → ℕ → List ℕ
word words i = get_or words i []

-- whether the word is this text
unfoldable pub is : List ℕ → List ℕ → Bool
is word text = pointwise eqb word text
