-- The words of a command's data: where they lie, how many bytes they are, and in how many pieces.
use Rattle.std.specs.Prelude.{ℕ, Bool, ◌&&◌, ◌||◌, ◌==◌, ◌+◌, nat_le, List, length, Option, Some, None, codes, if◌then◌else◌}
use Rattle.std.specs.Option.{option_and_then, option_map}
use Rattle.boot_text.specs.Words.{is, word}
use Rattle.boot_text.specs.Numbers.{number, number_in}
use Rattle.boot_text.specs.declared.transfer.Tail.{Tail}
use Rattle.boot_text.specs.declared.transfer.Range.{Range}
use Rattle.boot_text.specs.declared.transfer.Blocks.{Blocks}
use Rattle.boot_text.specs.declared.transfer.TheConstants.{MOST_DATA, MOST_LBA, MOST_BLOCKS, MOST_PIECES, MOST_IN_TABLE}

-- whether the line ends with `pieces K` and `table A`, or less, from this word on
abbrev pub is_tail : ℕ → List (List ℕ) → Bool
is_tail from words =
    length words == from
    || (length words == from + 2 && is (word words from) (codes "pieces")
    || length words == from + 4 && (is (word words from) (codes "pieces") && is (word words (from + 2)) (codes "table")))

-- the pieces and the table that the end of a line says
abbrev pub tail : ℕ → List (List ℕ) → Option Tail
tail from words =
    if length words == from then Some (record { pieces = 1; table = None })
    else if length words == from + 2
    then option_map (λ pieces. record { pieces = pieces; table = None }) (number_in 1 MOST_PIECES (word words (from + 1)))
    else option_and_then (λ pieces. option_map (λ table. record { pieces = pieces; table = Some table }) (number (word words (from + 3))))
    (number_in 1 MOST_IN_TABLE (word words (from + 1)))

-- where data lie, of at least as many bytes as there are pieces
abbrev pub range_of : ℕ → List (List ℕ) → Option Range
range_of from words =
    option_and_then (λ at. option_and_then (λ len. option_and_then (λ cut.
    if nat_le cut.pieces len then Some (record { at = at; len = len; tail = cut }) else None)
    (tail (from + 2) words)) (number_in 1 MOST_DATA (word words (from + 1)))) (number (word words from))

-- the blocks of a line and where their data lie
abbrev pub blocks_of : List (List ℕ) → Option Blocks
blocks_of words =
    option_and_then (λ lba. option_and_then (λ blocks. option_and_then (λ at. option_map (λ cut.
    record { lba = lba; blocks = blocks; at = at; tail = cut })
    (tail 5 words)) (number (word words 4))) (number_in 1 MOST_BLOCKS (word words 3))) (number_in 0 MOST_LBA (word words 2))
