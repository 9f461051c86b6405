-- The words of a script line: what each verb takes. Word 0 is the unit's number, word 1 the verb.
use Rattle.std.specs.Prelude.{ℕ, ◌==◌, ◌&&◌, List, length, codes, if◌then◌else◌}
use Rattle.std.specs.Option.{option_and_then, option_map}
use Rattle.boot_text.specs.Words.{is, word}
use Rattle.boot_text.specs.Numbers.{number, number_in, hex}
use Rattle.boot_text.specs.Transfer.{is_tail, range_of, blocks_of}
use Rattle.boot_text.specs.Said.{Said, good, bad, numbered}
use Rattle.boot_text.specs.declared.cause.Cause.TheVariants as causes
use Rattle.boot_text.specs.declared.verb.Verb.{Verb}
use Rattle.boot_text.specs.declared.verb.Verb.TheVariants as verbs
use Rattle.boot_text.specs.declared.script.TheConstants.{MOST_CDB, MOST_FUNCTION}

-- a verb that stands alone
abbrev pub alone : Verb → List (List ℕ) → Said Verb
alone verb words = if length words == 2 then good verb else bad causes.Count

-- `read LBA N AT` and a tail, and `write` with the same words
abbrev pub read_line : List (List ℕ) → Said Verb
read_line words =
    if is_tail 5 words
    then numbered (option_map (λ b. verbs.Read b.lba b.blocks b.at b.tail.pieces b.tail.table) (blocks_of words))
    else bad causes.Count

abbrev pub write_line : List (List ℕ) → Said Verb
write_line words =
    if is_tail 5 words
    then numbered (option_map (λ b. verbs.Write b.lba b.blocks b.at b.tail.pieces b.tail.table) (blocks_of words))
    else bad causes.Count

-- the numbers of `cdb HEX none`, `cdb HEX in AT LEN` and `cdb HEX out AT LEN` with a tail
abbrev pub plain_command_of : List (List ℕ) → Said Verb
plain_command_of words = numbered (option_map (λ cdb. verbs.Command cdb) (hex MOST_CDB (word words 2)))

abbrev pub command_in_of : List (List ℕ) → Said Verb
command_in_of words =
    numbered (option_and_then (λ r. option_map (λ cdb. verbs.CommandIn cdb r.at r.len r.tail.pieces r.tail.table)
    (hex MOST_CDB (word words 2))) (range_of 4 words))

abbrev pub command_out_of : List (List ℕ) → Said Verb
command_out_of words =
    numbered (option_and_then (λ r. option_map (λ cdb. verbs.CommandOut cdb r.at r.len r.tail.pieces r.tail.table)
    (hex MOST_CDB (word words 2))) (range_of 4 words))

-- `cdb HEX`, and behind it `none`, or `in` or `out` and where the data lie
abbrev pub command_line : List (List ℕ) → Said Verb
command_line words =
    if length words == 4 && is (word words 3) (codes "none") then plain_command_of words
    else if is_tail 6 words
    then (if is (word words 3) (codes "in") then command_in_of words
    else if is (word words 3) (codes "out") then command_out_of words
    else bad causes.Count)
    else bad causes.Count

-- `task F TAG`
abbrev pub task_of : List (List ℕ) → Said Verb
task_of words =
    if length words == 4
    then numbered (option_and_then (λ function. option_map (λ tag. verbs.Task function tag) (number (word words 3)))
    (number_in 0 MOST_FUNCTION (word words 2)))
    else bad causes.Count

-- `take N` and `data TAG`
abbrev pub take_of : List (List ℕ) → Said Verb
take_of words =
    if length words == 3 then numbered (option_map (λ count. verbs.Take count) (number (word words 2))) else bad causes.Count

abbrev pub data_of : List (List ℕ) → Said Verb
data_of words =
    if length words == 3 then numbered (option_map (λ tag. verbs.Data tag) (number (word words 2))) else bad causes.Count
