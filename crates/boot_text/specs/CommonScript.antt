-- The words of the script lines that clients and LAN ports share. Word 0 is the unit's number, word 1 the verb.
use Rattle.std.specs.Prelude.{ℕ, ◌+◌, ◌==◌, ◌&&◌, nat_le, true, false, List, [], ◌∷◌, length, drop, replicate, slice_set, Option, Some, None, codes, if◌then◌else◌}
use Rattle.std.specs.Option.{option_and_then, option_map}
use Rattle.boot_text.specs.Words.{is, word}
use Rattle.boot_text.specs.Numbers.{number, number_in, hex}
use Rattle.boot_text.specs.Said.{Said, bad, numbered}
use Rattle.boot_text.specs.declared.cause.Cause.TheVariants as causes
use Rattle.boot_text.specs.declared.common_script.Rights.{Rights}
use Rattle.boot_text.specs.declared.verb.Verb.{Verb}
use Rattle.boot_text.specs.declared.verb.Verb.TheVariants as verbs
use Rattle.boot_text.specs.declared.common_script.TheConstants.{MOST_FILL, MOST_PEEK, MOST_PAGE}
use Rattle.boot_text.specs.declared.names.TheConstants.{MOST_HEX}

-- `fill AT LEN SEED`
abbrev pub fill_numbers : List (List ℕ) → Option Verb
fill_numbers words =
    option_and_then (λ at. option_and_then (λ len. option_map (λ seed. verbs.Fill at len seed)
    (number (word words 4))) (number_in 1 MOST_FILL (word words 3))) (number (word words 2))

abbrev pub fill_of : List (List ℕ) → Said Verb
fill_of words = if length words == 5 then numbered (fill_numbers words) else bad causes.Count

-- `poke AT HEX`
abbrev pub poke_of : List (List ℕ) → Said Verb
poke_of words =
    if length words == 4
    then numbered (option_and_then (λ at. option_map (λ bytes. verbs.Poke at bytes) (hex MOST_HEX (word words 3))) (number (word words 2)))
    else bad causes.Count

-- `peek AT LEN`
abbrev pub peek_of : List (List ℕ) → Said Verb
peek_of words =
    if length words == 4
    then numbered (option_and_then (λ at. option_map (λ len. verbs.Peek at len) (number_in 1 MOST_PEEK (word words 3))) (number (word words 2)))
    else bad causes.Count

-- what a guest may do with an entry's page: `rw`, `r`, `w` or `-`
abbrev pub rights : List ℕ → Option Rights
rights right =
    if is right (codes "rw") then Some (record { readable = true; writable = true })
    else if is right (codes "r") then Some (record { readable = true; writable = false })
    else if is right (codes "w") then Some (record { readable = false; writable = true })
    else if is right (codes "-") then Some (record { readable = false; writable = false })
    else None

-- `tce E P R`
abbrev pub tce_numbers : List (List ℕ) → Option Verb
tce_numbers words =
    option_and_then (λ entry. option_and_then (λ page. option_map (λ r. verbs.Tce entry page r.readable r.writable)
    (rights (word words 4))) (number_in 0 MOST_PAGE (word words 3))) (number (word words 2))

abbrev pub tce_of : List (List ℕ) → Said Verb
tce_of words = if length words == 5 then numbered (tce_numbers words) else bad causes.Count

-- the list with the numbers of these words from place i on
abbrev pub set_from : ℕ → List ℕ → List (List ℕ) → Option (List ℕ)
set_from i list [] = Some list
set_from i list (w ∷ ws) = option_and_then (λ n. set_from (i + 1) (slice_set list i n) ws) (number w)

-- the nine arguments of a call: the numbers behind its own, and zeros
abbrev pub arguments_of : List (List ℕ) → Option (List ℕ)
arguments_of words = set_from 0 (replicate 9 0) (drop 3 words)

-- `hcall N A ..`
abbrev pub hcall_numbers : List (List ℕ) → Option Verb
hcall_numbers words =
    option_and_then (λ n. option_map (λ arguments. verbs.Hcall n arguments) (arguments_of words)) (number (word words 2))

abbrev pub hcall_of : List (List ℕ) → Said Verb
hcall_of words =
    if nat_le 3 (length words) && nat_le (length words) 12 then numbered (hcall_numbers words) else bad causes.Count
