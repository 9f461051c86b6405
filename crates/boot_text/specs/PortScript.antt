-- The words of a LAN port's script lines. Word 0 is the unit's number, word 1 the verb.
use Rattle.std.specs.Prelude.{ℕ, ◌==◌, List, length, Option, if◌then◌else◌}
use Rattle.std.specs.Option.{option_and_then, option_map}
use Rattle.boot_text.specs.Words.{word}
use Rattle.boot_text.specs.Numbers.{number, number_in, mac}
use Rattle.boot_text.specs.Said.{Said, bad, numbered}
use Rattle.boot_text.specs.declared.cause.Cause.TheVariants as causes
use Rattle.boot_text.specs.declared.verb.Verb.{Verb}
use Rattle.boot_text.specs.declared.verb.Verb.TheVariants as verbs
use Rattle.boot_text.specs.declared.port_script.TheConstants.{MOST_BUFFERS, LEAST_FRAME, MOST_FRAME}

-- `post AT LEN N`
abbrev pub post_numbers : List (List ℕ) → Option Verb
post_numbers words =
    option_and_then (λ at. option_and_then (λ len. option_map (λ count. verbs.Post at len count)
    (number_in 1 MOST_BUFFERS (word words 4))) (number (word words 3))) (number (word words 2))

abbrev pub post_of : List (List ℕ) → Said Verb
post_of words = if length words == 5 then numbered (post_numbers words) else bad causes.Count

-- `send MAC LEN SEED AT`
abbrev pub send_numbers : List (List ℕ) → Option Verb
send_numbers words =
    option_and_then (λ to. option_and_then (λ len. option_and_then (λ seed. option_map (λ at. verbs.Send to len seed at)
    (number (word words 5))) (number (word words 4))) (number_in LEAST_FRAME MOST_FRAME (word words 3))) (mac (word words 2))

abbrev pub send_of : List (List ℕ) → Said Verb
send_of words = if length words == 6 then numbered (send_numbers words) else bad causes.Count

-- `mac MAC`
abbrev pub change_mac_of : List (List ℕ) → Said Verb
change_mac_of words =
    if length words == 3 then numbered (option_map (λ own. verbs.ChangeMac own) (mac (word words 2))) else bad causes.Count

-- `mcast W MAC`
abbrev pub multicast_of : List (List ℕ) → Said Verb
multicast_of words =
    if length words == 4
    then numbered (option_and_then (λ control. option_map (λ group. verbs.Multicast control group) (mac (word words 3))) (number (word words 2)))
    else bad causes.Count
