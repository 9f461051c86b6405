-- What a line says, by itself.
use Rattle.std.specs.Prelude.{ℕ, Bool, ◌==◌, ◌&&◌, ◌||◌, ◌%◌, List, length, slice_index, Option, Some, None, codes, if◌then◌else◌}
use Rattle.std.specs.List.{list_all}
use Rattle.std.specs.Option.{option_and_then, option_map}
use Rattle.vio_num.specs.declared.names.Mac.{Mac}
use Rattle.boot_text.specs.Words.{is, word}
use Rattle.boot_text.specs.Numbers.{number, number_in, mac, name}
use Rattle.boot_text.specs.Said.{Said, good, bad, numbered, said_then}
use Rattle.boot_text.specs.Script.{alone, read_line, write_line, command_line, task_of, take_of, data_of}
use Rattle.boot_text.specs.PortScript.{post_of, send_of, change_mac_of, multicast_of}
use Rattle.boot_text.specs.CommonScript.{fill_of, poke_of, peek_of, tce_of, hcall_of}
use Rattle.boot_text.specs.declared.cause.Cause.TheVariants as causes
use Rattle.boot_text.specs.declared.names.Name.{Name}
use Rattle.boot_text.specs.declared.keyword.Keyword.{Keyword}
use Rattle.boot_text.specs.declared.keyword.Keyword.TheVariants as keywords
use Rattle.boot_text.specs.declared.verb.Verb.{Verb}
use Rattle.boot_text.specs.declared.verb.Verb.TheVariants as verbs
use Rattle.boot_text.specs.declared.verb.VerbName.{VerbName}
use Rattle.boot_text.specs.declared.verb.VerbName.TheVariants as names
use Rattle.boot_text.specs.declared.statement.Statement.{Statement}
use Rattle.boot_text.specs.declared.statement.Statement.TheVariants as statements
use Rattle.boot_text.specs.declared.statement.TheConstants.{MOST_ROUNDS, MOST_GRANT, MOST_QUEUE, LEAST_CLIENT_PAGES, MOST_UNIT_PAGES, MOST_SLOTS}

-- what a script line does
abbrev pub verb_of : VerbName → List (List ℕ) → Said Verb
verb_of names.Login words = alone verbs.Login words
verb_of names.Reset words = alone verbs.Reset words
verb_of names.Logout words = alone verbs.Logout words
verb_of names.Tur words = alone verbs.Tur words
verb_of names.Read words = read_line words
verb_of names.Write words = write_line words
verb_of names.Command words = command_line words
verb_of names.Task words = task_of words
verb_of names.Take words = take_of words
verb_of names.Data words = data_of words
verb_of names.Open words = alone verbs.Open words
verb_of names.Close words = alone verbs.Close words
verb_of names.Post words = post_of words
verb_of names.Send words = send_of words
verb_of names.ChangeMac words = change_mac_of words
verb_of names.Multicast words = multicast_of words
verb_of names.Fill words = fill_of words
verb_of names.Poke words = poke_of words
verb_of names.Peek words = peek_of words
verb_of names.Tce words = tce_of words
verb_of names.Hcall words = hcall_of words
verb_of names.Fail words = alone verbs.Fail words

-- `vio 1`
abbrev pub version_of : List (List ℕ) → Said Statement
version_of words =
    if length words == 2 && is (word words 1) (codes "1") then good statements.Version else bad causes.Count

-- `rounds N`
abbrev pub rounds_of : List (List ℕ) → Said Statement
rounds_of words =
    if length words == 2 then numbered (option_map (λ n. statements.Rounds n) (number_in 1 MOST_ROUNDS (word words 1))) else bad causes.Count

-- `grant N`
abbrev pub grant_of : List (List ℕ) → Said Statement
grant_of words =
    if length words == 2 then numbered (option_map (λ n. statements.Grant n) (number_in 1 MOST_GRANT (word words 1))) else bad causes.Count

-- `partition` and `end`
abbrev pub partition_of : List (List ℕ) → Said Statement
partition_of words = if length words == 1 then good statements.Partition else bad causes.Count

abbrev pub end_of : List (List ℕ) → Said Statement
end_of words = if length words == 1 then good statements.End else bad causes.Count

-- `server Q`
abbrev pub server_of : List (List ℕ) → Said Statement
server_of words =
    if length words == 2 then numbered (option_map (λ q. statements.Server q) (number_in 1 MOST_QUEUE (word words 1))) else bad causes.Count

-- `client NAME pages N queue Q`
abbrev pub client_numbers : Name → List ℕ → List ℕ → Said Statement
client_numbers server pages queue =
    numbered (option_and_then (λ p. option_map (λ q. statements.Client server p q) (number_in 1 MOST_QUEUE queue))
    (number_in LEAST_CLIENT_PAGES MOST_UNIT_PAGES pages))

abbrev pub client_of : List (List ℕ) → Said Statement
client_of words =
    if length words == 6 && (is (word words 2) (codes "pages") && is (word words 4) (codes "queue"))
    then said_then (λ server. client_numbers server (word words 3) (word words 5)) (numbered (name (word words 1)))
    else bad causes.Count

-- whether the address is zero
abbrev pub is_zero_mac : List ℕ → Bool
is_zero_mac bytes = list_all (λ byte. byte == 0) bytes

-- the address of a port, which is neither a group's nor zero
abbrev pub port_mac : List ℕ → Option Mac
port_mac address =
    option_and_then (λ own. if slice_index own.bytes 0 % 2 == 1 || is_zero_mac own.bytes then None else Some own) (mac address)

-- `lan MAC pages N slots S`
abbrev pub lan_numbers : List ℕ → List ℕ → List ℕ → Option Statement
lan_numbers address pages slots =
    option_and_then (λ own. option_and_then (λ p. option_map (λ s. statements.Lan own p s)
    (number_in 1 MOST_SLOTS slots)) (number_in 1 MOST_UNIT_PAGES pages)) (port_mac address)

abbrev pub lan_of : List (List ℕ) → Said Statement
lan_of words =
    if length words == 6 && (is (word words 2) (codes "pages") && is (word words 4) (codes "slots"))
    then numbered (lan_numbers (word words 1) (word words 3) (word words 5))
    else bad causes.Count

-- a script line: the unit's number, the verb, and what the verb takes
abbrev pub script_of : Option VerbName → List (List ℕ) → Said Statement
script_of None words = bad causes.Count
script_of (Some verb) words =
    said_then (λ v. numbered (option_map (λ unit. statements.Script unit v) (number (word words 0)))) (verb_of verb words)

-- what the words of a line say that begins with this keyword; of a script line, the verb's name is told apart
abbrev pub statement_of : Keyword → Option VerbName → List (List ℕ) → Said Statement
statement_of keywords.Version verb words = version_of words
statement_of keywords.Rounds verb words = rounds_of words
statement_of keywords.Grant verb words = grant_of words
statement_of keywords.Partition verb words = partition_of words
statement_of keywords.End verb words = end_of words
statement_of keywords.Server verb words = server_of words
statement_of keywords.Client verb words = client_of words
statement_of keywords.Lan verb words = lan_of words
statement_of keywords.Script verb words = script_of verb words
