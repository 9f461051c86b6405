-- The words that say what a line is.
use Rattle.std.specs.Prelude.{ℕ, Bool, List, Option, Some, None, codes, if◌then◌else◌}
use Rattle.std.specs.List.{list_all}
use Rattle.std.specs.Option.{option_or}
use Rattle.std.specs.Char.{is_ascii_digit}
use Rattle.boot_text.specs.Words.{is}
use Rattle.boot_text.specs.declared.keyword.Keyword.{Keyword}
use Rattle.boot_text.specs.declared.keyword.Keyword.TheVariants as keywords
use Rattle.boot_text.specs.declared.verb.VerbName.{VerbName}
use Rattle.boot_text.specs.declared.verb.VerbName.TheVariants as verbs

-- whether the word has decimal digits alone: then its line is a script's
abbrev pub is_decimal : List ℕ → Bool
is_decimal word = list_all is_ascii_digit word

-- what a line is that begins with this word and is no script's
abbrev pub fixed_keyword : List ℕ → Option Keyword
fixed_keyword word =
    if is word (codes "vio") then Some keywords.Version
    else if is word (codes "rounds") then Some keywords.Rounds
    else if is word (codes "grant") then Some keywords.Grant
    else if is word (codes "partition") then Some keywords.Partition
    else if is word (codes "server") then Some keywords.Server
    else if is word (codes "client") then Some keywords.Client
    else if is word (codes "lan") then Some keywords.Lan
    else if is word (codes "end") then Some keywords.End
    else None

-- what a line is that begins with this word
abbrev pub keyword : List ℕ → Option Keyword
keyword word = if is_decimal word then Some keywords.Script else fixed_keyword word

-- what a client's login and queue do
abbrev pub login_verb : List ℕ → Option VerbName
login_verb word =
    if is word (codes "login") then Some verbs.Login
    else if is word (codes "reset") then Some verbs.Reset
    else if is word (codes "logout") then Some verbs.Logout
    else None

-- what a client sends and reads
abbrev pub client_verb : List ℕ → Option VerbName
client_verb word =
    if is word (codes "tur") then Some verbs.Tur
    else if is word (codes "read") then Some verbs.Read
    else if is word (codes "write") then Some verbs.Write
    else if is word (codes "cdb") then Some verbs.Command
    else if is word (codes "task") then Some verbs.Task
    else if is word (codes "data") then Some verbs.Data
    else None

-- what a LAN port does
abbrev pub port_verb : List ℕ → Option VerbName
port_verb word =
    if is word (codes "open") then Some verbs.Open
    else if is word (codes "close") then Some verbs.Close
    else if is word (codes "post") then Some verbs.Post
    else if is word (codes "send") then Some verbs.Send
    else if is word (codes "mac") then Some verbs.ChangeMac
    else if is word (codes "mcast") then Some verbs.Multicast
    else None

-- what both do
abbrev pub common_verb : List ℕ → Option VerbName
common_verb word =
    if is word (codes "take") then Some verbs.Take
    else if is word (codes "fill") then Some verbs.Fill
    else if is word (codes "poke") then Some verbs.Poke
    else if is word (codes "peek") then Some verbs.Peek
    else if is word (codes "tce") then Some verbs.Tce
    else if is word (codes "hcall") then Some verbs.Hcall
    else if is word (codes "fail") then Some verbs.Fail
    else None

-- what a script line does whose second word this is
abbrev pub verb_name : List ℕ → Option VerbName
verb_name word =
    option_or (login_verb word) (option_or (client_verb word) (option_or (port_verb word) (common_verb word)))
