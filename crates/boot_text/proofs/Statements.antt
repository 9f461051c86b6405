-- What a line says that begins with a keyword: a statement of its kind, within its ranges.
use Rattle.std.proofs.Common.{◌≡◌, ℕ, ◌==◌, ◌&&◌, ◌||◌, ◌%◌, Bool, true, false, if◌then◌else◌, IfSome, List, length, slice_index, Option, Some, None, ap, refl, codes}
use Rattle.vio_num.specs.declared.names.Mac.{Mac}
use Rattle.boot_text.specs.Numbers.{mac, number, name}
use Rattle.boot_text.specs.Said.{numbered}
use Rattle.boot_text.specs.Words.{is, word}
use Rattle.boot_text.specs.SoFar.{kind_of}
use Rattle.boot_text.specs.Statement.{is_zero_mac, rounds_of, grant_of, server_of, client_of, lan_of, port_mac, script_of, statement_of}
use Rattle.boot_text.specs.Sound.{IsFrom, IsInRange, IsPortMac}
use Rattle.boot_text.specs.declared.keyword.Keyword.{Keyword}
use Rattle.boot_text.specs.declared.keyword.Keyword.TheVariants as keywords
use Rattle.boot_text.specs.declared.verb.VerbName.{VerbName}
use Rattle.boot_text.specs.declared.statement.Statement.{Statement}
use Rattle.boot_text.specs.declared.statement.Statement.TheVariants as statements
use Rattle.boot_text.specs.declared.statement.TheConstants.{MOST_ROUNDS, MOST_GRANT, MOST_QUEUE, LEAST_CLIENT_PAGES, MOST_UNIT_PAGES, MOST_SLOTS}
use Rattle.boot_text.proofs.Ranges.{Any, IfGood, good_numbered, good_then, good_if, good_any, some_then, some_map, some_any, in_range}
use Rattle.boot_text.proofs.Units.{neither}
use Rattle.boot_text.proofs.Verbs.{verb_is}

-- the numbers of a statement are within their ranges
abbrev pub IsRanged : Statement → Type 0
IsRanged (statements.Rounds rounds) = IsFrom 1 MOST_ROUNDS rounds
IsRanged (statements.Grant grant) = IsFrom 1 MOST_GRANT grant
IsRanged (statements.Server queue) = IsFrom 1 MOST_QUEUE queue
IsRanged (statements.Client server pages queue) = IsFrom LEAST_CLIENT_PAGES MOST_UNIT_PAGES pages × IsFrom 1 MOST_QUEUE queue
IsRanged (statements.Lan mac pages slots) = IsFrom 1 MOST_UNIT_PAGES pages × IsFrom 1 MOST_SLOTS slots × IsPortMac mac
IsRanged (statements.Script unit verb) = IsInRange verb
IsRanged _ = Unit {0}

-- A statement of a line that begins with this keyword.
pub record IsOf (keyword : Keyword) (statement : Statement) : Type 0 where
  pub kind : kind_of statement ≡ keyword
  pub ranged : IsRanged statement

rounds_is : (words : List (List ℕ)) → IfGood (rounds_of words) (IsOf keywords.Rounds)
rounds_is words =
    good_if (IsOf keywords.Rounds) (length words == 2) _ _ (good_numbered (IsOf keywords.Rounds) _
    (some_map (IsFrom 1 MOST_ROUNDS) (IsOf keywords.Rounds) _ _ (in_range 1 MOST_ROUNDS (word words 1)) (λ n h.
    record { kind = refl; ranged = h }))) tt

grant_is : (words : List (List ℕ)) → IfGood (grant_of words) (IsOf keywords.Grant)
grant_is words =
    good_if (IsOf keywords.Grant) (length words == 2) _ _ (good_numbered (IsOf keywords.Grant) _
    (some_map (IsFrom 1 MOST_GRANT) (IsOf keywords.Grant) _ _ (in_range 1 MOST_GRANT (word words 1)) (λ n h.
    record { kind = refl; ranged = h }))) tt

server_is : (words : List (List ℕ)) → IfGood (server_of words) (IsOf keywords.Server)
server_is words =
    good_if (IsOf keywords.Server) (length words == 2) _ _ (good_numbered (IsOf keywords.Server) _
    (some_map (IsFrom 1 MOST_QUEUE) (IsOf keywords.Server) _ _ (in_range 1 MOST_QUEUE (word words 1)) (λ q h.
    record { kind = refl; ranged = h }))) tt

client_is : (words : List (List ℕ)) → IfGood (client_of words) (IsOf keywords.Client)
client_is words =
    good_if (IsOf keywords.Client) (length words == 6 && (is (word words 2) (codes "pages") && is (word words 4) (codes "queue"))) _ _
    (good_then Any (IsOf keywords.Client) _ _ (good_any (numbered (name (word words 1)))) (λ server t.
    good_numbered (IsOf keywords.Client) _
    (some_then (IsFrom LEAST_CLIENT_PAGES MOST_UNIT_PAGES) (IsOf keywords.Client) _ _ (in_range LEAST_CLIENT_PAGES MOST_UNIT_PAGES (word words 3)) (λ p h.
    some_map (IsFrom 1 MOST_QUEUE) (IsOf keywords.Client) _ _ (in_range 1 MOST_QUEUE (word words 5)) (λ q k.
    record { kind = refl; ranged = (h, k) }))))) tt

-- an address that a port may have
own_address : (own : Mac) → ((slice_index own.bytes 0 % 2 == 1) || is_zero_mac own.bytes) ≡ false → IsPortMac own
own_address own e =
    let h = neither (slice_index own.bytes 0 % 2 == 1) (is_zero_mac own.bytes) e in
    record {
      one = λ group. not_both (slice_index own.bytes 0 % 2 == 1) (ap (λ n. n == 1) group) h.0;
      some = λ zero. not_both (is_zero_mac own.bytes) (ap (λ b. is_zero_mac b) zero) h.1;
    }
  where
    not_both : (b : Bool) → b ≡ true → b ≡ false → ⊥
    not_both b is isnt = cc (is, isnt)

free_address : (own : Mac) (b : Bool) → ((slice_index own.bytes 0 % 2 == 1) || is_zero_mac own.bytes) ≡ b → IfSome (if b then None else Some own) IsPortMac
free_address own true e = tt
free_address own false e = own_address own e

port_is : (address : List ℕ) → IfSome (port_mac address) IsPortMac
port_is address = some_then Any IsPortMac _ (mac address) (some_any (mac address)) (λ own t. free_address own _ refl)

lan_is : (words : List (List ℕ)) → IfGood (lan_of words) (IsOf keywords.Lan)
lan_is words =
    good_if (IsOf keywords.Lan) (length words == 6 && (is (word words 2) (codes "pages") && is (word words 4) (codes "slots"))) _ _
    (good_numbered (IsOf keywords.Lan) _
    (some_then IsPortMac (IsOf keywords.Lan) _ _ (port_is (word words 1)) (λ own m.
    some_then (IsFrom 1 MOST_UNIT_PAGES) (IsOf keywords.Lan) _ _ (in_range 1 MOST_UNIT_PAGES (word words 3)) (λ p h.
    some_map (IsFrom 1 MOST_SLOTS) (IsOf keywords.Lan) _ _ (in_range 1 MOST_SLOTS (word words 5)) (λ s k.
    record { kind = refl; ranged = (h, k, m) }))))) tt

script_is : (verb : Option VerbName) (words : List (List ℕ)) → IfGood (script_of verb words) (IsOf keywords.Script)
script_is None words = tt
script_is (Some verb) words =
    good_then IsInRange (IsOf keywords.Script) _ _ (verb_is verb words) (λ v h.
    good_numbered (IsOf keywords.Script) _
    (some_map Any (IsOf keywords.Script) _ _ (some_any (number (word words 0))) (λ unit t.
    record { kind = refl; ranged = h })))

pub statement_is : (keyword : Keyword) (verb : Option VerbName) (words : List (List ℕ)) → IfGood (statement_of keyword verb words) (IsOf keyword)
statement_is keywords.Version verb words =
    good_if (IsOf keywords.Version) (length words == 2 && is (word words 1) (codes "1")) _ _ (record { kind = refl; ranged = tt }) tt
statement_is keywords.Rounds verb words = rounds_is words
statement_is keywords.Grant verb words = grant_is words
statement_is keywords.Partition verb words = good_if (IsOf keywords.Partition) (length words == 1) _ _ (record { kind = refl; ranged = tt }) tt
statement_is keywords.End verb words = good_if (IsOf keywords.End) (length words == 1) _ _ (record { kind = refl; ranged = tt }) tt
statement_is keywords.Server verb words = server_is words
statement_is keywords.Client verb words = client_is words
statement_is keywords.Lan verb words = lan_is words
statement_is keywords.Script verb words = script_is verb words
