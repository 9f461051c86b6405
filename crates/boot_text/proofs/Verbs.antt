-- What a script line does is within its ranges.
use Rattle.std.proofs.Common.{ℕ, ◌+◌, ◌==◌, ◌&&◌, List, length, IfSome, lit≤, leb-true, nat_le, codes}
use Rattle.boot_text.specs.Numbers.{number, number_in, hex, mac}
use Rattle.boot_text.specs.Words.{is, word}
use Rattle.boot_text.specs.Transfer.{is_tail, tail, range_of, blocks_of}
use Rattle.boot_text.specs.Script.{alone, read_line, write_line, command_in_of, command_out_of, command_line, task_of, take_of, data_of}
use Rattle.boot_text.specs.PortScript.{post_of, send_of, change_mac_of, multicast_of}
use Rattle.boot_text.specs.CommonScript.{fill_of, poke_of, peek_of, tce_of, hcall_of, rights, arguments_of}
use Rattle.boot_text.specs.Statement.{verb_of}
use Rattle.boot_text.specs.Sound.{IsFrom, ArePieces, AreData, AreBlocks, IsCommand, IsInRange}
use Rattle.boot_text.specs.declared.transfer.Tail.{Tail}
use Rattle.boot_text.specs.declared.transfer.Range.{Range}
use Rattle.boot_text.specs.declared.transfer.Blocks.{Blocks}
use Rattle.boot_text.specs.declared.transfer.TheConstants.{MOST_DATA, MOST_LBA, MOST_BLOCKS, MOST_PIECES, MOST_IN_TABLE}
use Rattle.boot_text.specs.declared.port_script.TheConstants.{MOST_BUFFERS, LEAST_FRAME, MOST_FRAME}
use Rattle.boot_text.specs.declared.script.TheConstants.{MOST_CDB, MOST_FUNCTION}
use Rattle.boot_text.specs.declared.common_script.TheConstants.{MOST_FILL, MOST_PEEK, MOST_PAGE}
use Rattle.boot_text.specs.declared.names.TheConstants.{MOST_HEX}
use Rattle.boot_text.specs.declared.verb.Verb.{Verb}
use Rattle.boot_text.specs.declared.verb.Verb.TheVariants as verbs
use Rattle.boot_text.specs.declared.verb.VerbName.{VerbName}
use Rattle.boot_text.specs.declared.verb.VerbName.TheVariants as names
use Rattle.boot_text.proofs.Ranges.{Any, IfGood, good_numbered, good_if, some_then, some_map, some_if, some_where, some_any, in_range, hex_long}

abbrev IsCut : Tail → Type 0
IsCut cut = ArePieces cut.pieces cut.table

cut_is : (from : ℕ) (words : List (List ℕ)) → IfSome (tail from words) IsCut
cut_is from words =
    some_if IsCut (length words == from) _ _ (lit≤ tt, lit≤ tt) (some_if IsCut (length words == from + 2) _ _
    (some_map (IsFrom 1 MOST_PIECES) IsCut _ _ (in_range 1 MOST_PIECES (word words (from + 1))) (λ pieces h. h))
    (some_then (IsFrom 1 MOST_IN_TABLE) IsCut _ _ (in_range 1 MOST_IN_TABLE (word words (from + 1))) (λ pieces h.
    some_map Any IsCut _ _ (some_any (number (word words (from + 3)))) (λ table t. h))))

abbrev AreBlocksOf : Blocks → Type 0
AreBlocksOf b = AreBlocks b.lba b.blocks b.tail.pieces b.tail.table

blocks_are : (words : List (List ℕ)) → IfSome (blocks_of words) AreBlocksOf
blocks_are words =
    some_then (IsFrom 0 MOST_LBA) AreBlocksOf _ _ (in_range 0 MOST_LBA (word words 2)) (λ lba l.
    some_then (IsFrom 1 MOST_BLOCKS) AreBlocksOf _ _ (in_range 1 MOST_BLOCKS (word words 3)) (λ blocks n.
    some_then Any AreBlocksOf _ _ (some_any (number (word words 4))) (λ at t.
    some_map IsCut AreBlocksOf _ _ (cut_is 5 words) (λ cut c. record { lba_is = l.1; blocks_are = n; pieces_are = c }))))

abbrev AreDataOf : Range → Type 0
AreDataOf r = AreData r.len r.tail.pieces r.tail.table

range_is : (from : ℕ) (words : List (List ℕ)) → IfSome (range_of from words) AreDataOf
range_is from words =
    some_then Any AreDataOf _ _ (some_any (number (word words from))) (λ at t.
    some_then (IsFrom 1 MOST_DATA) AreDataOf _ _ (in_range 1 MOST_DATA (word words (from + 1))) (λ len n.
    some_then IsCut AreDataOf _ _ (cut_is (from + 2) words) (λ cut c.
    some_where AreDataOf (nat_le cut.pieces len) (record { at = at; len = len; tail = cut }) (λ e.
    record { most = n.1; pieces_are = c; each = leb-true cut.pieces len e }))))

read_is : (words : List (List ℕ)) → IfGood (read_line words) IsInRange
read_is words =
    good_if IsInRange (is_tail 5 words) _ _ (good_numbered IsInRange _ (some_map AreBlocksOf IsInRange _ _ (blocks_are words) (λ b h. h))) tt

write_is : (words : List (List ℕ)) → IfGood (write_line words) IsInRange
write_is words =
    good_if IsInRange (is_tail 5 words) _ _ (good_numbered IsInRange _ (some_map AreBlocksOf IsInRange _ _ (blocks_are words) (λ b h. h))) tt

cdb_is : (words : List (List ℕ)) → IfSome (hex MOST_CDB (word words 2)) IsCommand
cdb_is words = hex_long MOST_CDB (word words 2)

in_is : (words : List (List ℕ)) → IfGood (command_in_of words) IsInRange
in_is words =
    good_numbered IsInRange _ (some_then AreDataOf IsInRange _ _ (range_is 4 words) (λ r d.
    some_map IsCommand IsInRange _ _ (cdb_is words) (λ cdb c. (c, d))))

out_is : (words : List (List ℕ)) → IfGood (command_out_of words) IsInRange
out_is words =
    good_numbered IsInRange _ (some_then AreDataOf IsInRange _ _ (range_is 4 words) (λ r d.
    some_map IsCommand IsInRange _ _ (cdb_is words) (λ cdb c. (c, d))))

command_is : (words : List (List ℕ)) → IfGood (command_line words) IsInRange
command_is words =
    good_if IsInRange (length words == 4 && is (word words 3) (codes "none")) _ _
    (good_numbered IsInRange _ (some_map IsCommand IsInRange _ _ (cdb_is words) (λ cdb c. c)))
    (good_if IsInRange (is_tail 6 words) _ _
    (good_if IsInRange (is (word words 3) (codes "in")) _ _ (in_is words)
    (good_if IsInRange (is (word words 3) (codes "out")) _ _ (out_is words) tt)) tt)

alone_is : (verb : Verb) (words : List (List ℕ)) → IsInRange verb → IfGood (alone verb words) IsInRange
alone_is verb words h = good_if IsInRange (length words == 2) _ _ h tt

task_is : (words : List (List ℕ)) → IfGood (task_of words) IsInRange
task_is words =
    good_if IsInRange (length words == 4) _ _ (good_numbered IsInRange _
    (some_then (IsFrom 0 MOST_FUNCTION) IsInRange _ _ (in_range 0 MOST_FUNCTION (word words 2)) (λ function h.
    some_map Any IsInRange _ _ (some_any (number (word words 3))) (λ tag t. h.1)))) tt

take_is : (words : List (List ℕ)) → IfGood (take_of words) IsInRange
take_is words =
    good_if IsInRange (length words == 3) _ _ (good_numbered IsInRange _
    (some_map Any IsInRange _ _ (some_any (number (word words 2))) (λ count t. tt))) tt

data_is : (words : List (List ℕ)) → IfGood (data_of words) IsInRange
data_is words =
    good_if IsInRange (length words == 3) _ _ (good_numbered IsInRange _
    (some_map Any IsInRange _ _ (some_any (number (word words 2))) (λ tag t. tt))) tt

post_is : (words : List (List ℕ)) → IfGood (post_of words) IsInRange
post_is words =
    good_if IsInRange (length words == 5) _ _ (good_numbered IsInRange _
    (some_then Any IsInRange _ _ (some_any (number (word words 2))) (λ at t.
    some_then Any IsInRange _ _ (some_any (number (word words 3))) (λ len u.
    some_map (IsFrom 1 MOST_BUFFERS) IsInRange _ _ (in_range 1 MOST_BUFFERS (word words 4)) (λ count h. h))))) tt

send_is : (words : List (List ℕ)) → IfGood (send_of words) IsInRange
send_is words =
    good_if IsInRange (length words == 6) _ _ (good_numbered IsInRange _
    (some_then Any IsInRange _ _ (some_any (mac (word words 2))) (λ to t.
    some_then (IsFrom LEAST_FRAME MOST_FRAME) IsInRange _ _ (in_range LEAST_FRAME MOST_FRAME (word words 3)) (λ len h.
    some_then Any IsInRange _ _ (some_any (number (word words 4))) (λ seed v.
    some_map Any IsInRange _ _ (some_any (number (word words 5))) (λ at w. h)))))) tt

change_mac_is : (words : List (List ℕ)) → IfGood (change_mac_of words) IsInRange
change_mac_is words =
    good_if IsInRange (length words == 3) _ _ (good_numbered IsInRange _
    (some_map Any IsInRange _ _ (some_any (mac (word words 2))) (λ own t. tt))) tt

multicast_is : (words : List (List ℕ)) → IfGood (multicast_of words) IsInRange
multicast_is words =
    good_if IsInRange (length words == 4) _ _ (good_numbered IsInRange _
    (some_then Any IsInRange _ _ (some_any (number (word words 2))) (λ control t.
    some_map Any IsInRange _ _ (some_any (mac (word words 3))) (λ group u. tt)))) tt

fill_is : (words : List (List ℕ)) → IfGood (fill_of words) IsInRange
fill_is words =
    good_if IsInRange (length words == 5) _ _ (good_numbered IsInRange _
    (some_then Any IsInRange _ _ (some_any (number (word words 2))) (λ at t.
    some_then (IsFrom 1 MOST_FILL) IsInRange _ _ (in_range 1 MOST_FILL (word words 3)) (λ len h.
    some_map Any IsInRange _ _ (some_any (number (word words 4))) (λ seed u. h))))) tt

poke_is : (words : List (List ℕ)) → IfGood (poke_of words) IsInRange
poke_is words =
    good_if IsInRange (length words == 4) _ _ (good_numbered IsInRange _
    (some_then Any IsInRange _ _ (some_any (number (word words 2))) (λ at t.
    some_map (λ bytes. IsFrom 1 MOST_HEX (length bytes)) IsInRange _ _ (hex_long MOST_HEX (word words 3)) (λ bytes h. h)))) tt

peek_is : (words : List (List ℕ)) → IfGood (peek_of words) IsInRange
peek_is words =
    good_if IsInRange (length words == 4) _ _ (good_numbered IsInRange _
    (some_then Any IsInRange _ _ (some_any (number (word words 2))) (λ at t.
    some_map (IsFrom 1 MOST_PEEK) IsInRange _ _ (in_range 1 MOST_PEEK (word words 3)) (λ len h. h)))) tt

tce_is : (words : List (List ℕ)) → IfGood (tce_of words) IsInRange
tce_is words =
    good_if IsInRange (length words == 5) _ _ (good_numbered IsInRange _
    (some_then Any IsInRange _ _ (some_any (number (word words 2))) (λ entry t.
    some_then (IsFrom 0 MOST_PAGE) IsInRange _ _ (in_range 0 MOST_PAGE (word words 3)) (λ page h.
    some_map Any IsInRange _ _ (some_any (rights (word words 4))) (λ r u. h.1))))) tt

hcall_is : (words : List (List ℕ)) → IfGood (hcall_of words) IsInRange
hcall_is words =
    good_if IsInRange (nat_le 3 (length words) && nat_le (length words) 12) _ _ (good_numbered IsInRange _
    (some_then Any IsInRange _ _ (some_any (number (word words 2))) (λ n t.
    some_map Any IsInRange _ _ (some_any (arguments_of words)) (λ arguments u. tt)))) tt

pub verb_is : (name : VerbName) (words : List (List ℕ)) → IfGood (verb_of name words) IsInRange
verb_is names.Login words = alone_is verbs.Login words tt
verb_is names.Reset words = alone_is verbs.Reset words tt
verb_is names.Logout words = alone_is verbs.Logout words tt
verb_is names.Tur words = alone_is verbs.Tur words tt
verb_is names.Read words = read_is words
verb_is names.Write words = write_is words
verb_is names.Command words = command_is words
verb_is names.Task words = task_is words
verb_is names.Take words = take_is words
verb_is names.Data words = data_is words
verb_is names.Open words = alone_is verbs.Open words tt
verb_is names.Close words = alone_is verbs.Close words tt
verb_is names.Post words = post_is words
verb_is names.Send words = send_is words
verb_is names.ChangeMac words = change_mac_is words
verb_is names.Multicast words = multicast_is words
verb_is names.Fill words = fill_is words
verb_is names.Poke words = poke_is words
verb_is names.Peek words = peek_is words
verb_is names.Tce words = tce_is words
verb_is names.Hcall words = hcall_is words
verb_is names.Fail words = alone_is verbs.Fail words tt
