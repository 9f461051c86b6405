-- The boot text of a seed as its lines.
use Rattle.std.proofs.Common.{◌≡◌, ℕ, zero, suc, ◌*◌, ◌/◌, ◌%◌, ◌≤◌, ◌&&◌, Bool, true, List, [], ◌∷◌, ◌++◌, length, codes, decimal, nat_le, refl, sym, ap, ◌∙◌, arith, append_assoc, length-append}
use Rattle.std.specs.List.{list_all}
use Rattle.std.proofs.lemmas.Bool.{le-leb, leb-true}
use Rattle.std.proofs.lemmas.List.Folds.{list_all-append}
use Rattle.boot_text.specs.Words.{lines_of}
use Rattle.paprvio.specs.Generated.{blocks_in, bytes_in, client, command, drawn, fill, first_in, transfer, transfers}
use Rattle.paprvio.proofs.Joining.{are_lines, both, joined, lacks}
use Rattle.paprvio.proofs.LinesJudged.{long, no_feed}
use Rattle.paprvio.proofs.NumberWords.{and_both, decimal_is_word, is_word}

-- lines, each with its line feed
abbrev pub ended : List (List ℕ) → List ℕ
ended [] = []
ended (line ∷ lines) = line ++ 10 ∷ ended lines

pub ended-append : (a b : List (List ℕ)) → ended (a ++ b) ≡ ended a ++ ended b
ended-append [] b = refl
ended-append (line ∷ a) b = ap (λ t. line ++ 10 ∷ t) (ended-append a b) ∙ sym (append_assoc line (10 ∷ ended a) (ended b))

joined_ended : (first : List ℕ) (lines : List (List ℕ)) → joined 10 first lines ++ 10 ∷ [] ≡ ended (first ∷ lines)
joined_ended first [] = refl
joined_ended first (line ∷ lines) = append_assoc first (10 ∷ joined 10 line lines) (10 ∷ []) ∙ ap (λ t. first ++ 10 ∷ t) (joined_ended line lines)

-- whether a text is a line, and of at most 200 bytes
abbrev pub is_line : List ℕ → Bool
is_line line = lacks 10 line && nat_le (length line) 200

lack : (lines : List (List ℕ)) → list_all is_line lines ≡ true → list_all (lacks 10) lines ≡ true
lack [] e = refl
lack (line ∷ lines) e =
    let parts = both (is_line line) (list_all is_line lines) e in
    and_both (lacks 10 line) (list_all (lacks 10) lines) (both (lacks 10 line) (nat_le (length line) 200) parts.0).0 (lack lines parts.1)

-- the lines of such a text are these
pub lines_ended : (first : List ℕ) (lines : List (List ℕ)) → list_all is_line (first ∷ lines) ≡ true → lines_of (ended (first ∷ lines)) ≡ first ∷ lines
lines_ended first lines e =
    let parts = both (lacks 10 first) (list_all (lacks 10) lines) (lack (first ∷ lines) e) in
    ap lines_of (sym (joined_ended first lines)) ∙ are_lines first lines parts.0 parts.1

pub long_ended : (lines : List (List ℕ)) → list_all is_line lines ≡ true → length (ended lines) ≤ 201 * length lines
long_ended [] e = omega arith
long_ended (line ∷ lines) e =
    let parts = both (is_line line) (list_all is_line lines) e in
    let few = leb-true (length line) 200 (both (lacks 10 line) (nat_le (length line) 200) parts.0).1 in
    omega (arith, few, length-append line (10 ∷ ended lines), long_ended lines parts.1)

-- a line of a few words
pub line_of_words : (first : List ℕ) (words : List (List ℕ)) → list_all is_word (first ∷ words) ≡ true → length words ≤ 8 → is_line (joined 32 first words) ≡ true
line_of_words first words e few =
    and_both (lacks 10 (joined 32 first words)) (nat_le (length (joined 32 first words)) 200) (no_feed first words e)
    (le-leb (length (joined 32 first words)) 200 (omega (arith, few, long first words e)))

-- the words of a transfer's lines behind the unit's number
abbrev pub fill_words : ℕ → List (List ℕ)
fill_words x = codes "fill" ∷ codes "65536" ∷ decimal (bytes_in x) ∷ decimal (x / 256 % 256) ∷ []

abbrev pub write_words : (number x : ℕ) → List (List ℕ)
write_words number x = codes "write" ∷ decimal (first_in number x) ∷ decimal (blocks_in x) ∷ codes "65536" ∷ []

abbrev pub read_words : (number x : ℕ) → List (List ℕ)
read_words number x = codes "read" ∷ decimal (first_in number x) ∷ decimal (blocks_in x) ∷ codes "98304" ∷ []

abbrev pub take_words : List (List ℕ)
take_words = codes "take" ∷ codes "1" ∷ []

abbrev pub script_line : List (List ℕ) → List ℕ
script_line words = joined 32 (codes "0") words

abbrev pub transfer_texts : (number x : ℕ) → List (List ℕ)
transfer_texts number x =
    script_line (fill_words x) ∷ script_line (write_words number x) ∷ script_line take_words ∷ script_line (read_words number x) ∷ script_line take_words ∷ []

unfoldable pub transfers_texts : (count number x : ℕ) → List (List ℕ)
transfers_texts zero number x = []
transfers_texts (suc count) number x = transfer_texts number (drawn x) ++ transfers_texts count number (drawn x)

-- a text in three parts
inner : (a b more : List ℕ) → a ++ 32 ∷ [] ++ b ++ more ≡ a ++ 32 ∷ (b ++ more)
inner a b more = ap (λ t. t ++ more) (append_assoc a (32 ∷ []) b) ∙ append_assoc a (32 ∷ b) more

fill_text : (x : ℕ) → fill x ≡ ended (script_line (fill_words x) ∷ [])
fill_text x = ap (λ t. codes "0 fill 65536 " ++ (t ++ 10 ∷ [])) (append_assoc (decimal (bytes_in x)) (32 ∷ []) (decimal (x / 256 % 256)))

write_text : (number x : ℕ) → command (codes "write") number x (codes " 65536") ≡ ended (script_line (write_words number x) ∷ script_line take_words ∷ [])
write_text number x = ap (λ t. codes "0 write " ++ (t ++ codes "\n0 take 1\n")) (inner (decimal (first_in number x)) (decimal (blocks_in x)) (codes " 65536"))

read_text : (number x : ℕ) → command (codes "read") number x (codes " 98304") ≡ ended (script_line (read_words number x) ∷ script_line take_words ∷ [])
read_text number x = ap (λ t. codes "0 read " ++ (t ++ codes "\n0 take 1\n")) (inner (decimal (first_in number x)) (decimal (blocks_in x)) (codes " 98304"))

transfer_text : (number x : ℕ) → transfer number x ≡ ended (transfer_texts number x)
transfer_text number x =
    let f = script_line (fill_words x) in
    let w = script_line (write_words number x) in
    let r = script_line (read_words number x) in
    let t = script_line take_words in
    (λ i. fill_text x i ++ write_text number x i ++ read_text number x i)
    ∙ ap (λ more. more ++ ended (r ∷ t ∷ [])) (sym (ended-append (f ∷ []) (w ∷ t ∷ [])))
    ∙ sym (ended-append (f ∷ w ∷ t ∷ []) (r ∷ t ∷ []))

pub transfers_text : (count number x : ℕ) → transfers count number x ≡ ended (transfers_texts count number x)
unfolding transfers transfers_texts
transfers_text zero number x = refl
transfers_text (suc count) number x =
    (λ i. transfer_text number (drawn x) i ++ transfers_text count number (drawn x) i)
    ∙ sym (ended-append (transfer_texts number (drawn x)) (transfers_texts count number (drawn x)))

-- the lines of a client
abbrev pub client_words : ℕ → List (List ℕ)
client_words number = (codes "0." ++ decimal number) ∷ codes "pages" ∷ codes "64" ∷ codes "queue" ∷ codes "1" ∷ []

abbrev pub client_line : ℕ → List ℕ
client_line number = joined 32 (codes "client") (client_words number)

abbrev pub client_texts : (number x : ℕ) → List (List ℕ)
client_texts number x = codes "partition" ∷ client_line number ∷ codes "0 login" ∷ (transfers_texts 64 number x ++ codes "end" ∷ [])

pub client_text : (number x : ℕ) → client number x ≡ ended (client_texts number x)
client_text number x =
    let d : List ℕ = decimal number in
    let unit : List ℕ = codes " pages 64 queue 1" in
    let login : List ℕ = codes "\n0 login\n" in
    let rest : List ℕ = transfers 64 number x ++ codes "end\n" in
    ap (λ t. codes "partition\nclient 0." ++ t)
    (append_assoc (d ++ (unit ++ login)) (transfers 64 number x) (codes "end\n") ∙ ap (λ t. t ++ rest) (sym (append_assoc d unit login)) ∙ append_assoc (d ++ unit) login rest)
    ∙ ap (λ t. codes "partition\n" ++ (client_line number ++ (login ++ t)))
    (ap (λ t. t ++ codes "end\n") (transfers_text 64 number x) ∙ sym (ended-append (transfers_texts 64 number x) (codes "end" ∷ [])))

-- each is a line
word_pair : (a b : List (List ℕ)) → list_all is_word a ≡ true → list_all is_word b ≡ true → list_all is_word (a ++ b) ≡ true
word_pair a b e f = list_all-append is_word a b ∙ and_both (list_all is_word a) (list_all is_word b) e f

pub fill_are_words : (x : ℕ) → list_all is_word (codes "0" ∷ fill_words x) ≡ true
fill_are_words x =
    and_both (is_word (decimal (bytes_in x))) (is_word (decimal (x / 256 % 256)) && true) (decimal_is_word (bytes_in x) (omega arith))
    (and_both (is_word (decimal (x / 256 % 256))) true (decimal_is_word (x / 256 % 256) (omega arith)) refl)

-- where a client has a number up to 7, its blocks are few
pub first_low : (number x : ℕ) → number ≤ 7 → first_in number x ≤ 504
first_low number x few = omega (arith, few)

pub write_are_words : (number x : ℕ) → number ≤ 7 → list_all is_word (codes "0" ∷ write_words number x) ≡ true
write_are_words number x few =
    and_both (is_word (decimal (first_in number x))) (is_word (decimal (blocks_in x)) && true) (decimal_is_word (first_in number x) (omega (arith, first_low number x few)))
    (and_both (is_word (decimal (blocks_in x))) true (decimal_is_word (blocks_in x) (omega arith)) refl)

pub read_are_words : (number x : ℕ) → number ≤ 7 → list_all is_word (codes "0" ∷ read_words number x) ≡ true
read_are_words number x few =
    and_both (is_word (decimal (first_in number x))) (is_word (decimal (blocks_in x)) && true) (decimal_is_word (first_in number x) (omega (arith, first_low number x few)))
    (and_both (is_word (decimal (blocks_in x))) true (decimal_is_word (blocks_in x) (omega arith)) refl)

are_script_lines : (count number x : ℕ) → number ≤ 7 → list_all is_line (transfers_texts count number x) ≡ true
unfolding transfers_texts
are_script_lines zero number x few = refl
are_script_lines (suc count) number x few =
    let y = drawn x in
    let f = line_of_words (codes "0") (fill_words y) (fill_are_words y) (omega arith) in
    let w = line_of_words (codes "0") (write_words number y) (write_are_words number y few) (omega arith) in
    let r = line_of_words (codes "0") (read_words number y) (read_are_words number y few) (omega arith) in
    list_all-append is_line (transfer_texts number y) (transfers_texts count number y)
    ∙ and_both (list_all is_line (transfer_texts number y)) (list_all is_line (transfers_texts count number y))
    (and_both (is_line (script_line (fill_words y))) (list_all is_line (script_line (write_words number y) ∷ script_line take_words ∷ script_line (read_words number y) ∷ script_line take_words ∷ [])) f
    (and_both (is_line (script_line (write_words number y))) (list_all is_line (script_line take_words ∷ script_line (read_words number y) ∷ script_line take_words ∷ [])) w
    (and_both (is_line (script_line (read_words number y))) true r refl)))
    (are_script_lines count number y few)

pub are_client_lines : (number x : ℕ) → number ≤ 7 → is_line (client_line number) ≡ true → list_all is_line (client_texts number x) ≡ true
are_client_lines number x few named =
    and_both (is_line (client_line number)) (list_all is_line (transfers_texts 64 number x ++ codes "end" ∷ [])) named
    (list_all-append is_line (transfers_texts 64 number x) (codes "end" ∷ [])
    ∙ and_both (list_all is_line (transfers_texts 64 number x)) true (are_script_lines 64 number x few) refl)

pub count_texts : (count number x : ℕ) → length (transfers_texts count number x) ≡ 5 * count
unfolding transfers_texts
count_texts zero number x = refl
count_texts (suc count) number x =
    length-append (transfer_texts number (drawn x)) (transfers_texts count number (drawn x)) ∙ omega (arith, count_texts count number (drawn x))
