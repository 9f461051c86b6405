-- A line of words is judged by its words.
use Rattle.std.proofs.Common.{◌≡◌, ℕ, ◌+◌, ◌*◌, ◌≤◌, ◌==◌, ◌&&◌, Bool, true, false, not, List, [], ◌∷◌, length, nat_le, nat_lt, refl, ap, ◌∙◌, arith, length-append}
use Rattle.std.specs.List.{list_all}
use Rattle.std.proofs.lemmas.Bool.{leb-true, le-leb, ltb-true, ne_eqb}
use Rattle.std.proofs.lemmas.List.Folds.{list_all-append}
use Rattle.boot_text.specs.BootText.{goes_on, has_bad_byte, is_printable, judge, judge_first, judge_words, read_from}
use Rattle.boot_text.specs.Said.{good, bad}
use Rattle.boot_text.specs.SoFar.{SoFar}
use Rattle.boot_text.specs.Words.{word, words_of}
use Rattle.boot_text.specs.declared.cause.Cause.TheVariants as causes
use Rattle.paprvio.proofs.Joining.{are_words, both, is_some, joined, lacks}
use Rattle.paprvio.proofs.NumberWords.{and_both, if_false, is_letter, is_word}

-- what is so of each byte of a list
implied : (p q : ℕ → Bool) → ((b : ℕ) → p b ≡ true → q b ≡ true) → (bytes : List ℕ) → list_all p bytes ≡ true → list_all q bytes ≡ true
implied p q f [] e = refl
implied p q f (b ∷ bs) e = let parts = both (p b) (list_all p bs) e in and_both (q b) (list_all q bs) (f b parts.0) (implied p q f bs parts.1)

letter_no_space : (b : ℕ) → is_letter b ≡ true → not (b == 32) ≡ true
letter_no_space b e = ap not (ne_eqb b 32 (λ same. omega (arith, same, leb-true 33 b (both (nat_le 33 b) (nat_le b 126) e).0)))

letter_printable : (b : ℕ) → is_letter b ≡ true → is_printable b ≡ true
letter_printable b e =
    let range = both (nat_le 33 b) (nat_le b 126) e in
    and_both (nat_le 32 b) (nat_le b 126) (le-leb 32 b (omega (arith, leb-true 33 b range.0))) range.1

printable_no_feed : (b : ℕ) → is_printable b ≡ true → not (b == 10) ≡ true
printable_no_feed b e = ap not (ne_eqb b 10 (λ same. omega (arith, same, leb-true 32 b (both (nat_le 32 b) (nat_le b 126) e).0)))

letters : (word : List ℕ) → is_word word ≡ true → list_all is_letter word ≡ true
letters word e = (both (list_all is_letter word) (is_some word && nat_le (length word) 20) e).0

short : (word : List ℕ) → is_word word ≡ true → length word ≤ 20
short word e = leb-true (length word) 20 (both (is_some word) (nat_le (length word) 20) (both (list_all is_letter word) (is_some word && nat_le (length word) 20) e).1).1

some : (word : List ℕ) → is_word word ≡ true → is_some word ≡ true
some word e = (both (is_some word) (nat_le (length word) 20) (both (list_all is_letter word) (is_some word && nat_le (length word) 20) e).1).0

words_all : (p : List ℕ → Bool) → ((w : List ℕ) → is_word w ≡ true → p w ≡ true) → (words : List (List ℕ)) → list_all is_word words ≡ true → list_all p words ≡ true
words_all p f [] e = refl
words_all p f (w ∷ ws) e = let parts = both (is_word w) (list_all is_word ws) e in and_both (p w) (list_all p ws) (f w parts.0) (words_all p f ws parts.1)

-- all bytes of a line of words are printable
pub printable : (first : List ℕ) (words : List (List ℕ)) → list_all is_word (first ∷ words) ≡ true → list_all is_printable (joined 32 first words) ≡ true
printable first [] e = implied is_letter is_printable letter_printable first (letters first (both (is_word first) true e).0)
printable first (word ∷ words) e =
    let parts = both (is_word first) (list_all is_word (word ∷ words)) e in
    list_all-append is_printable first (32 ∷ joined 32 word words)
    ∙ and_both (list_all is_printable first) (list_all is_printable (joined 32 word words)) (implied is_letter is_printable letter_printable first (letters first parts.0)) (printable word words parts.1)

pub no_feed : (first : List ℕ) (words : List (List ℕ)) → list_all is_word (first ∷ words) ≡ true → lacks 10 (joined 32 first words) ≡ true
no_feed first words e = implied is_printable (λ b. not (b == 10)) printable_no_feed (joined 32 first words) (printable first words e)

pub long : (first : List ℕ) (words : List (List ℕ)) → list_all is_word (first ∷ words) ≡ true → length (joined 32 first words) ≤ 20 + 21 * length words
long first [] e = omega (arith, short first (both (is_word first) true e).0)
long first (word ∷ words) e =
    let parts = both (is_word first) (list_all is_word (word ∷ words)) e in
    omega (arith, length-append first (32 ∷ joined 32 word words), short first parts.0, long word words parts.1)

-- behind the first line, a line of words is judged by them
pub judged_by_words : (n : ℕ) (s : SoFar) (first : List ℕ) (words : List (List ℕ)) → list_all is_word (first ∷ words) ≡ true → length words ≤ 40 → 2 ≤ n
    → judge n s (joined 32 first words) ≡ judge_words n s (first ∷ words)
judged_by_words n s first words e few later =
    let line : List ℕ = joined 32 first words in
    if_false (has_bad_byte line) (bad causes.BadByte) _ (ap not (printable first words e))
    ∙ if_false (nat_lt 1024 (length line)) (bad causes.LineLength) _ (below 1024 (length line) (omega (arith, few, long first words e)))
    ∙ if_false (n == 1) (judge_first s (words_of line)) (judge_words n s (words_of line)) (ne_eqb n 1 (λ one. omega (arith, one, later)))
    ∙ ap (judge_words n s) (are_words first words (words_all (lacks 32) (λ w h. implied is_letter (λ b. not (b == 32)) letter_no_space w (letters w h)) (first ∷ words) e)
    (words_all is_some some (first ∷ words) e))
  where
    below : (a b : ℕ) → b ≤ a → nat_lt a b ≡ false
    below a b h = not_less (nat_lt a b) a b refl h
      where
        not_less : (t : Bool) (a b : ℕ) → nat_lt a b ≡ t → b ≤ a → t ≡ false
        not_less true a b e h = absurd (omega (arith, h, ltb-true a b e))
        not_less false a b e h = refl

-- one line more is read
pub read_on : (n : ℕ) (s s' : SoFar) (line : List ℕ) (lines : List (List ℕ)) → judge n s line ≡ good s' → read_from n s (line ∷ lines) ≡ read_from (n + 1) s' lines
read_on n s s' line lines e = ap (goes_on n (λ t. read_from (n + 1) t lines)) e
