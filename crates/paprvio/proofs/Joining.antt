-- Parts that a byte joins are those that it cuts again: the lines of a text, and the words of a line.
use Rattle.std.proofs.Common.{◌≡◌, ℕ, ◌+◌, ◌-◌, ◌==◌, ◌&&◌, Bool, true, false, not, All, List, [], ◌∷◌, ◌++◌, length, take, filter, if◌then◌else◌, nat_lt, slice_index, refl, ap, ◌∙◌, arith, length-append}
use Rattle.std.specs.List.{list_all, slice_split}
use Rattle.std.specs.Io.BufRead.{ends_with_byte, strip_last}
use Rattle.std.proofs.Math.Seq.{take-append_seam, get_or-append_seam}
use Rattle.std.proofs.lemmas.Bool.{eq-eqb, lt-ltb}
use Rattle.std.proofs.lemmas.List.Elements.{All-weaker}
use Rattle.std.proofs.lemmas.List.Splits.{slice_split_at, slice_split_none}
use Rattle.std.proofs.lemmas.List.Sums.{AllPass-from_list_all}
use Rattle.boot_text.specs.Words.{lines_of, words_of}

pub both : (a b : Bool) → (a && b) ≡ true → (a ≡ true) × (b ≡ true)
both true b e = (refl, e)
both false b e = absurd (cc)

not_false : (b : Bool) → not b ≡ true → b ≡ false
not_false true e = absurd (cc)
not_false false e = refl

-- whether a part has no such byte
abbrev pub lacks : ℕ → List ℕ → Bool
lacks c part = list_all (λ b. not (b == c)) part

-- parts, each but the first behind the byte
abbrev pub joined : ℕ → List ℕ → List (List ℕ) → List ℕ
joined c first [] = first
joined c first (part ∷ parts) = first ++ c ∷ joined c part parts

apart : (c : ℕ) (part : List ℕ) → lacks c part ≡ true → All (λ b. (b == c) ≡ false) part
apart c part e = All-weaker (λ b. not (b == c) ≡ true) (λ b. (b == c) ≡ false) (λ b n. not_false (b == c) n) part (AllPass-from_list_all (λ b. not (b == c)) part e)

pub cut : (c : ℕ) (first : List ℕ) (parts : List (List ℕ)) → lacks c first ≡ true → list_all (lacks c) parts ≡ true
    → slice_split (λ b. b == c) (joined c first parts) ≡ first ∷ parts
cut c first [] h hs = slice_split_none (λ b. b == c) first (apart c first h)
cut c first (part ∷ parts) h hs =
    let more = both (lacks c part) (list_all (lacks c) parts) hs in
    slice_split_at (λ b. b == c) first c (joined c part parts) (apart c first h) (eq-eqb c c refl) ∙ ap (λ rest. first ∷ rest) (cut c part parts more.0 more.1)

-- a text without the line feed at its end
stripped : (text : List ℕ) → strip_last 10 (text ++ 10 ∷ []) ≡ text
stripped text =
    let long : length (text ++ 10 ∷ []) ≡ length text + 1 = length-append text (10 ∷ []) in
    let last : length (text ++ 10 ∷ []) - 1 ≡ length text = omega (arith, long) in
    let byte : slice_index (text ++ 10 ∷ []) (length (text ++ 10 ∷ []) - 1) ≡ 10 = ap (slice_index (text ++ 10 ∷ [])) last ∙ get_or-append_seam text 10 [] 0 in
    let some : nat_lt 0 (length (text ++ 10 ∷ [])) ≡ true = lt-ltb 0 (length (text ++ 10 ∷ [])) (omega (arith, long)) in
    given (ends_with_byte 10 (text ++ 10 ∷ [])) (ends (nat_lt 0 (length (text ++ 10 ∷ []))) (slice_index (text ++ 10 ∷ []) (length (text ++ 10 ∷ []) - 1) == 10) some (eq-eqb _ 10 byte))
    ∙ ap (λ n. take n (text ++ 10 ∷ [])) last ∙ take-append_seam text (10 ∷ [])
  where
    ends : (a b : Bool) → a ≡ true → b ≡ true → (a && b) ≡ true
    ends true b e f = f
    ends false b e f = absurd (cc)

    given : (b : Bool) → b ≡ true → (if b then take (length (text ++ 10 ∷ []) - 1) (text ++ 10 ∷ []) else text ++ 10 ∷ []) ≡ take (length (text ++ 10 ∷ []) - 1) (text ++ 10 ∷ [])
    given true e = refl
    given false e = absurd (cc)

-- lines, each with a line feed behind it
pub are_lines : (first : List ℕ) (lines : List (List ℕ)) → lacks 10 first ≡ true → list_all (lacks 10) lines ≡ true
    → lines_of (joined 10 first lines ++ 10 ∷ []) ≡ first ∷ lines
are_lines first lines h hs = ap (slice_split (λ b. b == 10)) (stripped (joined 10 first lines)) ∙ cut 10 first lines h hs

-- whether a word has a byte
abbrev pub is_some : List ℕ → Bool
is_some word = not (length word == 0)

kept : (words : List (List ℕ)) → list_all is_some words ≡ true → filter is_some words ≡ words
kept [] e = refl
kept (word ∷ words) e =
    let parts = both (is_some word) (list_all is_some words) e in
    first (is_some word) parts.0 ∙ ap (λ rest. word ∷ rest) (kept words parts.1)
  where
    first : (b : Bool) → b ≡ true → (if b then word ∷ filter is_some words else filter is_some words) ≡ word ∷ filter is_some words
    first true e = refl
    first false e = absurd (cc)

-- words, each but the first behind a space
pub are_words : (first : List ℕ) (words : List (List ℕ)) → list_all (lacks 32) (first ∷ words) ≡ true → list_all is_some (first ∷ words) ≡ true
    → words_of (joined 32 first words) ≡ first ∷ words
are_words first words lack some =
    let parts = both (lacks 32 first) (list_all (lacks 32) words) lack in
    ap (filter is_some) (cut 32 first words parts.0 parts.1) ∙ kept (first ∷ words) some
