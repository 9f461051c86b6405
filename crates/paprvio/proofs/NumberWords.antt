-- The decimal digits of a number are a word, which reads as the number.
use Rattle.std.proofs.Common.{◌≡◌, ℕ, ◌+◌, ◌*◌, ◌^◌, ◌≤◌, ◌<◌, ◌==◌, ◌&&◌, Bool, true, false, not, List, [], ◌∷◌, Option, Some, None, length, drop, decimal, if◌then◌else◌, nat_le, nat_lt, refl, ap, ◌∙◌, arith}
use Rattle.std.specs.Char.{digit_value}
use Rattle.std.specs.List.{list_all}
use Rattle.std.specs.Str.Parse.{AllDigits, digits_value, digits_value_after}
use Rattle.std.proofs.lemmas.Bool.{lt-ltb, le-leb, ne_eqb}
use Rattle.std.proofs.lemmas.Fmt.{decimal_nonempty, digits_decimal, digits_value-decimal, length-decimal-le}
use Rattle.std.proofs.lemmas.Str.Parse.{digit_from_value, numerals_by_value, tells_digits}
use Rattle.boot_text.specs.Numbers.{digits, digits_on, is_hexadecimal, number, number_in, if_in}
use Rattle.boot_text.specs.Words.{is}
use Rattle.paprvio.proofs.Joining.{is_some}

-- both tests pass
pub and_both : (a b : Bool) → a ≡ true → b ≡ true → (a && b) ≡ true
and_both true b e f = f
and_both false b e f = absurd (cc)

pub if_true : {A : Type 0} (b : Bool) (x y : A) → b ≡ true → (if b then x else y) ≡ x
if_true true x y e = refl
if_true false x y e = absurd (cc)

pub if_false : {A : Type 0} (b : Bool) (x y : A) → b ≡ false → (if b then x else y) ≡ y
if_false true x y e = absurd (cc)
if_false false x y e = refl

le_after : (n : ℕ) (ds : List ℕ) → n ≤ digits_value_after 10 n ds
le_after n [] = omega arith
le_after n (c ∷ cs) = omega (arith, le_after (n * 10 + digit_value c) cs)

on : (n : ℕ) (ds : List ℕ) → AllDigits 10 ds → digits_value_after 10 n ds < 2 ^ 64 → digits_on 10 n ds ≡ Some (digits_value_after 10 n ds)
on n [] d small = refl
on n (c ∷ cs) d small =
    let next : ℕ = n * 10 + digit_value c in
    if_true (nat_lt (digit_value c) 10 && nat_lt next (2 ^ 64)) (digits_on 10 next cs) None
    (and_both (nat_lt (digit_value c) 10) (nat_lt next (2 ^ 64)) (lt-ltb (digit_value c) 10 d.0) (lt-ltb next (2 ^ 64) (omega (arith, le_after next cs, small))))
    ∙ on next cs d.1 small

-- digits begin with no `0x`
no_prefix : (ds : List ℕ) → AllDigits 10 ds → is_hexadecimal ds ≡ false
unfolding is
no_prefix [] d = refl
no_prefix (c ∷ []) d = refl
no_prefix (c ∷ e ∷ cs) d = none (c == 48) (e == 120) (nat_le 2 (length (c ∷ e ∷ cs))) (ne_eqb e 120 (λ same. omega (arith, same, digit_from_value e d.1.0)))
  where
    none : (a b long : Bool) → b ≡ false → (long && (a && (b && true))) ≡ false
    none true true long f = absurd (cc)
    none true false true f = refl
    none true false false f = refl
    none false b true f = refl
    none false b false f = refl

reads : (ds : List ℕ) → AllDigits 10 ds → 1 ≤ length ds → length ds ≤ 20 → digits_value 10 ds < 2 ^ 64 → number ds ≡ Some (digits_value 10 ds)
reads ds d some few small =
    if_false (is_hexadecimal ds) (digits 16 16 (drop 2 ds)) (digits 10 20 ds) (no_prefix ds d)
    ∙ if_true (nat_le 1 (length ds) && nat_le (length ds) 20) (digits_on 10 0 ds) None
    (and_both (nat_le 1 (length ds)) (nat_le (length ds) 20) (le-leb 1 (length ds) some) (le-leb (length ds) 20 few)) ∙ on 0 ds d small

all_digits : (n : ℕ) → n < 2 ^ 64 → AllDigits 10 (decimal n)
all_digits n h = digits_decimal (numerals_by_value _ tells_digits) n h

-- it reads as the number
pub number_of : (n : ℕ) → n < 2 ^ 64 → number (decimal n) ≡ Some n
number_of n h =
    let value : digits_value 10 (decimal n) ≡ n = digits_value-decimal (numerals_by_value _ tells_digits) n h in
    reads (decimal n) (all_digits n h) (omega (arith, decimal_nonempty n h)) (length-decimal-le 20 n (omega arith) (omega (arith, h)) h) (omega (arith, value, h)) ∙ ap Some value

-- and as one of a range in which it lies
pub number_within : (low high n : ℕ) → low ≤ n → n ≤ high → n < 2 ^ 64 → number_in low high (decimal n) ≡ Some n
number_within low high n above below h =
    ap (λ (o : Option ℕ). within o) (number_of n h)
    ∙ if_true (nat_le low n && nat_le n high) (Some n) None (and_both (nat_le low n) (nat_le n high) (le-leb low n above) (le-leb n high below))
  where
    within : Option ℕ → Option ℕ
    within (Some m) = if_in low high m
    within None = None

-- whether each byte of a word is printable and no space
abbrev pub is_letter : ℕ → Bool
is_letter b = nat_le 33 b && nat_le b 126

-- digits are such
digit_letters : (ds : List ℕ) → AllDigits 10 ds → list_all is_letter ds ≡ true
digit_letters [] d = refl
digit_letters (c ∷ cs) d =
    let range = digit_from_value c d.0 in
    and_both (is_letter c) (list_all is_letter cs) (and_both (nat_le 33 c) (nat_le c 126) (le-leb 33 c (omega (arith, range))) (le-leb c 126 (omega (arith, range)))) (digit_letters cs d.1)

pub letters_of : (n : ℕ) → n < 2 ^ 64 → list_all is_letter (decimal n) ≡ true
letters_of n h = digit_letters (decimal n) (all_digits n h)

-- whether a text is a word of at most 20 bytes
abbrev pub is_word : List ℕ → Bool
is_word word = list_all is_letter word && (is_some word && nat_le (length word) 20)

pub decimal_is_word : (n : ℕ) → n < 2 ^ 64 → is_word (decimal n) ≡ true
decimal_is_word n h =
    and_both (list_all is_letter (decimal n)) (is_some (decimal n) && nat_le (length (decimal n)) 20) (letters_of n h)
    (and_both (is_some (decimal n)) (nat_le (length (decimal n)) 20) (ap not (ne_eqb (length (decimal n)) 0 (λ none. omega (arith, none, decimal_nonempty n h))))
    (le-leb (length (decimal n)) 20 (length-decimal-le 20 n (omega arith) (omega (arith, h)) h)))
