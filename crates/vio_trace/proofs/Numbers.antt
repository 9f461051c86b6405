-- The value of a decimal number's digits.
use Rattle.std.proofs.Common.{◌≡◌, ◌<◌, ◌≤◌, ◌^◌, ◌+◌, ◌*◌, ℕ, true, List, [], ◌∷◌, Some, None, nat_lt, decimal, refl, sym, ap, ◌∙◌, arith, rules}
use Rattle.std.specs.Option.{unwrap_or}
use Rattle.std.specs.Char.{digit_value}
use Rattle.std.specs.Str.Parse.{AllDigits, digits_value_after}
use Rattle.std.proofs.lemmas.Fmt.{decimal_is_IsNumeral}
use Rattle.vio_trace.specs.Reading.{NoneIs, Without, value_on}
use Rattle.vio_trace.proofs.Cuts.{Above}
use Rattle.vio_trace.proofs.Spelled.{plain_decimal}

value_grows : (n : ℕ) (ds : List ℕ) → n ≤ digits_value_after 10 n ds
value_grows n [] = omega arith
value_grows n (c ∷ cs) = omega (arith, value_grows (n * 10 + digit_value c) cs)

pub value_of_digits : (n : ℕ) (ds : List ℕ) → AllDigits 10 ds → digits_value_after 10 n ds < 2 ^ 64 → value_on n ds ≡ Some (digits_value_after 10 n ds)
value_of_digits n [] d small = refl
value_of_digits n (c ∷ cs) d small =
    let digit : nat_lt (digit_value c) 10 ≡ true = search (rules, arith, d.0) in
    let next : n * 10 + digit_value c < 2 ^ 64 = omega (arith, value_grows (n * 10 + digit_value c) cs, small) in
    let fits : nat_lt (n * 10 + digit_value c) (2 ^ 64) ≡ true = search (rules, arith, next) in
    rw (digit, fits) (value_of_digits (n * 10 + digit_value c) cs d.1 small)

pub value_of_decimal : (n : ℕ) → n < 2 ^ 64 → value_on 0 (decimal n) ≡ Some n
value_of_decimal n h =
    let is = decimal_is_IsNumeral n h in
    value_of_digits 0 (decimal n) is.0.1 (omega (arith, is.1, h)) ∙ ap Some is.1

-- what no number has as its text, no smaller one has
pub none_below : (most least : ℕ) (word : List ℕ) → least ≤ most → NoneIs decimal (λ n. n ≤ most) word → NoneIs decimal (λ n. n ≤ least) word
none_below most least word less none n fits e = none n (omega (arith, fits, less)) e

pub without_above : (k : ℕ) (word : List ℕ) → Above k word → Without k word
without_above k [] h = tt
without_above k (c ∷ cs) h = (λ e. omega (arith, e, h.0), without_above k cs h.1)

pub decimal_without : (n : ℕ) → n < 2 ^ 64 → Without 32 (decimal n)
decimal_without n h = without_above 32 (decimal n) (plain_decimal n h)

-- a number above the greatest that is allowed
pub too_great : (n most : ℕ) (word : List ℕ) → n < 2 ^ 64 → most < 2 ^ 64 → most < n → value_on 0 word ≡ Some n → NoneIs decimal (λ m. m ≤ most) word
too_great n most word h k more is m fits e =
    let same : Some m ≡ Some n = sym (value_of_decimal m (omega (arith, fits, k))) ∙ ap (value_on 0) e ∙ is in
    omega (arith, ap (λ o. unwrap_or o 0) same, fits, more)

-- digits that are not written as their value is
pub not_written : (n most : ℕ) (word : List ℕ) → most < 2 ^ 64 → value_on 0 word ≡ Some n → ¬ (decimal n ≡ word) → NoneIs decimal (λ m. m ≤ most) word
not_written n most word k is other m fits e =
    let same : Some m ≡ Some n = sym (value_of_decimal m (omega (arith, fits, k))) ∙ ap (value_on 0) e ∙ is in
    other (ap decimal (sym (ap (λ o. unwrap_or o 0) same)) ∙ e)

-- bytes that write no number
pub no_value : (most : ℕ) (word : List ℕ) → most < 2 ^ 64 → value_on 0 word ≡ None → NoneIs decimal (λ m. m ≤ most) word
no_value most word k is m fits e = cc (value_of_decimal m (omega (arith, fits, k)), ap (value_on 0) e, is)
