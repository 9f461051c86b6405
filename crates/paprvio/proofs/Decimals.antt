-- Decimal digits: texts of them parse as the numbers that they write.
use Rattle.std.proofs.Common.{◌≡◌, ◌∙◌, ℕ, ◌^◌, ◌<◌, ◌≤◌, ◌&&◌, Bool, true, false, List, [], ◌∷◌, Some, None, Result, Ok, Err, cond, length, nat_le, refl, sym, ap, arith}
use Rattle.std.specs.List.{list_all}
use Rattle.std.specs.Int.{IsInRange}
use Rattle.std.specs.Str.Parse.{AllDigits, ParsesUnsigned, digits_value, without_leading_plus}
use Rattle.std.proofs.lemmas.Str.Parse.{without_leading_plus_none}
use Rattle.std.proofs.lemmas.Bool.{leb-true, le-leb}
use Rattle.std.proofs.Math.Nat.{pow-le-pow_right}
use Rattle.std.specs.Result.{result_ok}
use Rattle.std.proofs.lemmas.Str.{digit_value_digit}
use Rattle.std.proofs.lemmas.Int.Digits.{digits_value-lt}
use Rattle.paprvio.specs.Words.{decimal_of, is_digit}

both : (a b : Bool) → (a && b) ≡ true → (a ≡ true) × (b ≡ true)
both true b e = (refl, e)
both false b e = absurd (cc)

is_digit_in : (c : ℕ) → is_digit c ≡ true → IsInRange 48 57 c
is_digit_in c e = let e2 = both (nat_le 48 c) (nat_le c 57) e in (leb-true 48 c e2.0, leb-true c 57 e2.1)

pub digits_are : (bs : List ℕ) → list_all is_digit bs ≡ true → AllDigits 10 bs
digits_are [] e = tt
digits_are (c ∷ cs) e =
    let parts = both (is_digit c) (list_all is_digit cs) e in
    let range = is_digit_in c parts.0 in
    let value = digit_value_digit c range in
    (omega (arith, value, range), digits_are cs parts.1)

-- a text of digits begins with no plus
no_plus : (bs : List ℕ) → list_all is_digit bs ≡ true → without_leading_plus bs ≡ bs
no_plus [] e = refl
no_plus (c ∷ cs) e =
    let range = is_digit_in c (both (is_digit c) (list_all is_digit cs) e).0 in
    without_leading_plus_none (c ∷ cs) (λ plus. omega (arith, plus, range))

-- what a parse of such a text gives
pub parses : {E : Type 0} (bs : List ℕ) (r : Result ℕ E) → list_all is_digit bs ≡ true → 1 ≤ length bs → length bs ≤ 10
    → ParsesUnsigned 64 10 bs r → r ≡ Ok (digits_value 10 bs)
parses bs (Ok n) all some few p = ap Ok (p.1 ∙ ap (digits_value 10) (no_plus bs all))
parses bs (Err e) all some few p =
    let same = no_plus bs all in
    let digits = digits_are bs all in
    let most = digits_value-lt 10 bs digits in
    let fits : digits_value 10 bs < 2 ^ 64 = small (length bs) few most in
    absurd (p (rw same (some, digits), rw same fits))
  where
    small : (n : ℕ) → n ≤ 10 → digits_value 10 bs < 10 ^ n → digits_value 10 bs < 2 ^ 64
    small n few most =
        let le = pow-le-pow_right {n = 10} (omega arith) {i = n} {j = 10} few in
        let ten : 10 ^ 10 < 2 ^ 64 = omega arith in
        omega (arith, most, le, ten)

-- the number that a text of digits writes is what a parse of it gives
pub reads : {E : Type 0} (most : ℕ) (bs : List ℕ) (r : Result ℕ E) → most ≤ 10 → length bs ≤ most → list_all is_digit bs ≡ true
    → ParsesUnsigned 64 10 bs r → result_ok r ≡ decimal_of most bs
reads most [] (Ok n) few short all p = absurd (omega (arith, p.0.0.0))
reads most [] (Err e) few short all p = refl
reads most (c ∷ cs) r few short all p =
    ap result_ok (parses (c ∷ cs) r all (omega arith) (omega (arith, few, short)) p)
    ∙ sym (is_read (nat_le 1 (length (c ∷ cs))) (le-leb 1 (length (c ∷ cs)) (omega arith)) (nat_le (length (c ∷ cs)) most) (le-leb (length (c ∷ cs)) most short)
    (list_all is_digit (c ∷ cs)) all)
  where
    is_read : (a : Bool) → a ≡ true → (b : Bool) → b ≡ true → (d : Bool) → d ≡ true
        → cond (a && (b && d)) (Some (digits_value 10 (c ∷ cs))) None ≡ Some (digits_value 10 (c ∷ cs))
    is_read true e true f true g = refl
    is_read true e true f false g = absurd (cc)
    is_read true e false f d g = absurd (cc)
    is_read false e b f d g = absurd (cc)
