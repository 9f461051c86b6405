-- The words of a line: none has a space, and each tells its value.
use Rattle.std.proofs.Common.{◌≡◌, ◌<◌, ◌^◌, ℕ, zero, suc, ◌+◌, ◌/◌, ◌%◌, ◌&&◌, Bool, true, List, [], ◌∷◌, ◌++◌, Option, Some, None, map, nat_lt, slice_index, codes, decimal, length, refl, sym, ap, ◌∙◌, append_assoc, arith, rules, ◌==◌, if◌then◌else◌, drop, ◌≤◌}
use Rattle.std.specs.Prelude.{IfSome}
use Rattle.std.specs.Int.{w32, w64, byte_at, bytes_high_first, to_be_bytes, from_be_bytes}
use Rattle.std.specs.Int.Digits.{digits_of}
use Rattle.std.specs.Result.{result_unwrap_or}
use Rattle.std.proofs.Math.Nat.{mod-lt}
use Rattle.std.proofs.lemmas.Bool.{and_parts, ltb-true}
use Rattle.std.specs.Str.Parse.{digits_value}
use Rattle.std.proofs.lemmas.Fmt.{decimal_digit, decimal_injective, decimal-digits_of, decimal_is_IsNumeral}
use Rattle.std.proofs.lemmas.Nat.{from_be_bytes-to_be_bytes_4, from_be_bytes-to_be_bytes_8}
use Rattle.hex.specs.Hex.{IsBytes, decode_pairs, encode_with, encode_lower, lower_digits}
use Rattle.hex.proofs.HexLemmas.{IsDigits-lower_digits, decode_pairs-encode_with}
use Rattle.vio_num.specs.declared.names.UnitId.{UnitId}
use Rattle.vio_num.specs.declared.history.Lapse.{Lapse}
use Rattle.vio_num.specs.declared.history.Lapse.TheVariants as lapses
use Rattle.vio_num.specs.declared.hypervisor.Hrc.{Hrc}
use Rattle.vio_num.specs.declared.hypervisor.Hrc.TheVariants as hrc
use Rattle.vio_trace.specs.Form.{IsName, IsHalf}
use Rattle.vio_trace.specs.Text.{name, digits, half_digits, bytes, number_or_none, cause, code}
use Rattle.vio_trace.proofs.Cuts.{Above, above_less, above_append, heads, word_cut}

-- decimal numbers

above_map : (ds : List ℕ) → Above 47 (map (λ d. 48 + d) ds)
above_map [] = tt
above_map (d ∷ ds) = (omega arith, above_map ds)

pub above_decimal : (n : ℕ) → n < 2 ^ 64 → Above 47 (decimal n)
above_decimal zero h = rw (decimal_digit 0 (omega arith)) (omega arith, tt)
above_decimal (suc n) h = rw (decimal-digits_of (suc n) (omega arith) h) (above_map (digits_of 10 (suc n)))

pub plain_decimal : (n : ℕ) → n < 2 ^ 64 → Above 32 (decimal n)
plain_decimal n h = above_less 32 47 (decimal n) (omega arith) (above_decimal n h)

-- the number that a decimal word writes
pub from_decimal : (n : ℕ) → n < 2 ^ 64 → digits_value 10 (decimal n) ≡ n
from_decimal n h = (decimal_is_IsNumeral n h).1

-- names of units

pub plain_name : (u : UnitId) → IsName u → Above 32 (name u)
plain_name u h =
    above_append 32 (decimal u.partition ++ codes ".") (decimal u.unit)
    (above_append 32 (decimal u.partition) (codes ".") (plain_decimal u.partition (omega (arith, h.partition))) (omega arith, tt))
    (plain_decimal u.unit (omega (arith, h.own)))

unit_from : (u v : UnitId) → u.partition ≡ v.partition → u.unit ≡ v.unit → u ≡ v
unit_from u v e f =
    ap (λ (n : ℕ). let made : UnitId = record { partition = n; unit = u.unit } in made) e
    ∙ ap (λ (n : ℕ). let made : UnitId = record { partition = v.partition; unit = n } in made) f

pub name_tells : (u v : UnitId) → IsName u → IsName v → name u ≡ name v → u ≡ v
name_tells u v h k e =
    let dot = word_cut 46 (decimal u.partition) (decimal v.partition) 46 46 (decimal u.unit) (decimal v.unit)
    (above_less 46 47 (decimal u.partition) (omega arith) (above_decimal u.partition (omega (arith, h.partition))))
    (above_less 46 47 (decimal v.partition) (omega arith) (above_decimal v.partition (omega (arith, k.partition))))
    (omega arith) (omega arith)
    (sym (append_assoc (decimal u.partition) (codes ".") (decimal u.unit)) ∙ e ∙ append_assoc (decimal v.partition) (codes ".") (decimal v.unit)) in
    unit_from u v
    (decimal_injective u.partition v.partition (omega (arith, h.partition)) (omega (arith, k.partition)) dot.word)
    (decimal_injective u.unit v.unit (omega (arith, h.own)) (omega (arith, k.own)) dot.rest)

-- digits of bytes

abbrev all_above : ℕ → List ℕ → Bool
all_above k [] = true
all_above k (c ∷ cs) = nat_lt k c && all_above k cs

above_at : (k : ℕ) (cs : List ℕ) (i : ℕ) → all_above k cs ≡ true → i < length cs → k < slice_index cs i
above_at k [] i h lt = absurd (omega (arith, lt))
above_at k (c ∷ cs) zero h lt = ltb-true k c (and_parts (nat_lt k c) (all_above k cs) h).0
above_at k (c ∷ cs) (suc i) h lt = above_at k cs i (and_parts (nat_lt k c) (all_above k cs) h).1 (omega (arith, lt))

digit_above : (d : ℕ) → d < 16 → 47 < slice_index lower_digits d
digit_above d lt = above_at 47 lower_digits d refl lt

pub above_hex : (xs : List ℕ) → IsBytes xs → Above 47 (encode_lower xs)
unfolding encode_with
above_hex [] h = tt
above_hex (x ∷ xs) h =
    let byte : x < 256 = h 0 in
    (digit_above (x / 16) (omega (arith, byte)), (digit_above (x % 16) (omega (arith, byte)), above_hex xs (λ i. h (suc i))))

-- the bytes that digits write
abbrev pub unhex : List ℕ → List ℕ
unhex word = result_unwrap_or (decode_pairs 0 word) []

pub from_hex : (xs : List ℕ) → IsBytes xs → unhex (encode_lower xs) ≡ xs
from_hex xs h = ap (λ r. result_unwrap_or r []) (decode_pairs-encode_with lower_digits IsDigits-lower_digits 0 xs h)

pub hex_tells : (xs ys : List ℕ) → IsBytes xs → IsBytes ys → encode_lower xs ≡ encode_lower ys → xs ≡ ys
hex_tells xs ys h k e = sym (from_hex xs h) ∙ ap unhex e ∙ from_hex ys k

-- numbers of 64 bits in sixteen digits

byte_small : (k n : ℕ) → byte_at k n < 256
byte_small zero n = mod-lt n (omega arith)
byte_small (suc k) n = mod-lt (n / 256 ^ suc k) (omega arith)

pub bytes_small : (k n : ℕ) → IsBytes (bytes_high_first k n)
bytes_small zero n i = omega arith
bytes_small (suc k) n zero = byte_small k n
bytes_small (suc k) n (suc i) = bytes_small k n i

pub plain_digits : (n : ℕ) → Above 32 (digits n)
plain_digits n = above_less 32 47 (digits n) (omega arith) (above_hex (to_be_bytes w64 n) (bytes_small 8 n))

pub from_digits : (n : ℕ) → n < 2 ^ 64 → from_be_bytes w64 (unhex (digits n)) ≡ n
from_digits n h = ap (from_be_bytes w64) (from_hex (to_be_bytes w64 n) (bytes_small 8 n)) ∙ from_be_bytes-to_be_bytes_8 n h

pub digits_tell : (m n : ℕ) → m < 2 ^ 64 → n < 2 ^ 64 → digits m ≡ digits n → m ≡ n
digits_tell m n h k e = sym (from_digits m h) ∙ ap (λ (word : List ℕ). from_be_bytes w64 (unhex word)) e ∙ from_digits n k

-- numbers of 32 bits in eight digits

pub plain_half_digits : (n : ℕ) → Above 32 (half_digits n)
plain_half_digits n = above_less 32 47 (half_digits n) (omega arith) (above_hex (to_be_bytes w32 n) (bytes_small 4 n))

pub from_half_digits : (n : ℕ) → n < 2 ^ 32 → from_be_bytes w32 (unhex (half_digits n)) ≡ n
from_half_digits n h = ap (from_be_bytes w32) (from_hex (to_be_bytes w32 n) (bytes_small 4 n)) ∙ from_be_bytes-to_be_bytes_4 n h

-- lists of bytes

pub plain_bytes : (xs : List ℕ) → IsBytes xs → Above 32 (bytes xs)
plain_bytes [] h = (omega arith, tt)
plain_bytes (x ∷ xs) h = above_less 32 47 (encode_lower (x ∷ xs)) (omega arith) (above_hex (x ∷ xs) h)

pub from_bytes : (xs : List ℕ) → IsBytes xs → 1 ≤ length xs → unhex (bytes xs) ≡ xs
from_bytes [] h some = absurd (omega (arith, some))
from_bytes (x ∷ xs) h some = from_hex (x ∷ xs) h

-- a word above the hyphen is not the hyphen
no_hyphen : (w : List ℕ) → Above 47 w → codes "-" ≡ w → ⊥
no_hyphen [] a e = absurd (omega (arith, ap (λ (l : List ℕ). length l) e))
no_hyphen (c ∷ w) a e = omega (arith, heads 45 c [] w e, a.0)

pub bytes_tell : (xs ys : List ℕ) → IsBytes xs → IsBytes ys → bytes xs ≡ bytes ys → xs ≡ ys
bytes_tell [] [] h k e = refl
bytes_tell [] (y ∷ ys) h k e = absurd (no_hyphen (encode_lower (y ∷ ys)) (above_hex (y ∷ ys) k) e)
bytes_tell (x ∷ xs) [] h k e = absurd (no_hyphen (encode_lower (x ∷ xs)) (above_hex (x ∷ xs) h) (sym e))
bytes_tell (x ∷ xs) (y ∷ ys) h k e = hex_tells (x ∷ xs) (y ∷ ys) h k e

-- numbers that may be absent

pub plain_number_or_none : (n : Option ℕ) → IfSome n IsHalf → Above 32 (number_or_none n)
plain_number_or_none None h = (omega arith, tt)
plain_number_or_none (Some n) h = plain_decimal n (omega (arith, h))

pub number_or_none_tells : (m n : Option ℕ) → IfSome m IsHalf → IfSome n IsHalf → number_or_none m ≡ number_or_none n → m ≡ n
number_or_none_tells None None h k e = refl
number_or_none_tells None (Some n) h k e = absurd (no_hyphen (decimal n) (above_decimal n (omega (arith, k))) e)
number_or_none_tells (Some m) None h k e = absurd (no_hyphen (decimal m) (above_decimal m (omega (arith, h))) (sym e))
number_or_none_tells (Some m) (Some n) h k e = ap Some (decimal_injective m n (omega (arith, h)) (omega (arith, k)) e)

-- causes

pub plain_cause : (why : Lapse) → Above 32 (cause why)
plain_cause lapses.Logout = search (rules, arith)
plain_cause lapses.Lost = search (rules, arith)
plain_cause lapses.Early = search (rules, arith)
plain_cause lapses.BadIu = search (rules, arith)
plain_cause lapses.NotLogin = search (rules, arith)
plain_cause lapses.OverLimit = search (rules, arith)
plain_cause lapses.Refused = search (rules, arith)

-- the cause of a word, by its first letter and its third
abbrev cause_of : List ℕ → Lapse
cause_of word =
    if slice_index word 0 == 101 then lapses.Early
    else if slice_index word 0 == 98 then lapses.BadIu
    else if slice_index word 0 == 110 then lapses.NotLogin
    else if slice_index word 0 == 111 then lapses.OverLimit
    else if slice_index word 0 == 114 then lapses.Refused
    else if slice_index word 2 == 103 then lapses.Logout
    else lapses.Lost

cause_back : (why : Lapse) → cause_of (cause why) ≡ why
cause_back lapses.Logout = refl
cause_back lapses.Lost = refl
cause_back lapses.Early = refl
cause_back lapses.BadIu = refl
cause_back lapses.NotLogin = refl
cause_back lapses.OverLimit = refl
cause_back lapses.Refused = refl

pub cause_tells : (a b : Lapse) → cause a ≡ cause b → a ≡ b
cause_tells a b e = sym (cause_back a) ∙ ap cause_of e ∙ cause_back b

-- codes of calls

pub plain_code : (c : Hrc) → Above 32 (code c)
plain_code hrc.Success = plain_decimal 0 (omega arith)
plain_code hrc.Busy = plain_decimal 1 (omega arith)
plain_code hrc.Closed = plain_decimal 2 (omega arith)
plain_code hrc.Function = (omega arith, plain_decimal 2 (omega arith))
plain_code hrc.Parameter = (omega arith, plain_decimal 4 (omega arith))
plain_code hrc.NotFound = (omega arith, plain_decimal 7 (omega arith))
plain_code hrc.Dropped = (omega arith, plain_decimal 12 (omega arith))
plain_code hrc.SourceParm = (omega arith, plain_decimal 13 (omega arith))
plain_code hrc.DestParm = (omega arith, plain_decimal 14 (omega arith))
plain_code hrc.Resource = (omega arith, plain_decimal 16 (omega arith))

-- the code of a number, and of a number below 0
abbrev code_at : ℕ → Hrc
code_at n = if n == 0 then hrc.Success else if n == 1 then hrc.Busy else hrc.Closed

abbrev code_below : ℕ → Hrc
code_below n =
    if n == 2 then hrc.Function
    else if n == 4 then hrc.Parameter
    else if n == 7 then hrc.NotFound
    else if n == 12 then hrc.Dropped
    else if n == 13 then hrc.SourceParm
    else if n == 14 then hrc.DestParm
    else hrc.Resource

-- the code of a word
abbrev pub uncode : List ℕ → Hrc
uncode word =
    if slice_index word 0 == 45 then code_below (digits_value 10 (drop 1 word)) else code_at (digits_value 10 word)

pub from_code : (c : Hrc) → uncode (code c) ≡ c
from_code hrc.Success = ap uncode (decimal_digit 0 (omega arith))
from_code hrc.Busy = ap uncode (decimal_digit 1 (omega arith))
from_code hrc.Closed = ap uncode (decimal_digit 2 (omega arith))
from_code hrc.Function = ap code_below (from_decimal 2 (omega arith))
from_code hrc.Parameter = ap code_below (from_decimal 4 (omega arith))
from_code hrc.NotFound = ap code_below (from_decimal 7 (omega arith))
from_code hrc.Dropped = ap code_below (from_decimal 12 (omega arith))
from_code hrc.SourceParm = ap code_below (from_decimal 13 (omega arith))
from_code hrc.DestParm = ap code_below (from_decimal 14 (omega arith))
from_code hrc.Resource = ap code_below (from_decimal 16 (omega arith))
