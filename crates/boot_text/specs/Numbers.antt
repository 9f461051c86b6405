-- The numbers, names and addresses that words write.
use Rattle.std.specs.Prelude.{ℕ, ◌+◌, ◌*◌, ◌^◌, ◌==◌, ◌&&◌, Bool, List, [], ◌∷◌, length, nat_lt, nat_le, Option, Some, None, if◌then◌else◌, drop, take, codes, map, slice_index, min}
use Rattle.std.specs.List.{slice_split}
use Rattle.std.specs.Result.{result_ok}
use Rattle.hex.specs.Hex.{decode_of, decode_sized}
use Rattle.vio_num.specs.declared.names.Mac.{Mac}
use Rattle.boot_text.specs.declared.names.Name.{Name}
use Rattle.std.specs.Char.{digit_value}
use Rattle.std.specs.Option.{option_and_then, option_map}
use Rattle.boot_text.specs.Words.{is}

-- the number that these digits write behind n, below 2^64
abbrev pub digits_on : ℕ → ℕ → List ℕ → Option ℕ
digits_on base n [] = Some n
digits_on base n (c ∷ cs) =
    if nat_lt (digit_value c) base && nat_lt (n * base + digit_value c) (2 ^ 64)
    then digits_on base (n * base + digit_value c) cs else None

-- the number that 1 to `most` digits write
abbrev pub digits : ℕ → ℕ → List ℕ → Option ℕ
digits base most word =
    if nat_le 1 (length word) && nat_le (length word) most then digits_on base 0 word else None

-- whether the word begins with `0x`
abbrev pub is_hexadecimal : List ℕ → Bool
is_hexadecimal word = nat_le 2 (length word) && is (take 2 word) (codes "0x")

-- the number that a word writes: 1 to 20 decimal digits, or `0x` and 1 to 16 hexadecimal ones
abbrev pub number : List ℕ → Option ℕ
number word = if is_hexadecimal word then digits 16 16 (drop 2 word) else digits 10 20 word

-- the number, if it lies in a range
abbrev pub if_in : ℕ → ℕ → ℕ → Option ℕ
if_in low high n = if nat_le low n && nat_le n high then Some n else None

-- the number that a word writes, if it lies in a range
abbrev pub number_in : ℕ → ℕ → List ℕ → Option ℕ
number_in low high word = option_and_then (if_in low high) (number word)

-- the bytes that a word writes in hexadecimal: 1 to `most` of them
abbrev pub hex : ℕ → List ℕ → Option (List ℕ)
hex most word =
    if nat_le 1 (length word) && nat_le (length word) (2 * most) then result_ok (decode_of word) else None

-- the twelve digits of six pairs that colons join
abbrev pub pair_digits : List ℕ → List ℕ
pair_digits word = map (slice_index word) (0 ∷ 1 ∷ 3 ∷ 4 ∷ 6 ∷ 7 ∷ 9 ∷ 10 ∷ 12 ∷ 13 ∷ 15 ∷ 16 ∷ [])

-- whether colons part six pairs
abbrev pub has_colons : List ℕ → Bool
has_colons word =
    slice_index word 2 == 58 && slice_index word 5 == 58 && slice_index word 8 == 58
    && slice_index word 11 == 58 && slice_index word 14 == 58

-- the address that a word writes: six pairs of hexadecimal digits, joined by colons
unfoldable pub mac : List ℕ → Option Mac
mac word =
    if length word == 17 && has_colons word
    then option_map (λ bytes. record { bytes = bytes }) (result_ok (decode_sized (pair_digits word) 6)) else None

-- the number that these decimal digits write behind n, or 255 for any above
abbrev pub part_on : ℕ → List ℕ → Option ℕ
part_on n [] = Some n
part_on n (c ∷ cs) = if nat_lt (digit_value c) 10 then part_on (min 255 (n * 10 + digit_value c)) cs else None

-- a part of a unit's name: 1 to 20 decimal digits. Any number above 255 is 255, which names nothing either
abbrev pub part : List ℕ → Option ℕ
part word = if nat_le 1 (length word) && nat_le (length word) 20 then part_on 0 word else None

-- the two parts of a name, which a dot joins
abbrev pub parts : List (List ℕ) → Option Name
parts (partition ∷ unit ∷ []) =
    option_and_then (λ p. option_map (λ u. record { partition = p; unit = u }) (part unit)) (part partition)
parts _ = None

-- the unit that a word names: its partition's number and its own in it, joined by a dot
abbrev pub name : List ℕ → Option Name
name word = parts (slice_split (λ b. b == 46) word)
