-- Words of digits, undone: what decodes to other bytes is the word of no number, and of no list of bytes.
use Rattle.std.proofs.Common.{◌≡◌, ◌<◌, ◌≤◌, ◌/◌, ℕ, List, [], ◌∷◌, Result, Ok, Err, MatchResult, length, codes, decimal, refl, sym, ap, subst, ◌∙◌, arith}
use Rattle.std.specs.Int.{w32, w64, to_be_bytes, from_be_bytes}
use Rattle.std.specs.Result.{result_unwrap_or}
use Rattle.std.proofs.lemmas.Nat.{from_be_bytes-to_be_bytes_4, from_be_bytes-to_be_bytes_8}
use Rattle.hex.specs.declared.error.FromHexError.{FromHexError}
use Rattle.hex.specs.Hex.{IsBytes, decode_sized, encode_lower, encode_with, lower_digits}
use Rattle.hex.proofs.HexLemmas.{decode_sized-encode_lower, length-encode_with}
use Rattle.vio_trace.specs.Form.{AreShown, IsHalf, IsWord}
use Rattle.vio_trace.specs.declared.unread.Unread.{Unread}
use Rattle.vio_trace.specs.declared.unread.Unread.TheVariants as unread
use Rattle.vio_trace.specs.Reading.{NoneIs, Reads, Undecoded, Without}
use Rattle.vio_trace.specs.Text.{bytes, digits, half_digits}
use Rattle.vio_trace.specs.declared.read_kinds.HalfDigits.{HalfDigits}
use Rattle.vio_trace.proofs.Cuts.{above_less}
use Rattle.vio_trace.proofs.Numbers.{without_above}
use Rattle.vio_trace.proofs.Spelled.{above_decimal, bytes_small, bytes_tell}

-- what was decoded, by the answer
decoded_err : {A : Type 0} (d : Result (List ℕ) FromHexError) (r : Result A FromHexError) (one : A) (out : List ℕ) (e : FromHexError)
    → MatchResult d (λ given. (r ≡ Ok one) × (out ≡ given)) (λ err. r ≡ Err err) → r ≡ Err e → (xs : List ℕ) → ¬ (d ≡ Ok xs)
decoded_err (Ok given) r one out e h is xs q = cc (h.0, is)
decoded_err (Err err) r one out e h is xs q = cc (q)

decoded_ok : {A : Type 0} (d : Result (List ℕ) FromHexError) (r : Result A FromHexError) (one : A) (out : List ℕ)
    → MatchResult d (λ given. (r ≡ Ok one) × (out ≡ given)) (λ err. r ≡ Err err) → r ≡ Ok one → d ≡ Ok out
decoded_ok (Ok given) r one out h is = ap Ok (sym h.1)
decoded_ok (Err err) r one out h is = cc (h, is)

digits_decode : (v : ℕ) (word : List ℕ) → digits v ≡ word → decode_sized word 8 ≡ Ok (to_be_bytes w64 v)
digits_decode v word e = ap (λ (w : List ℕ). decode_sized w 8) (sym e) ∙ decode_sized-encode_lower (to_be_bytes w64 v) 8 refl (bytes_small 8 v)

-- a word that does not decode
pub no_digits : {A : Type 0} (word out : List ℕ) (r : Result A FromHexError) (one : A) (e : FromHexError)
    → MatchResult (decode_sized word 8) (λ given. (r ≡ Ok one) × (out ≡ given)) (λ err. r ≡ Err err) → r ≡ Err e → NoneIs digits IsWord word
no_digits word out r one e h is v small same = decoded_err (decode_sized word 8) r one out e h is (to_be_bytes w64 v) (digits_decode v word same)

-- a word that is not that of the number to which it decodes
pub other_digits : {A : Type 0} (word out : List ℕ) (r : Result A FromHexError) (one : A) (n : ℕ)
    → MatchResult (decode_sized word 8) (λ given. (r ≡ Ok one) × (out ≡ given)) (λ err. r ≡ Err err) → r ≡ Ok one
    → n ≡ from_be_bytes w64 out → ¬ (digits n ≡ word) → NoneIs digits IsWord word
other_digits word out r one n h is made other v small same =
    let given = decoded_ok (decode_sized word 8) r one out h is in
    let equal : out ≡ to_be_bytes w64 v = ap (λ d. result_unwrap_or d []) (sym given ∙ digits_decode v word same) in
    other (ap digits (made ∙ ap (from_be_bytes w64) equal ∙ from_be_bytes-to_be_bytes_8 v small) ∙ same)

half_decode : (v : ℕ) (word : List ℕ) → half_digits v ≡ word → decode_sized word 4 ≡ Ok (to_be_bytes w32 v)
half_decode v word e = ap (λ (w : List ℕ). decode_sized w 4) (sym e) ∙ decode_sized-encode_lower (to_be_bytes w32 v) 4 refl (bytes_small 4 v)

pub no_half_digits : {A : Type 0} (word out : List ℕ) (r : Result A FromHexError) (one : A) (e : FromHexError)
    → MatchResult (decode_sized word 4) (λ given. (r ≡ Ok one) × (out ≡ given)) (λ err. r ≡ Err err) → r ≡ Err e
    → NoneIs (λ (number : HalfDigits). half_digits number.value) (λ number. IsHalf number.value) word
no_half_digits word out r one e h is v small same = decoded_err (decode_sized word 4) r one out e h is (to_be_bytes w32 v.value) (half_decode v.value word same)

pub other_half_digits : {A : Type 0} (word out : List ℕ) (r : Result A FromHexError) (one : A) (n : ℕ)
    → MatchResult (decode_sized word 4) (λ given. (r ≡ Ok one) × (out ≡ given)) (λ err. r ≡ Err err) → r ≡ Ok one
    → n ≡ from_be_bytes w32 out → ¬ (half_digits n ≡ word) → NoneIs (λ (number : HalfDigits). half_digits number.value) (λ number. IsHalf number.value) word
other_half_digits word out r one n h is made other v small same =
    let given = decoded_ok (decode_sized word 4) r one out h is in
    let equal : out ≡ to_be_bytes w32 v.value = ap (λ d. result_unwrap_or d []) (sym given ∙ half_decode v.value word same) in
    other (ap half_digits (made ∙ ap (from_be_bytes w32) equal ∙ from_be_bytes-to_be_bytes_4 v.value small) ∙ same)

-- bytes that are too few or too many to be shown
pub none_shown : (word xs : List ℕ) → IsBytes xs → bytes xs ≡ word → ¬ ((1 ≤ length xs) × (length xs ≤ 256)) → NoneIs bytes AreShown word
none_shown word xs h is other ys shown e =
    let same : ys ≡ xs = bytes_tell ys xs shown.digits h (e ∙ sym is) in
    other (subst (λ (l : List ℕ). (1 ≤ length l) × (length l ≤ 256)) same (shown.some, shown.few))

pub shown_refused : (word : List ℕ) (e : Unread) → Reads bytes IsBytes word (Err e) → Reads bytes AreShown word (Err e)
shown_refused word unread.Bad none = λ ys shown e. none ys shown.digits e
shown_refused word unread.NoMemory none = tt

-- lists of bytes

bytes_decode : (xs word : List ℕ) → IsBytes xs → ¬ (word ≡ codes "-") → bytes xs ≡ word → decode_sized word (length word / 2) ≡ Ok xs
bytes_decode [] word h some e = absurd (some (sym e))
bytes_decode (x ∷ xs) word h some e =
    let half : length (x ∷ xs) ≡ length word / 2 = omega (arith, length-encode_with lower_digits (x ∷ xs), ap (λ (w : List ℕ). length w) e) in
    ap (λ (w : List ℕ). decode_sized w (length word / 2)) (sym e) ∙ decode_sized-encode_lower (x ∷ xs) (length word / 2) half h

-- a word that does not decode
pub no_bytes : (word : List ℕ) → ¬ (word ≡ codes "-") → ((xs : List ℕ) → ¬ (decode_sized word (length word / 2) ≡ Ok xs)) → NoneIs bytes IsBytes word
no_bytes word some none xs fits same = none xs (bytes_decode xs word fits some same)

-- a word that is not that of the bytes to which it decodes
pub other_bytes : (word out : List ℕ) → ¬ (word ≡ codes "-") → decode_sized word (length word / 2) ≡ Ok out
    → ¬ (encode_lower out ≡ word) → NoneIs bytes IsBytes word
other_bytes word out some given other [] fits same = some (sym same)
other_bytes word out some given other (x ∷ xs) fits same =
    let equal : out ≡ x ∷ xs = ap (λ d. result_unwrap_or d []) (sym given ∙ bytes_decode (x ∷ xs) word fits some same) in
    other (ap encode_lower equal ∙ same)

-- a reader's refusal of the digits is one of the bytes
pub bytes_refused : (word : List ℕ) (e : Unread) → ¬ (word ≡ codes "-") → Undecoded word e → Reads bytes IsBytes word (Err e)
bytes_refused word unread.Bad some none = no_bytes word some none
bytes_refused word unread.NoMemory some none = tt

-- bytes that have digits are written by them
pub some_bytes : (xs word : List ℕ) → ¬ (word ≡ []) → encode_lower xs ≡ word → bytes xs ≡ word
unfolding encode_with
some_bytes [] word some e = absurd (some (sym e))
some_bytes (x ∷ xs) word some e = e

pub no_word_empty : (word : List ℕ) → word ≡ [] → NoneIs bytes IsBytes word
unfolding encode_with
no_word_empty word is [] h e = absurd (omega (arith, ap (λ (l : List ℕ). length l) (e ∙ is)))
no_word_empty word is (x ∷ xs) h e = absurd (omega (arith, ap (λ (l : List ℕ). length l) (e ∙ is)))

-- names

pub decimal_no_dot : (n : ℕ) → n < 256 → Without 46 (decimal n)
decimal_no_dot n h = without_above 46 (decimal n) (above_less 46 47 (decimal n) (omega arith) (above_decimal n (omega (arith, h))))
