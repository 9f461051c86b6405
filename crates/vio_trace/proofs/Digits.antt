-- The digits of bytes, piece by piece.
use Rattle.std.proofs.Common.{◌≡◌, ℕ, List, [], ◌∷◌, ◌++◌, ◌/◌, ◌%◌, refl, ap, slice_index, length, sym, ◌∙◌, append-nil, arith}
use Rattle.hex.specs.Hex.{encode_with, encode_lower, lower_digits}

encode_with-append : (t xs ys : List ℕ) → encode_with t (xs ++ ys) ≡ encode_with t xs ++ encode_with t ys
unfolding encode_with
encode_with-append t [] ys = refl
encode_with-append t (x ∷ xs) ys =
    ap (λ rest. slice_index t (x / 16) ∷ slice_index t (x % 16) ∷ rest) (encode_with-append t xs ys)

pub encode_lower-append : (xs ys : List ℕ) → encode_lower (xs ++ ys) ≡ encode_lower xs ++ encode_lower ys
encode_lower-append xs ys = encode_with-append lower_digits xs ys

pub encode_lower-nil : encode_lower [] ≡ []
unfolding encode_with
encode_lower-nil = refl

-- where no bytes are left, the text so far is the whole
pub all_written : (text whole rest : List ℕ) → length rest ≡ 0 → text ++ encode_lower rest ≡ whole → text ≡ whole
unfolding encode_with
all_written text whole [] e h = sym (append-nil text) ∙ h
all_written text whole (b ∷ rest) e h = absurd (search (arith, e))
