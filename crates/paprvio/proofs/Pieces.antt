-- Pieces of a buffer and of a text.
use Rattle.std.proofs.Common.{◌≡◌, ℕ, ◌+◌, ◌≤◌, List, ◌++◌, length, take, arith, length-append, ap, ◌∙◌}
use Rattle.std.proofs.Math.Seq.{take-append-add}
use Rattle.std.proofs.lemmas.List.{take-append-le, length-take-le}
use borrow.Rule.Slice.PartMut.{put_mid, post_of}

-- a front of the front xs and of what stands behind it
take-behind : (a n : ℕ) (xs ys : List ℕ) → length xs ≡ a → take (a + n) (xs ++ ys) ≡ xs ++ take n ys
take-behind a n xs ys e = rw (← e) (take-append-add xs ys n)

-- the front of a buffer whose rest from place a on was written over
pub take-over : (a n k : ℕ) (xs ys : List ℕ) → a ≤ length xs → n ≤ length ys
    → take (a + n) (put_mid a k xs ys) ≡ take a xs ++ take n ys
take-over a n k xs ys in_xs in_ys =
    take-behind a n (take a xs) (ys ++ post_of a k xs) (length-take-le a xs in_xs)
    ∙ ap (λ zs. take a xs ++ zs) (take-append-le n ys (post_of a k xs) in_ys)

pub in_front : (a n k : ℕ) (xs ys : List ℕ) → a ≤ length xs → n ≤ length ys → a + n ≤ length (put_mid a k xs ys)
in_front a n k xs ys in_xs in_ys =
    omega (arith, length-take-le a xs in_xs, length-append (take a xs) (ys ++ post_of a k xs), length-append ys (post_of a k xs))
