-- Two lists of bytes that agree in each part are equal. Each lemma adds the part in front of what agrees.
use Rattle.std.proofs.Common.{◌≡◌, ◌<◌, ◌≤◌, ℕ, zero, suc, ◌+◌, ◌*◌, ◌^◌, ◌/◌, ◌%◌, List, [], ◌∷◌, ◌++◌, length, drop, slice_index, refl, sym, ap, ◌∙◌, subst, arith, length-drop}
use Rattle.std.proofs.Math.Nat.{pow-suc}
use Rattle.std.proofs.Math.Seq.{drop-cons}
use Rattle.std.proofs.lemmas.Nat.{div-mul-add, mod-mul-add, mul-add-lt}
use Rattle.std.proofs.lemmas.List.{drop-drop, take-append-drop}
use Rattle.byteorder.specs.Endian.{big_from, big_number}
use Rattle.byteorder.specs.Numbers.{big_from-cons}
use Rattle.srp_iu.specs.declared.buffer.Desc.{Desc}
use Rattle.srp_iu.specs.Layout.{IsBytes, field, part}
use Rattle.srp_iu.specs.Buffer.{desc_of, descs_of}

-- the number in n bytes is below 256 ^ n
below : (i n : ℕ) (xs : List ℕ) → IsBytes xs → big_from i n xs < 256 ^ n
below i zero xs h = omega arith
below i (suc n) xs h =
    let lt : slice_index xs i * 256 ^ n + big_from (suc i) n xs < 256 ^ n * 256 =
    mul-add-lt (slice_index xs i) (256 ^ n) (big_from (suc i) n xs) 256 (h i) (below (suc i) n xs h) in
    rw (pow-suc 256 n) lt

-- the bytes behind the first are bytes
pub rest_bytes : (n : ℕ) (xs : List ℕ) → IsBytes xs → IsBytes (drop n xs)
rest_bytes zero xs h = h
rest_bytes (suc n) [] h = λ i. omega arith
rest_bytes (suc n) (x ∷ xs) h = rest_bytes n xs (λ i. h (suc i))

-- lists that begin with equal numbers, and go on alike
numbers : (n : ℕ) (xs ys : List ℕ) → IsBytes xs → IsBytes ys → n ≤ length xs → n ≤ length ys
    → big_number n xs ≡ big_number n ys → drop n xs ≡ drop n ys → xs ≡ ys
numbers zero xs ys h k p q e f = f
numbers (suc n) [] ys h k p q e f = absurd (omega (arith, p))
numbers (suc n) (x ∷ xs) [] h k p q e f = absurd (omega (arith, q))
numbers (suc n) (x ∷ xs) (y ∷ ys) h k p q e f =
    let w : ℕ = 256 ^ n in
    let a : ℕ = big_from 0 n xs in
    let b : ℕ = big_from 0 n ys in
    let small_a : a < w = below 0 n xs (λ i. h (suc i)) in
    let small_b : b < w = below 0 n ys (λ i. k (suc i)) in
    let whole : x * w + a ≡ y * w + b =
    ap (λ (r : ℕ). x * 256 ^ n + r) (sym (big_from-cons 0 n x xs)) ∙ e ∙ ap (λ (r : ℕ). y * 256 ^ n + r) (big_from-cons 0 n y ys) in
    let first : x ≡ y = sym (div-mul-add x w a small_a) ∙ ap (λ (r : ℕ). r / w) whole ∙ div-mul-add y w b small_b in
    let rest : a ≡ b = sym (mod-mul-add x w a small_a) ∙ ap (λ (r : ℕ). r % w) whole ∙ mod-mul-add y w b small_b in
    ap (λ (z : ℕ). z ∷ xs) first
    ∙ ap (λ (l : List ℕ). y ∷ l) (numbers n xs ys (λ i. h (suc i)) (λ i. k (suc i)) (omega (arith, p)) (omega (arith, q)) rest f)

-- two lists of bytes
pub record Both (xs ys : List ℕ) (n : ℕ) : Type 0 where
  pub left : IsBytes xs
  pub right : IsBytes ys
  pub left_len : n ≤ length xs
  pub right_len : n ≤ length ys

-- the lists agree from a place on
abbrev pub Agree : ℕ → (xs ys : List ℕ) → Type 0
Agree place xs ys = drop place xs ≡ drop place ys

-- the same place, counted otherwise
pub moved : (j k : ℕ) (xs ys : List ℕ) → j ≡ k → Agree j xs ys → Agree k xs ys
moved j k xs ys e a = subst (λ (n : ℕ). Agree n xs ys) e a

-- nothing is behind the end
nothing : (n : ℕ) (xs : List ℕ) → length xs ≡ n → drop n xs ≡ []
nothing zero [] e = refl
nothing zero (x ∷ xs) e = absurd (omega (arith, e))
nothing (suc n) [] e = refl
nothing (suc n) (x ∷ xs) e = nothing n xs (omega (arith, e))

-- what is behind the end agrees
pub ends : (n : ℕ) (xs ys : List ℕ) → length xs ≡ n → length ys ≡ n → Agree n xs ys
ends n xs ys e f = nothing n xs e ∙ sym (nothing n ys f)

-- a number agrees
pub by_field : (place n m : ℕ) (xs ys : List ℕ) → Both xs ys m → place + n ≤ m
    → field place n xs ≡ field place n ys → Agree (place + n) xs ys → Agree place xs ys
by_field place n m xs ys both within e rest =
    numbers n (drop place xs) (drop place ys) (rest_bytes place xs both.left) (rest_bytes place ys both.right)
    (omega (arith, length-drop place xs, both.left_len)) (omega (arith, length-drop place ys, both.right_len)) e
    (drop-drop n place xs ∙ rest ∙ sym (drop-drop n place ys))

-- a part agrees
pub by_part : (place n : ℕ) (xs ys : List ℕ) → part place n xs ≡ part place n ys → Agree (place + n) xs ys → Agree place xs ys
by_part place n xs ys e rest =
    sym (take-append-drop n (drop place xs))
    ∙ ap (λ (l : List ℕ). l ++ drop n (drop place xs)) e
    ∙ ap (λ (l : List ℕ). part place n ys ++ l) (drop-drop n place xs ∙ rest ∙ sym (drop-drop n place ys))
    ∙ take-append-drop n (drop place ys)

-- a byte agrees
pub by_byte : (place m : ℕ) (xs ys : List ℕ) → Both xs ys m → place < m
    → slice_index xs place ≡ slice_index ys place → Agree (suc place) xs ys → Agree place xs ys
by_byte place m xs ys both within e rest =
    drop-cons xs place 0 (omega (arith, both.left_len))
    ∙ ap (λ (b : ℕ). b ∷ drop (suc place) xs) e
    ∙ ap (λ (l : List ℕ). slice_index ys place ∷ l) rest
    ∙ sym (drop-cons ys place 0 (omega (arith, both.right_len)))

-- descriptors agree
pub by_desc : (place m : ℕ) (xs ys : List ℕ) → Both xs ys m → place + 16 ≤ m
    → desc_of (drop place xs) ≡ desc_of (drop place ys) → Agree (place + 16) xs ys → Agree place xs ys
by_desc place m xs ys both within e rest =
    let length_at : field (place + 12) 4 xs ≡ field (place + 12) 4 ys =
    ap (λ (l : List ℕ). big_number 4 l) (sym (drop-drop 12 place xs)) ∙ ap (λ (d : Desc). d.len) e ∙ ap (λ (l : List ℕ). big_number 4 l) (drop-drop 12 place ys) in
    let key_at : field (place + 8) 4 xs ≡ field (place + 8) 4 ys =
    ap (λ (l : List ℕ). big_number 4 l) (sym (drop-drop 8 place xs)) ∙ ap (λ (d : Desc). d.key) e ∙ ap (λ (l : List ℕ). big_number 4 l) (drop-drop 8 place ys) in
    by_field place 8 m xs ys both (omega (arith, within)) (ap (λ (d : Desc). d.address) e)
    (by_field (place + 8) 4 m xs ys both (omega (arith, within)) key_at
    (moved (place + 12) (place + 8 + 4) xs ys (omega arith)
    (by_field (place + 12) 4 m xs ys both (omega (arith, within)) length_at
    (moved (place + 16) (place + 12 + 4) xs ys (omega arith) rest))))

abbrev first_of : List Desc → Desc
first_of [] = record { address = 0; key = 0; len = 0 }
first_of (d ∷ ds) = d

-- lists of descriptors agree
pub by_descs : (n place m : ℕ) (xs ys : List ℕ) → Both xs ys m → place + 16 * n ≤ m
    → descs_of n (drop place xs) ≡ descs_of n (drop place ys) → Agree (place + 16 * n) xs ys → Agree place xs ys
by_descs zero place m xs ys both within e rest = moved (place + 16 * 0) place xs ys (omega arith) rest
by_descs (suc n) place m xs ys both within e rest =
    let first : desc_of (drop place xs) ≡ desc_of (drop place ys) = ap (λ (l : List Desc). first_of l) e in
    let others : descs_of n (drop (place + 16) xs) ≡ descs_of n (drop (place + 16) ys) =
    ap (λ (l : List ℕ). descs_of n l) (sym (drop-drop 16 place xs)) ∙ ap (λ (l : List Desc). drop 1 l) e ∙ ap (λ (l : List ℕ). descs_of n l) (drop-drop 16 place ys) in
    by_desc place m xs ys both (omega (arith, within)) first
    (by_descs n (place + 16) m xs ys both (omega (arith, within)) others
    (moved (place + 16 * suc n) (place + 16 + 16 * n) xs ys (omega arith) rest))
