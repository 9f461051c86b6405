-- Descriptors and buffers, read back from their bytes.
use Rattle.std.proofs.Common.{◌≡◌, ◌<◌, ◌^◌, ℕ, zero, suc, ◌+◌, ◌*◌, List, [], ◌∷◌, ◌++◌, length, drop, take, refl, ap, ◌∙◌, append_assoc, length-append, arith}
use Rattle.std.proofs.Math.Seq.{drop-append_seam}
use Rattle.std.proofs.lemmas.List.{drop-drop}
use Rattle.std.proofs.lemmas.Grind.{flat_map-append}
use Rattle.std.specs.List.{flat_map}
use Rattle.byteorder.specs.Numbers.{big_number-reads_back}
use Rattle.srp_iu.specs.declared.buffer.Desc.{Desc}
use Rattle.srp_iu.specs.Buffer.{desc_of, descs_of, desc_bytes}

-- one more descriptor stands behind the n
pub descs_of-push : (n : ℕ) (bytes : List ℕ) → descs_of (suc n) bytes ≡ descs_of n bytes ++ desc_of (drop (16 * n) bytes) ∷ []
descs_of-push zero bytes = refl
descs_of-push (suc n) bytes =
    let at : 16 + 16 * n ≡ 16 * suc n = omega arith in
    let moved : drop (16 * n) (drop 16 bytes) ≡ drop (16 * suc n) bytes = rw (drop-drop, at) refl in
    ap (λ xs. desc_of bytes ∷ xs) (descs_of-push n (drop 16 bytes) ∙ ap (λ xs. descs_of n (drop 16 bytes) ++ desc_of xs ∷ []) moved)

-- there are n descriptors
pub length-descs_of : (n : ℕ) (bytes : List ℕ) → length (descs_of n bytes) ≡ n
length-descs_of zero bytes = refl
length-descs_of (suc n) bytes = ap suc (length-descs_of n (drop 16 bytes))

desc_from : (x y z : ℕ) (d : Desc) → x ≡ d.address → y ≡ d.key → z ≡ d.len → record { address = x; key = y; len = z } ≡ d
desc_from x y z d e f g =
    ap (λ (a : ℕ). let made : Desc = record { address = a; key = y; len = z } in made) e
    ∙ ap (λ (a : ℕ). let made : Desc = record { address = d.address; key = a; len = z } in made) f
    ∙ ap (λ (a : ℕ). let made : Desc = record { address = d.address; key = d.key; len = a } in made) g

-- a descriptor is read back
pub desc_of-desc_bytes : (d : Desc) (rest : List ℕ) → d.address < 2 ^ 64 → d.key < 2 ^ 32 → d.len < 2 ^ 32 → desc_of (desc_bytes d ++ rest) ≡ d
desc_of-desc_bytes d rest p q r =
    desc_from _ _ _ d (big_number-reads_back 8 d.address [] p) (big_number-reads_back 4 d.key [] q) (big_number-reads_back 4 d.len [] r)

-- one more descriptor behind those that are read back
back_push : (xs : List Desc) (d : Desc) (n : ℕ)
    → length (flat_map desc_bytes xs) ≡ 16 * n
    → ((rest : List ℕ) → descs_of n (flat_map desc_bytes xs ++ rest) ≡ xs)
    → ((rest : List ℕ) → desc_of (desc_bytes d ++ rest) ≡ d)
    → (rest : List ℕ) → descs_of (suc n) (flat_map desc_bytes (xs ++ d ∷ []) ++ rest) ≡ xs ++ d ∷ []
back_push xs d n long back one rest =
    let bytes : List ℕ = flat_map desc_bytes xs ++ (desc_bytes d ++ rest) in
    let spread : flat_map desc_bytes (xs ++ d ∷ []) ++ rest ≡ bytes = rw (flat_map-append, append_assoc (flat_map desc_bytes xs) (desc_bytes d) rest) refl in
    let behind : drop (16 * n) bytes ≡ desc_bytes d ++ rest = rw (← long) (drop-append_seam (flat_map desc_bytes xs) (desc_bytes d ++ rest)) in
    ap (λ (bs : List ℕ). descs_of (suc n) bs) spread
    ∙ descs_of-push n bytes
    ∙ ap (λ (ys : List Desc). ys ++ desc_of (drop (16 * n) bytes) ∷ []) (back (desc_bytes d ++ rest))
    ∙ ap (λ (bs : List ℕ). xs ++ desc_of bs ∷ []) behind
    ∙ ap (λ (e : Desc). xs ++ e ∷ []) (one rest)

-- what is written of a list, descriptor by descriptor
pub record Written (list : List Desc) (i : ℕ) (old new : List ℕ) : Type 0 where
  pub bytes : new ≡ old ++ flat_map desc_bytes (take i list)
  pub room : length new ≡ length old + 16 * i
  pub reads_back : (rest : List ℕ) → descs_of i (flat_map desc_bytes (take i list) ++ rest) ≡ take i list

-- one more descriptor is written
pub written_next : (list : List Desc) (i : ℕ) (d : Desc) (old out new : List ℕ)
    → take (suc i) list ≡ take i list ++ d ∷ []
    → Written list i old out
    → new ≡ out ++ desc_bytes d
    → ((rest : List ℕ) → desc_of (desc_bytes d ++ rest) ≡ d)
    → Written list (suc i) old new
written_next list i d old out new next w put one =
    let long : length (flat_map desc_bytes (take i list)) ≡ 16 * i = omega (arith, w.room, ap length w.bytes, length-append {A = ℕ}) in
    let written : new ≡ old ++ (flat_map desc_bytes (take i list) ++ desc_bytes d) = put ∙ ap (λ (bs : List ℕ). bs ++ desc_bytes d) w.bytes ∙ append_assoc old (flat_map desc_bytes (take i list)) (desc_bytes d) in
    let bytes : new ≡ old ++ flat_map desc_bytes (take (suc i) list) = rw (next, flat_map-append) written in
    record {
      bytes = bytes;
      room = omega (arith, w.room, ap length put, length-append {A = ℕ});
      reads_back = λ rest. rw next (back_push (take i list) d i long w.reads_back one rest);
    }
