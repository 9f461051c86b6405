-- The pieces of a client's command are its range, one behind the other: byte j of its data lies j bytes behind the range's start.
use Rattle.std.proofs.Common.{◌≡◌, ◌∙◌, ℕ, zero, suc, ◌+◌, ◌-◌, ◌*◌, ◌/◌, ◌<◌, ◌≤◌, ◌==◌, ◌++◌, nat_lt, Bool, true, false, cond, List, [], ◌∷◌, Some, refl, sym, ap, subst, arith, eq-eqb, eqb-true, true≢false}
use Rattle.std.proofs.Math.Nat.{mul-div-le, mul-le-mul_right, mul-suc, mul-zero}
use Rattle.std.proofs.lemmas.Bool.Decides.{nat_tests}
use Rattle.std.proofs.lemmas.List.Sums.{sum_by-cons, sum_by_push}
use Rattle.srp_desc.specs.Pieces.{sum_of}
use Rattle.srp_iu.specs.declared.buffer.Desc.{Desc}
use Rattle.block_server.specs.Carried.{address_of}
use Rattle.vscsi_client.specs.Units.{piece_of, pieces}
use Rattle.vscsi_client.specs.declared.op.Op.{Op}

-- ---- one piece more

pub sum_first : (first : Desc) (list : List Desc) → sum_of (first ∷ list) ≡ first.len + sum_of list
sum_first first list = sum_by-cons (λ (desc : Desc). desc.len) first list

sum_push : (list : List Desc) (piece : Desc) → sum_of (list ++ piece ∷ []) ≡ sum_of list + piece.len
sum_push list piece = sum_by_push (λ (desc : Desc). desc.len) list piece

push_low : (list : List Desc) (piece : Desc) (j : ℕ) → j < sum_of list → address_of (list ++ piece ∷ []) j ≡ address_of list j
push_low [] piece j less = absurd (omega (arith, less))
push_low (first ∷ list) piece j less = at (omega (arith, less, sum_first first list)) (push_low list piece (j - first.len)) (nat_lt j first.len) refl
  where
    at : j < first.len + sum_of list → (j - first.len < sum_of list → address_of (list ++ piece ∷ []) (j - first.len) ≡ address_of list (j - first.len)) → (b : Bool) → nat_lt j first.len ≡ b
        → cond b (Some (first.address + j)) (address_of (list ++ piece ∷ []) (j - first.len)) ≡ cond b (Some (first.address + j)) (address_of list (j - first.len))
    at all rest true e = refl
    at all rest false e = let past : first.len ≤ j = grind (arith, nat_tests, e) in rest (omega (arith, all, past))

push_high : (list : List Desc) (piece : Desc) (j : ℕ) → sum_of list ≤ j → j - sum_of list < piece.len → address_of (list ++ piece ∷ []) j ≡ Some (piece.address + (j - sum_of list))
push_high [] piece j low less = at (nat_lt j piece.len) refl
  where
    at : (b : Bool) → nat_lt j piece.len ≡ b → cond b (Some (piece.address + j)) (address_of [] (j - piece.len)) ≡ Some (piece.address + (j - 0))
    at true e = ap (λ n. Some (piece.address + n)) (omega arith)
    at false e = absurd (grind (arith, nat_tests, e, less))
push_high (first ∷ list) piece j low less =
    at (omega (arith, low, sum_first first list)) (omega (arith, less, sum_first first list)) (push_high list piece (j - first.len)) (nat_lt j first.len) refl
    ∙ ap (λ n. Some (piece.address + (j - n))) (sym (sum_first first list))
  where
    at : first.len + sum_of list ≤ j → j - (first.len + sum_of list) < piece.len → (sum_of list ≤ j - first.len → j - first.len - sum_of list < piece.len → address_of (list ++ piece ∷ []) (j - first.len) ≡ Some (piece.address + (j - first.len - sum_of list)))
        → (b : Bool) → nat_lt j first.len ≡ b
        → cond b (Some (first.address + j)) (address_of (list ++ piece ∷ []) (j - first.len)) ≡ Some (piece.address + (j - (first.len + sum_of list)))
    at from to rest true e = let under : j < first.len = grind (arith, nat_tests, e) in absurd (omega (arith, from, under))
    at from to rest false e =
        let past : first.len ≤ j = grind (arith, nat_tests, e) in
        rest (omega (arith, from, past)) (omega (arith, from, past, to)) ∙ ap (λ n. Some (piece.address + n)) (omega (arith, from, past))

-- ---- the pieces of a command

-- These pieces are so many bytes from an address on.
record Lie (list : List Desc) (at len : ℕ) : Type 0 where
  sum : sum_of list ≡ len
  places : (j : ℕ) → j < len → address_of list j ≡ Some (at + j)

lie_push : (list : List Desc) (piece : Desc) (at len : ℕ) → Lie list at len → piece.address ≡ at + len → Lie (list ++ piece ∷ []) at (len + piece.len)
lie_push list piece at len is next = record {
  sum = omega (arith, sum_push list piece, is.sum);
  places = λ j less. by j less (nat_lt j len) refl;
}
  where
    by : (j : ℕ) → j < len + piece.len → (b : Bool) → nat_lt j len ≡ b → address_of (list ++ piece ∷ []) j ≡ Some (at + j)
    by j less true e =
        let under : j < len = grind (arith, nat_tests, e) in
        push_low list piece j (omega (arith, under, is.sum)) ∙ is.places j under
    by j less false e =
        let past : len ≤ j = grind (arith, nat_tests, e) in
        push_high list piece j (omega (arith, past, is.sum)) (omega (arith, past, less, is.sum)) ∙ ap Some (omega (arith, next, past, is.sum))

lie_first : (op : Op) (n : ℕ) → n < op.pieces → Lie (pieces op n) op.at (op.len / op.pieces * n)
lie_first op zero less = record { sum = sym (mul-zero (op.len / op.pieces)); places = λ j low. absurd (omega (arith, low, mul-zero (op.len / op.pieces))) }
lie_first op (suc n) less =
    subst (Lie (pieces op (suc n)) op.at) length_is (lie_push (pieces op n) (piece_of op n) op.at (op.len / op.pieces * n) (lie_first op n (omega (arith, less))) refl)
  where
    long : (b : Bool) → (n + 1 == op.pieces) ≡ b → cond b (op.len - op.len / op.pieces * n) (op.len / op.pieces) ≡ op.len / op.pieces
    long true e = let all : n + 1 ≡ op.pieces = eqb-true (n + 1) op.pieces e in absurd (omega (arith, less, all))
    long false e = refl

    length_is : op.len / op.pieces * n + (piece_of op n).len ≡ op.len / op.pieces * suc n
    length_is = omega (arith, long (n + 1 == op.pieces) refl, mul-suc (op.len / op.pieces) n)

lie_last : (op : Op) (n : ℕ) → op.pieces ≡ suc n → Lie (pieces op (suc n)) op.at op.len
lie_last op n all = subst (Lie (pieces op (suc n)) op.at) length_is (lie_push (pieces op n) (piece_of op n) op.at (op.len / op.pieces * n) (lie_first op n (omega (arith, all))) refl)
  where
    long : (b : Bool) → (n + 1 == op.pieces) ≡ b → cond b (op.len - op.len / op.pieces * n) (op.len / op.pieces) ≡ op.len - op.len / op.pieces * n
    long true e = refl
    long false e = absurd (true≢false (sym (eq-eqb (n + 1) op.pieces (omega (arith, all))) ∙ e))

    fits : op.len / op.pieces * n ≤ op.len
    fits = omega (arith, mul-suc (op.len / op.pieces) n, product, mul-div-le op.len op.pieces)
      where
        product : suc n * (op.len / op.pieces) ≤ op.pieces * (op.len / op.pieces)
        product = mul-le-mul_right (op.len / op.pieces) (omega (arith, all))

    length_is : op.len / op.pieces * n + (piece_of op n).len ≡ op.len
    length_is = omega (arith, long (n + 1 == op.pieces) refl, fits)

-- Pieces are one range, from this address on.
abbrev pub AreOneRange : (start : ℕ) → List Desc → Type 0
AreOneRange start list = (j : ℕ) → j < sum_of list → address_of list j ≡ Some (start + j)

pub data_range : (op : Op) → 1 ≤ op.pieces → AreOneRange op.at (pieces op op.pieces)
data_range op some = by op.pieces refl
  where
    by : (n : ℕ) → op.pieces ≡ n → AreOneRange op.at (pieces op n)
    by zero e = absurd (omega (arith, some, e))
    by (suc n) e = λ j less. let last = lie_last op n e in last.places j (omega (arith, less, last.sum))
