-- What one read moves from a list of bytes to the front of a piece.
use Rattle.std.proofs.Common.{◌≡◌, ℕ, ◌+◌, ◌<◌, ◌≤◌, min, List, [], ◌++◌, length, take, drop, sym, ap, ◌∙◌, arith, take-append-drop}
use Rattle.std.proofs.lemmas.List.{drop-drop, drop_all, take_at, length-take-le}

-- the piece begins with the n bytes that leave the list, and none leaves it only where it is empty
pub read_moves : (all rest out new : List ℕ) (at n most : ℕ) → rest ≡ drop at all → n ≡ min most (min (length out) (length rest)) → new ≡ take n rest ++ drop n out → 1 ≤ most
    → (drop at all ≡ take n new ++ drop (at + n) all) × (n ≡ 0 → 0 < length out → drop (at + n) all ≡ [])
read_moves all rest out new at n most is_rest count copied some =
    let within : n ≤ length rest = omega arith in
    let front : take n new ≡ take n rest = ap (take n) copied ∙ take_at (take n rest) (drop n out) n (length-take-le n rest within) in
    let behind : drop n rest ≡ drop (at + n) all = ap (drop n) is_rest ∙ drop-drop n at all in (
      sym is_rest ∙ sym (take-append-drop n rest) ∙ ap (λ bytes. take n rest ++ bytes) behind ∙ ap (λ bytes. bytes ++ drop (at + n) all) (sym front),
      λ none room. sym behind ∙ drop_all n rest (omega arith),
    )
