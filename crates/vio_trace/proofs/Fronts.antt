-- Fronts of a text.
use Rattle.std.proofs.Common.{◌≡◌, ℕ, ◌+◌, ◌-◌, ◌≤◌, List, ◌++◌, length, take, drop, arith, length-drop, sym, ap, ◌∙◌}
use Rattle.std.proofs.Math.Seq.{take-append-add}
use Rattle.std.proofs.lemmas.List.{take_all, take-append-drop, length-take-le}

-- a front of the front xs and of what stands behind it
take-behind : (a n : ℕ) (xs ys : List ℕ) → length xs ≡ a → take (a + n) (xs ++ ys) ≡ xs ++ take n ys
take-behind a n xs ys e = rw (← e) (take-append-add xs ys n)

-- a front, and behind it a front of all that was left
pub fronts : (a n : ℕ) (xs : List ℕ) → a ≤ length xs
    → take (a + n) xs ≡ take a xs ++ take n (take (length xs - a) (drop a xs))
fronts a n xs within =
    let rest : take (length xs - a) (drop a xs) ≡ drop a xs = take_all (length xs - a) (drop a xs) (omega (arith, length-drop a xs)) in
    rw rest (ap (λ zs. take (a + n) zs) (sym (take-append-drop a xs)) ∙ take-behind a n (take a xs) (drop a xs) (length-take-le a xs within))
