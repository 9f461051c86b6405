-- Rows made of a list, each with its place.
use Rattle.std.specs.Prelude.{ℕ, ◌+◌, List, [], ◌∷◌}

-- what `make` makes of each element and its place, where the first has this place
abbrev pub numbered : {X Row : Type 0} → (ℕ → X → Row) → ℕ → List X → List Row
numbered make n [] = []
numbered make n (x ∷ xs) = make n x ∷ numbered make (n + 1) xs
