-- Items that stand among others, in their order.
use Rattle.std.specs.Prelude.{◌≡◌, ◌⊎◌, List, [], ◌∷◌, ⊤}

-- each of the first items stands among the second, in the same order, and no two at one place
abbrev pub AreAmong : {Item : Type 0} → List Item → List Item → Type 0
AreAmong [] others = ⊤
AreAmong (item ∷ items) [] = ⊥
AreAmong (item ∷ items) (other ∷ others) = ((item ≡ other) × AreAmong items others) ⊎ AreAmong (item ∷ items) others
