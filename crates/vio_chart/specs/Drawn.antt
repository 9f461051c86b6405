-- What it means that each item of a list is drawn once.
use Rattle.std.specs.Prelude.{◌≡◌, List, ℕ, [], ◌∷◌, ◌++◌}

-- the text is that of the items, one behind the other, each with a text that is one of its own
abbrev pub AreDrawn : {Item : Type 0} → (Item → List ℕ → Type 0) → List Item → List ℕ → Type 0
AreDrawn IsOf [] text = text ≡ []
AreDrawn IsOf (item ∷ items) text =
    (own : List ℕ) × (rest : List ℕ) × IsOf item own × AreDrawn IsOf items rest × (text ≡ own ++ rest)

-- behind the text that stood there, one was added of which this holds
pub record Adds (Is : List ℕ → Type 0) (before after : List ℕ) : Type 0 where
  pub text : List ℕ
  pub behind : after ≡ before ++ text
  pub holds : Is text
