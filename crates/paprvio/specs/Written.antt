-- What a source gave.
use Rattle.std.specs.Prelude.{◌≡◌, ℕ, ◌++◌, List, Option, take}
use Rattle.std.specs.Io.KnownBytes.{Consumes}

-- the source gave the front of the buffer, which has this length
abbrev pub Fills : Option (List ℕ) → Option (List ℕ) → List ℕ → ℕ → Type 0
Fills old new buffer n = Consumes old new (take n buffer)

-- the source gave a piece, which stands behind the front
pub record ReadBehind (old new : Option (List ℕ)) (front whole : List ℕ) : Type 0 where
  pub piece : List ℕ
  pub read : Consumes old new piece
  pub behind : whole ≡ front ++ piece
