-- What is left of held bytes that are read from their front.
use Rattle.std.specs.Prelude.{ℕ, List}

pub record Unread : Type 0 where
  -- the bytes, in their order
  pub bytes : List ℕ
  -- how many they are
  pub len : ℕ
