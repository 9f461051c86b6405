-- The bytes that a line fills a range with.
use Rattle.std.specs.Prelude.{ℕ, ◌+◌, ◌/◌, ◌%◌, ◌++◌, List, [], ◌∷◌, suc, zero}

-- byte i of the pattern of a seed
abbrev pub pattern_byte : (seed i : ℕ) → ℕ
pattern_byte seed i = (seed + i + i / 256) % 256

-- its first bytes
abbrev pub pattern : (seed len : ℕ) → List ℕ
pattern seed zero = []
pattern seed (suc n) = pattern seed n ++ pattern_byte seed n ∷ []
