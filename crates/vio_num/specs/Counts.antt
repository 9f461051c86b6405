-- Counts that a program keeps in 64 bits: they rise up to their last value, stay there, and never fall.
use Rattle.std.specs.Prelude.{ℕ, ◌+◌, ◌-◌, ◌^◌, ◌≤◌, max, min}

-- a count that rises by one, up to its last value
abbrev pub risen : ℕ → ℕ
risen n = max n (min (n + 1) (2 ^ 64 - 1))

-- the count rose, by one or more
abbrev pub Rose : ℕ → ℕ → Type 0
Rose before now = risen before ≤ now
