-- How an information unit lies in bytes (SRP, "Information units"). Places count from 0, and the most
-- significant byte of a number is the first.
use Rattle.std.specs.Prelude.{ℕ, ◌<◌, List, take, drop, replicate, slice_index}
use Rattle.byteorder.specs.Endian.{big_number}

-- the number in the n bytes from a place on
abbrev pub field : ℕ → ℕ → List ℕ → ℕ
field place n bytes = big_number n (drop place bytes)

-- the n bytes from a place on
abbrev pub part : ℕ → ℕ → List ℕ → List ℕ
part place n bytes = take n (drop place bytes)

-- n reserved bytes, as they are written
abbrev pub zeros : ℕ → List ℕ
zeros n = replicate n 0

-- a list of bytes
abbrev pub IsBytes : List ℕ → Type 0
IsBytes bytes = (place : ℕ) → slice_index bytes place < 256
