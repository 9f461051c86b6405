-- The frame that a line sends: whom it is for, whom it is from, its type, and a pattern.
use Rattle.std.specs.Prelude.{ℕ, ◌++◌, List, [], ◌∷◌}
use Rattle.vio_num.specs.declared.names.Mac.{Mac}
use Rattle.unit_region.specs.Pattern.{pattern}

-- its first 14 bytes
abbrev pub frame_head : (to from : Mac) → List ℕ
frame_head to from = (to.bytes ++ from.bytes) ++ 0x88 ∷ 0xB5 ∷ []

-- so many bytes of the pattern stand behind them
abbrev pub line_frame : (to from : Mac) → (filled seed : ℕ) → List ℕ
line_frame to from filled seed = frame_head to from ++ pattern seed filled
