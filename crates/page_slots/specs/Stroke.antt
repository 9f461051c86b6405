-- A stroke: one write to a page.
use Rattle.std.specs.Prelude.{ℕ, ◌+◌, ◌≤◌, List, length}
use Rattle.vio_num.specs.declared.TheConstants.{PAGE_BYTES}
use Rattle.page_slots.specs.declared.stroke.StrokeName.{StrokeName}

pub record StrokeValue : Type 0 where
  -- who wrote, and under which mark
  pub name : StrokeName
  -- the place of its first byte in the page
  pub offset : ℕ
  -- what it writes
  pub bytes : List ℕ

-- a write of these bytes from `offset` on
abbrev pub stroke_at : StrokeName → ℕ → List ℕ → StrokeValue
stroke_at name offset bytes = record { name = name; offset = offset; bytes = bytes }

-- the stroke lies inside a page of 4,096 bytes
abbrev pub IsWithinPage : StrokeValue → Type 0
IsWithinPage stroke = stroke.offset + length stroke.bytes ≤ PAGE_BYTES
