-- A page: its strokes, and the bytes that they leave.
use Rattle.std.specs.Prelude.{ℕ, ◌≡◌, ◌<◌, ◌+◌, ◌-◌, ◌&&◌, nat_le, nat_lt, slice_index, if◌then◌else◌, List, [], ◌∷◌, ◌++◌, length, take, drop, replicate, fold}
use Rattle.vio_num.specs.declared.TheConstants.{PAGE_BYTES}
use Rattle.page_slots.specs.Stroke.{StrokeValue, IsWithinPage}

pub record PageValue : Type 0 where
  -- every stroke on the page, the oldest first
  pub strokes : List StrokeValue
  -- how many more may be written before room has to be made
  pub spare : ℕ

-- bytes with these in place of those from `offset` on
abbrev pub replaced : List ℕ → ℕ → List ℕ → List ℕ
replaced page offset bytes = take offset page ++ bytes ++ drop (offset + length bytes) page

-- a page's bytes after a stroke
abbrev pub overwritten : List ℕ → StrokeValue → List ℕ
overwritten page stroke = replaced page stroke.offset stroke.bytes

-- the bytes of a page with no stroke
unfoldable pub zeros : List ℕ
zeros = replicate PAGE_BYTES 0

-- what these strokes leave, in their order, on zeros
abbrev pub left_by : List StrokeValue → List ℕ
left_by strokes = fold overwritten zeros strokes

-- what the first i of these strokes leave
abbrev pub bytes_at : List StrokeValue → ℕ → List ℕ
bytes_at strokes i = left_by (take i strokes)

-- the byte at place k after a stroke, where it was b before
abbrev pub covered : ℕ → ℕ → StrokeValue → ℕ
covered k b stroke =
    if nat_le stroke.offset k && nat_lt k (stroke.offset + length stroke.bytes)
    then slice_index stroke.bytes (k - stroke.offset)
    else b

-- the byte at place k after these strokes: that of the last one that covers it, or 0
abbrev pub byte_left_by : ℕ → List StrokeValue → ℕ
byte_left_by k strokes = fold (covered k) 0 strokes

-- each byte that these strokes leave is the one that the last stroke over it wrote, or 0
abbrev pub ShowLast : List StrokeValue → Type 0
ShowLast strokes = (k : ℕ) → k < PAGE_BYTES → slice_index (left_by strokes) k ≡ byte_left_by k strokes

-- each of these strokes lies inside the page
abbrev pub AreWithinPage : List StrokeValue → Type 0
AreWithinPage [] = Unit {0}
AreWithinPage (stroke ∷ strokes) = IsWithinPage stroke × AreWithinPage strokes
