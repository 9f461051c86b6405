-- The strokes that are known of pages; none of a page that is held.
use Rattle.std.specs.Prelude.{ℕ, List, ◌++◌, Option, Some, None}
use Rattle.std.specs.Option.{option_map}
use Rattle.page_slots.specs.Stroke.{StrokeValue}
use Rattle.page_slots.specs.Page.{AreWithinPage}

-- the strokes of a page, with more behind them
abbrev pub with_strokes : Option (List StrokeValue) → List StrokeValue → Option (List StrokeValue)
with_strokes strokes more = option_map (λ s. s ++ more) strokes

-- the strokes of a page lie within it
abbrev pub IsWithin : Option (List StrokeValue) → Type 0
IsWithin (Some strokes) = AreWithinPage strokes
IsWithin None = Unit {0}

-- those of each page do
abbrev pub AllWithin : (ℕ → Option (List StrokeValue)) → Type 0
AllWithin strokes = (p : ℕ) → IsWithin (strokes p)
