-- Laws of a page, for those who stand above this crate.
use Rattle.std.proofs.Common.{◌≡◌, List, ◌++◌, length, ap, ◌∙◌, ℕ, fold}
use Rattle.std.proofs.Math.Seq.{take-append_seam}
use Rattle.page_slots.specs.Stroke.{StrokeValue}
use Rattle.page_slots.specs.Page.{zeros, covered, left_by, bytes_at, ShowLast, AreWithinPage}
use Rattle.page_slots.proofs.Bytes.{size, byte}
use Rattle.page_slots.proofs.Strokes.{byte-zeros}
pub use Rattle.page_slots.proofs.Strokes.{left_by-push, length-zeros}

-- a page has 4,096 bytes
pub page_size : (strokes : List StrokeValue) → AreWithinPage strokes → length (left_by strokes) ≡ 4096
page_size strokes within = size zeros strokes length-zeros within

-- and each is the one that the last stroke over it wrote
pub last_stroke_shows : (strokes : List StrokeValue) → AreWithinPage strokes → ShowLast strokes
last_stroke_shows strokes within k less =
    byte zeros strokes k length-zeros within ∙ ap (λ (b : ℕ). fold (covered k) b strokes) (byte-zeros k less)

-- what a page held before later strokes is told by its first strokes
pub earlier_bytes_are_told : (old later : List StrokeValue) → bytes_at (old ++ later) (length old) ≡ left_by old
earlier_bytes_are_told old later = ap left_by (take-append_seam old later)
