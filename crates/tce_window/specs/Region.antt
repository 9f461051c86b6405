-- The owner's region: its pages, one behind the other, and ranges of its addresses.
use Rattle.std.specs.Prelude.{◌≡◌, ℕ, ◌+◌, ◌-◌, ◌*◌, ◌/◌, ◌%◌, ◌<◌, ◌≤◌, ◌&&◌, nat_le, nat_lt, if◌then◌else◌, Bool, false, IsTrue, List, [], ◌∷◌, Option, Some, None, IsSome, length, slice_range, slice_index, min}
use Rattle.vio_num.specs.declared.TheConstants.{PAGE_BYTES}
use Rattle.tce_window.specs.declared.piece.TheConstants.{MOST_BYTES}
use Rattle.page_slots.specs.Stroke.{StrokeValue}
use Rattle.page_slots.specs.Page.{left_by}
use Rattle.page_slots.specs.declared.stroke.StrokeName.{StrokeName}
use Rattle.tce_window.specs.Strokes.{with_strokes}

-- whether a range of 1 to 65,536 bytes lies inside a region of n pages
abbrev pub in_region : ℕ → ℕ → ℕ → Bool
in_region n at len = nat_le 1 len && nat_le len MOST_BYTES && nat_le (at + len) (PAGE_BYTES * n)

-- the pages that a range touches: from this one on, up to that one
abbrev pub first_page : ℕ → ℕ
first_page at = at / PAGE_BYTES

abbrev pub end_page : ℕ → ℕ → ℕ
end_page at len = (at + len + 4095) / PAGE_BYTES

-- each page that the range touches is in its place
abbrev pub AreThere : (ℕ → Option (List StrokeValue)) → ℕ → ℕ → Type 0
AreThere strokes first end = (p : ℕ) → first ≤ p → p < end → IsSome (strokes p)

-- the same of a range of addresses
abbrev pub IsInPlace : (ℕ → Option (List StrokeValue)) → (at len : ℕ) → Type 0
IsInPlace strokes at len = AreThere strokes (first_page at) (end_page at len)

-- the byte at this place of a page with these strokes
abbrev pub byte_in : Option (List StrokeValue) → ℕ → ℕ
byte_in (Some strokes) k = slice_index (left_by strokes) k
byte_in None k = 0

-- the byte at this address of a region whose pages have these strokes
abbrev pub region_byte : (ℕ → Option (List StrokeValue)) → ℕ → ℕ
region_byte strokes a = byte_in (strokes (a / PAGE_BYTES)) (a % PAGE_BYTES)

-- the first page of the range that is held
pub record IsFirstHeld (strokes : ℕ → Option (List StrokeValue)) (first end page : ℕ) : Type 0 where
  pub from : first ≤ page
  pub below : page < end
  pub away : strokes page ≡ None
  pub before : AreThere strokes first page

-- Bytes were read that are those of the range.
pub record ReadsRange (strokes : ℕ → Option (List StrokeValue)) (n at : ℕ) (out : List ℕ) : Type 0 where
  pub inside : IsTrue (in_region n at (length out))
  pub there : IsInPlace strokes at (length out)
  pub bytes : (k : ℕ) → k < length out → slice_index out k ≡ region_byte strokes (at + k)

-- The page of the range is in use: where nobody else has a hand in the window, it is away.
pub record IsInUse (is_shared : Bool) (strokes : ℕ → Option (List StrokeValue)) (n at len page : ℕ) : Type 0 where
  pub inside : IsTrue (in_region n at len)
  pub from : first_page at ≤ page
  pub below : page < end_page at len
  pub away : is_shared ≡ false → strokes page ≡ None

-- The first page of the range that is away.
pub record IsAwayFirst (strokes : ℕ → Option (List StrokeValue)) (n at len page : ℕ) : Type 0 where
  pub inside : IsTrue (in_region n at len)
  pub first : IsFirstHeld strokes (first_page at) (end_page at len) page

-- the stroke on page p of a write of these bytes from the address on: the part of them that lies there
abbrev pub stroke_on : StrokeName → ℕ → List ℕ → ℕ → StrokeValue
stroke_on name at bytes p = record {
  name = name;
  offset = at - PAGE_BYTES * p;
  bytes = slice_range bytes (PAGE_BYTES * p - at) (min (PAGE_BYTES * (p + 1) - at) (length bytes));
}

-- whether the range touches page p
abbrev pub touches : ℕ → ℕ → ℕ → Bool
touches at len p = nat_le (first_page at) p && nat_lt p (end_page at len)

-- the strokes of page p after a write of these bytes from the address on
abbrev pub written : StrokeName → ℕ → List ℕ → ℕ → Option (List StrokeValue) → Option (List StrokeValue)
written name at bytes p strokes =
    if touches at (length bytes) p then with_strokes strokes (stroke_on name at bytes p ∷ []) else strokes
