-- What contracts see of a plain window.
use Rattle.std.specs.Prelude.{◌≡◌, ℕ, ◌+◌, ◌<◌, ◌≤◌, ◌&&◌, nat_le, nat_lt, Bool, List, [], Option, Some, None, length, slice_get, IsSome}
use Rattle.vio_num.specs.declared.names.UnitId.{UnitId}
use Rattle.page_slots.specs.Stroke.{StrokeValue}
use Rattle.page_slots.specs.Page.{PageValue}
use Rattle.tce_window.specs.declared.answers.TceRow.{TceRow}

pub record WindowValue : Type 0 where
  -- whose window it is
  pub unit : UnitId
  -- the pages of the region, but those that are held; there are as many entries
  pub pages : List (Option PageValue)
  -- each value put, the oldest first
  pub rows : List TceRow
  -- how many more may be put before room has to be made
  pub spare : ℕ
  -- the entries that are held: so many, from this one on
  pub held_from : ℕ
  pub held_count : ℕ
  -- how often a page or an entry was found held
  pub in_use : ℕ

-- whether the entry is held
abbrev pub holds : WindowValue → ℕ → Bool
holds window e = nat_le window.held_from e && nat_lt e (window.held_from + window.held_count)

-- a page of zeros, in its place
abbrev pub blank_page : Option PageValue
blank_page = Some (record { strokes = []; spare = 0 })

-- the strokes of a page in its place
abbrev pub strokes_in : Option (Option PageValue) → Option (List StrokeValue)
strokes_in (Some (Some page)) = Some page.strokes
strokes_in _ = None

-- the strokes of page p, unless it is held
abbrev pub strokes_at : List (Option PageValue) → ℕ → Option (List StrokeValue)
strokes_at pages p = strokes_in (slice_get pages p)

-- the strokes for which page p has room
abbrev pub room_in : Option (Option PageValue) → ℕ
room_in (Some (Some page)) = page.spare
room_in _ = 0

abbrev pub room_at : List (Option PageValue) → ℕ → ℕ
room_at pages p = room_in (slice_get pages p)

-- each page of the region is in its place
abbrev pub AllThere : List (Option PageValue) → Type 0
AllThere pages = (p : ℕ) → p < length pages → IsSome (strokes_at pages p)

-- what a window keeps of its pages: there are 1 to 256, the entries that are held are some of its own, and no page
-- is away where none is held
pub record KeepsPages (pages : List (Option PageValue)) (held_from held_count : ℕ) : Type 0 where
  pub least : 1 ≤ length pages
  pub most : length pages ≤ 256
  pub within : held_from + held_count ≤ length pages
  pub all_there : held_count ≡ 0 → AllThere pages
