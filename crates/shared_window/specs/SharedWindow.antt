-- What contracts see of a shared window and of a seat at it, and such a seat as a port.
use Rattle.std.specs.Prelude.{◌≡◌, ℕ, ◌+◌, ◌<◌, ◌≤◌, ◌&&◌, nat_lt, not, if◌then◌else◌, true, false, All, List, ◌∷◌, ◌++◌, Option, Some, None, is_some, length, map}
use Rattle.std.specs.Borrow.{GName}
use Rattle.atomic_table.specs.Seated.{TableId}
use Rattle.vio_num.specs.declared.names.UnitId.{UnitId}
use Rattle.page_slots.specs.Page.{PageValue}
use Rattle.page_slots.specs.Stroke.{StrokeValue}
use Rattle.page_slots.specs.Seats.{PagesValue, PageSeatValue, saw, holds, laid_on}
use Rattle.tce_window.specs.declared.piece.Piece.{Piece}
use Rattle.tce_window.specs.Grant.{values_of}
use Rattle.tce_window.specs.Held.{HeldValue, held_strokes}
use Rattle.tce_window.specs.Moved.{unplaced}
use Rattle.tce_window.specs.Pieces.{LieFrom, on_page}
use Rattle.tce_window.specs.PortState.{PortState, none_beside}
use Rattle.entry_slots.specs.Entries.{EntriesValue, EntrySeatValue}
use Rattle.shared_window.specs.Hand.{BeginsIn, IsEmptyFor}

pub record SharedWindowValue : Type 0 where
  -- whose window it is, its pages and its entries, of which there are as many
  pub unit : UnitId
  pub pages : PagesValue
  pub entries : EntriesValue

-- What one holder of a window has: a seat at its pages, one at its entries, places for the pages that are in its hand, and
-- how often it read a page or an entry in use.
pub record WindowSeatValue : Type 0 where
  pub pages : PageSeatValue
  pub entries : EntrySeatValue
  pub region : List (Option PageValue)
  pub in_use : ℕ

-- the strokes known of page p of n, unless the seat holds it
abbrev pub strokes_known : ℕ → PageSeatValue → ℕ → Option (List StrokeValue)
strokes_known n seat p = if nat_lt p n && not (holds seat p) then Some (saw seat p) else None

-- of a page that the seat holds, the number of strokes that it had as it was taken
abbrev pub taken_with : PageSeatValue → ℕ → ℕ
taken_with seat p = if holds seat p then length (saw seat p) else 0

-- the numbers that tell a table of pages or of entries from every other
abbrev pub names_in : TableId → List GName
names_in id = id.words ∷ id.slots ∷ id.views_name ∷ id.atom ∷ id.block ∷ id.offset ∷ id.slot_names

-- those that tell a window from every other: its pages' with their count before them, and its entries'
abbrev pub window_names : SharedWindowValue → List GName
window_names window = length (names_in window.pages.id) ∷ names_in window.pages.id ++ names_in window.entries.id

-- what a seat knows of the window, as a port that reaches it through these borrows
abbrev pub port_of : List GName → SharedWindowValue → WindowSeatValue → PortState
port_of lenders window seat = record {
  place = record { unit = window.unit; size = window.pages.count; lenders = lenders; beside = none_beside };
  strokes = strokes_known window.pages.count seat.pages;
  values = values_of seat.entries.rows;
  held_from = seat.entries.held_from;
  held_count = seat.entries.held_count;
  taken = taken_with seat.pages;
  laid = laid_on seat.pages;
  in_use = seat.in_use;
}

-- The seat is one at this window. What it holds are entries and pages of it, and none of these pages is in its region.
pub record IsSeatAt (window : SharedWindowValue) (seat : WindowSeatValue) : Type 0 where
  pub pages : seat.pages.pages ≡ window.pages.id
  pub entries : seat.entries.entries ≡ window.entries.id
  pub empty : IsEmptyFor window.pages seat.region
  pub inside : (p : ℕ) → holds seat.pages p ≡ true → p < window.pages.count
  pub within : 0 < seat.entries.held_count → seat.entries.held_from + seat.entries.held_count ≤ window.pages.count
  pub free : seat.entries.held_count ≡ 0 → (p : ℕ) → holds seat.pages p ≡ false

-- The seat is one at this window, and holds nothing.
pub record IsIdleAt (window : SharedWindowValue) (seat : WindowSeatValue) : Type 0 where
  pub at : IsSeatAt window seat
  pub free : seat.entries.held_count ≡ 0

-- These pieces are in the entries that the seat holds, and on the pages that it holds.
pub record AreOut (window : SharedWindowValue) (seat : WindowSeatValue) (pieces : List Piece) : Type 0 where
  pub lie : LieFrom seat.entries.held_from pieces
  pub count : seat.entries.held_count ≡ length pieces
  pub on : (p : ℕ) → holds seat.pages p ≡ on_page pieces p
  pub inside : All (λ piece. piece.page < window.pages.count) pieces

-- The range is the one that the seat holds, whatever strokes were laid on its pages since: its pieces are those, but for
-- their places among strokes, and its pages those that the seat holds, each with all that the seat had seen of it.
pub record IsOutWith (window : SharedWindowValue) (seat : WindowSeatValue) (held : HeldValue) : Type 0 where
  pub pieces : AreOut window seat (map unplaced held.pieces)
  pub pages : (p : ℕ) → is_some (held_strokes held.pages p) ≡ holds seat.pages p
  pub more : (p : ℕ) → BeginsIn (saw seat.pages p) (held_strokes held.pages p)

-- the seat read this word of a page last
abbrev pub FoundBy : WindowSeatValue → (page word : ℕ) → Type 0
FoundBy seat page word = seat.pages.last.word ≡ word
