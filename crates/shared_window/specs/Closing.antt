-- How the sharing of a window ends: its seats apart, and the plain window that is left.
use Rattle.std.specs.Prelude.{◌≡◌, ℕ, ◌+◌, ◌<◌, All, List, [], ◌∷◌, ◌++◌, Option, Some, length, map, slice_get}
use Rattle.vio_num.specs.Words.{Begins}
use Rattle.page_slots.specs.Page.{PageValue}
use Rattle.page_slots.specs.Stroke.{StrokeValue}
use Rattle.page_slots.specs.Seats.{PageSeatValue}
use Rattle.page_slots.specs.Turns.{IsOfSeats}
use Rattle.tce_window.specs.Window.{WindowValue, strokes_at}
use Rattle.entry_slots.specs.Entries.{EntrySeatValue}
use Rattle.shared_window.specs.declared.parting.SeatRest.{SeatRest}
use Rattle.shared_window.specs.Opening.{OwnerValue, IsOwnerAt}
use Rattle.shared_window.specs.SharedWindow.{SharedWindowValue, WindowSeatValue, IsSeatAt}

-- The owner and all guests of a window, which hold nothing.
pub record AreAllSeats (window : SharedWindowValue) (owner : OwnerValue) (guests : List WindowSeatValue) : Type 0 where
  pub owner_is : IsOwnerAt window owner
  pub owner_free : owner.seat.entries.held_count ≡ 0
  pub at : All (IsSeatAt window) guests
  pub free : All (λ guest. guest.entries.held_count ≡ 0) guests
  pub count : length guests + 1 ≡ window.pages.seats

-- all seats at the window's pages: the guests' in their order, then the owner's
abbrev pub seats_of : OwnerValue → List WindowSeatValue → List PageSeatValue
seats_of owner guests = map (λ guest. guest.pages) guests ++ owner.seat.pages ∷ []

-- The page p in the end, in its place: it begins with all that each of the seats had seen of it, and each of its strokes
-- was laid by one of them.
pub record IsLeftPage (seats : List PageSeatValue) (p : ℕ) (page : Option (List StrokeValue)) : Type 0 where
  pub strokes : List StrokeValue
  pub there : page ≡ Some strokes
  pub of_seats : IsOfSeats seats p strokes

-- The plain window of this unit, with the pages that all seats laid, the values that the owner put, and nothing held.
-- What any guest knew of values is a front of those.
pub record ClosesWindow (window : SharedWindowValue) (owner : OwnerValue) (guests : List WindowSeatValue) (plain : WindowValue) : Type 0 where
  pub unit_is : plain.unit ≡ window.unit
  pub size : length plain.pages ≡ window.pages.count
  pub pages_are : (p : ℕ) → p < window.pages.count → IsLeftPage (seats_of owner guests) p (strokes_at plain.pages p)
  pub rows_are : plain.rows ≡ owner.rows
  pub spare_is : plain.spare ≡ owner.spare
  pub known : All (λ guest. Begins guest.entries.rows owner.rows) guests
  pub held_from_is : plain.held_from ≡ 0
  pub none_held : plain.held_count ≡ 0
  pub in_use_is : plain.in_use ≡ owner.seat.in_use

-- what a seat has beside those at pages and entries
abbrev pub rest_of : WindowSeatValue → SeatRest
rest_of seat = record { region = seat.region; in_use = seat.in_use }

-- The seats of these holders, apart.
pub record ArePartsOf (list : List WindowSeatValue) (places : List PageSeatValue) (holders : List EntrySeatValue) (rests : List SeatRest) : Type 0 where
  pub places_are : places ≡ map (λ seat. seat.pages) list
  pub holders_are : holders ≡ map (λ seat. seat.entries) list
  pub rests_are : rests ≡ map rest_of list

-- The strokes of page p of these pages.
abbrev pub strokes_listed : List PageValue → ℕ → Option (List StrokeValue)
strokes_listed pages p = slice_get (map (λ page. page.strokes) pages) p
