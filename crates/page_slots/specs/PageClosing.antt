-- How all seats at shared pages become one, and how the pages leave their slots.
use Rattle.std.specs.Prelude.{◌≡◌, ℕ, ◌<◌, false, List, [], ◌∷◌, ◌++◌, length, map, slice_index_or, Some}
use mathlib.Core.Option.{some}
use lib.ListN.{get_elem?}
use Rattle.atomic_table.specs.declared.shared.Seat.{Seat}
use Rattle.page_slots.specs.Page.{PageValue}
use Rattle.page_slots.specs.Seats.{PagesValue, PageSeatValue, laid_on, together}
use Rattle.page_slots.specs.PageRule.{Slot, held_of, laid_of, blank_page}
use Rattle.page_slots.specs.declared.view.PageView.{PageView}

-- A seat that stands for all these seats, whose hands are empty.
pub record StandsForAll (pages : PagesValue) (list : List PageSeatValue) (seat : Seat Slot PageView) : Type 0 where
  pub table_is : seat.table_id ≡ pages.id
  pub share : seat.me.0.share ≡ length list
  pub some_share : 0 < length list
  pub none_held : (k : ℕ) → k < pages.count → held_of seat.me.0 k ≡ false
  pub size : length seat.me.0.laid ≡ seat.table_id.slots
  pub seen : map (λ other. other.seen) list ≡ seat.me.0.told ++ seat.me.0.seen ∷ []
  pub laid : (k : ℕ) → laid_of seat.me.0 k ≡ together (map (λ other. laid_on other k) list)

-- the slot k of the closed table has this page in it
abbrev pub HasPage : List Slot → ℕ → PageValue → Type 0
HasPage slots k page = get_elem? slots k ≡ some (Some page)

-- each of the n slots has a page in it, and they are these
abbrev pub ArePages : List Slot → ℕ → List PageValue → Type 0
ArePages slots n list = (k : ℕ) → k < n → HasPage slots k (slice_index_or list k blank_page)
