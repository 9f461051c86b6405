-- New seats at a shared window.
use Rattle.std.specs.Prelude.{◌≡◌, ℕ, ◌+◌, true, All, List, [], ◌∷◌, length}
use Rattle.std.proofs.Props.{props}
use Rattle.vio_num.specs.declared.names.UnitId.{UnitId}
use Rattle.page_slots.specs.Page.{AreWithinPage}
use Rattle.page_slots.specs.Stroke.{StrokeValue}
use Rattle.page_slots.specs.Seats.{saw, laid_on}
use Rattle.tce_window.specs.declared.answers.TceRow.{TceRow}
use Rattle.shared_window.specs.Hand.{SawWithin}
use Rattle.shared_window.specs.SharedWindow.{SharedWindowValue, WindowSeatValue, IsSeatAt}

pub record OwnerValue : Type 0 where
  pub seat : WindowSeatValue
  -- the number of entries, each value put, the oldest first, and how many more may be put before room has to be made
  pub size : ℕ
  pub rows : List TceRow
  pub spare : ℕ

-- The owner is that of this window, and knows all values that were put; what it saw of each page lies within it.
pub record IsOwnerAt (window : SharedWindowValue) (owner : OwnerValue) : Type 0 where
  pub at : IsSeatAt window owner.seat
  pub owns : owner.seat.entries.owns ≡ true
  pub size : owner.size ≡ window.pages.count
  pub rows : owner.rows ≡ owner.seat.entries.rows
  pub within : SawWithin owner.seat.pages

-- That strokes lie within their page has one proof at most, and so has it whose owner it is.
AreWithinPage-prop : (strokes : List StrokeValue) → IsProp (AreWithinPage strokes)
AreWithinPage-prop [] = Prim.hlevel props
AreWithinPage-prop (stroke ∷ strokes) = Prim.hlevel (props, AreWithinPage-prop strokes)

pub IsOwnerAt-prop : (window : SharedWindowValue) (owner : OwnerValue) → IsProp (IsOwnerAt window owner)
IsOwnerAt-prop window owner = Prim.hlevel (props, AreWithinPage-prop)

-- A seat that made no call: it knows no value that was put and no stroke, and holds nothing.
pub record IsNewSeat (window : SharedWindowValue) (seat : WindowSeatValue) : Type 0 where
  pub at : IsSeatAt window seat
  pub rows : seat.entries.rows ≡ []
  pub seen : (p : ℕ) → saw seat.pages p ≡ []
  pub laid : (p : ℕ) → laid_on seat.pages p ≡ []
  pub free : seat.entries.held_count ≡ 0
  pub in_use : seat.in_use ≡ 0

-- A window of this unit with so many pages, its owner, and so many guests.
pub record OpensWindow (unit : UnitId) (pages guests : ℕ) (window : SharedWindowValue) (owner : OwnerValue) (list : List WindowSeatValue) : Type 0 where
  pub unit_is : window.unit ≡ unit
  pub size : window.pages.count ≡ pages
  pub all_seats : window.pages.seats ≡ guests + 1
  pub owner_is : IsOwnerAt window owner
  pub owner_new : IsNewSeat window owner.seat
  pub none_spare : owner.spare ≡ 0
  pub all_guests : length list ≡ guests
  pub guests_new : All (IsNewSeat window) list
