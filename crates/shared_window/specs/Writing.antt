-- What the owner's writes of its region leave of its seat, as a port that it may be.
use Rattle.std.specs.Prelude.{◌≡◌, ℕ, true, IsTrue, List}
use Rattle.std.specs.Borrow.{GName}
use Rattle.tce_window.specs.declared.answers.OwnFault.{OwnFault}
use Rattle.tce_window.specs.declared.answers.OwnFault.TheVariants.{Range, InUse, NoMemory}
use Rattle.tce_window.specs.PortState.{Writes, AreInPlace, OnlyWrites}
use Rattle.tce_window.specs.Region.{in_region}
use Rattle.shared_window.specs.Reading.{OnlyReadsAt, FindsPage, IsOutside}
use Rattle.shared_window.specs.SharedWindow.{SharedWindowValue, WindowSeatValue, port_of}

-- nothing changed but strokes, and which of them the seat laid, whichever borrows the port reaches its window through
abbrev pub OnlyWritesAt : SharedWindowValue → (old new : WindowSeatValue) → Type 0
OnlyWritesAt window old new = (lenders : List GName) → OnlyWrites (port_of lenders window old) (port_of lenders window new)

-- Bytes were written: on each page that they touch one stroke lies behind all that the page had, which the seat laid.
pub record WritesOwn (window : SharedWindowValue) (old : WindowSeatValue) (at : ℕ) (bytes : List ℕ) (mark : ℕ) (new : WindowSeatValue) : Type 0 where
  pub writes : (lenders : List GName) → Writes true (port_of lenders window old) at bytes mark (port_of lenders window new)
  pub only : OnlyWritesAt window old new
  pub in_use : new.in_use ≡ old.in_use

-- Memory ran out while the pages of the range were in the hand. They are back, and no stroke was laid.
pub record LacksMemory (window : SharedWindowValue) (old : WindowSeatValue) (at len : ℕ) (new : WindowSeatValue) : Type 0 where
  pub inside : IsTrue (in_region window.pages.count at len)
  pub there : (lenders : List GName) → AreInPlace (port_of lenders window new) at len
  pub only : OnlyReadsAt window old new
  pub in_use : new.in_use ≡ old.in_use

-- why a range of the region is not written
abbrev pub RefusesWrite : SharedWindowValue → WindowSeatValue → (at len : ℕ) → WindowSeatValue → OwnFault → Type 0
RefusesWrite window old at len new Range = IsOutside window old at len new
RefusesWrite window old at len new (InUse page word) = FindsPage window old at len new page word
RefusesWrite window old at len new NoMemory = LacksMemory window old at len new
