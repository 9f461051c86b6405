-- What a hold of a range and its giving back leave of a seat, as a port that it may be.
use Rattle.std.specs.Prelude.{◌≡◌, ℕ, true, List}
use Rattle.std.specs.Borrow.{GName}
use Rattle.tce_window.specs.declared.answers.HoldFault.{HoldFault}
use Rattle.tce_window.specs.declared.answers.Right.{Right}
use Rattle.tce_window.specs.Grant.{values_of}
use Rattle.tce_window.specs.Held.{HeldValue, held_strokes, either}
use Rattle.tce_window.specs.Pieces.{IsRefused}
use Rattle.tce_window.specs.Port.{NamesFound}
use Rattle.tce_window.specs.PortState.{Holds, HoldsNone, OnlyHolds, OnlyGivesBack, LaysNothing, Lays, places_since}
use Rattle.shared_window.specs.Counting.{CountsFault}
use Rattle.shared_window.specs.SharedWindow.{SharedWindowValue, WindowSeatValue, strokes_known, port_of, IsOutWith, FoundBy}

-- The range is held, whichever borrows the port reaches its window through.
pub record HoldsRange (window : SharedWindowValue) (old : WindowSeatValue) (ioba len : ℕ) (right : Right) (new : WindowSeatValue) (held : HeldValue) : Type 0 where
  pub holds : (lenders : List GName) → Holds true (port_of lenders window old) ioba len right (port_of lenders window new) held
  pub out : IsOutWith window new held
  pub laid : (lenders : List GName) → LaysNothing true (port_of lenders window old) (port_of lenders window new)
  pub rest : (lenders : List GName) → OnlyHolds true (port_of lenders window old) (port_of lenders window new)
  pub in_use : new.in_use ≡ old.in_use

-- The range is refused, and nothing is held.
pub record RefusesHold (window : SharedWindowValue) (old : WindowSeatValue) (ioba len : ℕ) (right : Right) (new : WindowSeatValue) (fault : HoldFault) : Type 0 where
  pub cause : IsRefused (values_of new.entries.rows) right window.pages.count ioba len fault
  pub found : NamesFound (FoundBy new) fault
  pub none : (lenders : List GName) → HoldsNone true (port_of lenders window old) (port_of lenders window new)
  pub laid : (lenders : List GName) → LaysNothing true (port_of lenders window old) (port_of lenders window new)
  pub rest : (lenders : List GName) → OnlyHolds true (port_of lenders window old) (port_of lenders window new)
  pub in_use : CountsFault fault old.in_use new.in_use

-- The range is given back: its pages are in their places with all their strokes, and nothing is held.
pub record GivesRange (window : SharedWindowValue) (old : WindowSeatValue) (held : HeldValue) (new : WindowSeatValue) : Type 0 where
  pub strokes : (p : ℕ) → strokes_known window.pages.count new.pages p ≡ either (strokes_known window.pages.count old.pages p) (held_strokes held.pages p)
  pub laid : (lenders : List GName) → Lays true (places_since (port_of lenders window old).taken held) (port_of lenders window old) (port_of lenders window new)
  pub free : new.entries.held_count ≡ 0
  pub rest : (lenders : List GName) → OnlyGivesBack (port_of lenders window old) (port_of lenders window new)
