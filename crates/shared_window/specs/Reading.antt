-- What the owner's reads of its region leave of its seat, as a port that it may be.
use Rattle.std.specs.Prelude.{◌≡◌, ℕ, ◌+◌, ◌%◌, ◌^◌, ◌≤◌, true, false, IsTrue, List, Option}
use Rattle.tce_window.specs.declared.piece.TheConstants.{MOST_BYTES}
use Rattle.std.specs.Borrow.{GName}
use Rattle.vio_num.specs.Counts.{risen}
use Rattle.vio_num.specs.Words.{ReadsWord}
use Rattle.page_slots.specs.Stroke.{StrokeValue}
use Rattle.page_slots.specs.declared.stroke.StrokeName.{StrokeName}
use Rattle.tce_window.specs.declared.answers.NamedFault.{NamedFault}
use Rattle.tce_window.specs.declared.answers.NamedFault.TheVariants.{Range as NamedRange, InUse as NamedInUse, Stale}
use Rattle.tce_window.specs.declared.answers.OwnFault.{OwnFault}
use Rattle.tce_window.specs.declared.answers.OwnFault.TheVariants.{Range, InUse, NoMemory}
use Rattle.tce_window.specs.declared.piece.Piece.{Piece}
use Rattle.tce_window.specs.Laying.{LieOver}
use Rattle.tce_window.specs.Named.{AreFresh, IsFirstStale}
use Rattle.tce_window.specs.PortState.{Reads, FindsInUse, FindsStale, OnlyReads}
use Rattle.tce_window.specs.Region.{in_region, touches, first_page, end_page}
use Rattle.shared_window.specs.Hand.{TakesPages}
use Rattle.shared_window.specs.SharedWindow.{SharedWindowValue, WindowSeatValue, port_of, strokes_known}

-- nothing changed but what is known of strokes that others laid, whichever borrows the port reaches its window through
abbrev pub OnlyReadsAt : SharedWindowValue → (old new : WindowSeatValue) → Type 0
OnlyReadsAt window old new = (lenders : List GName) → OnlyReads true (port_of lenders window old) (port_of lenders window new)

-- Bytes were read that are known to lie in the range.
pub record ReadsOwn (window : SharedWindowValue) (old : WindowSeatValue) (at : ℕ) (out : List ℕ) (new : WindowSeatValue) : Type 0 where
  pub reads : (lenders : List GName) → Reads (port_of lenders window new) at out
  pub only : OnlyReadsAt window old new
  pub in_use : new.in_use ≡ old.in_use

-- A page of the range was found in use: the word that was read last, in this call, shows it taken. It was counted once.
pub record FindsPage (window : SharedWindowValue) (old : WindowSeatValue) (at len : ℕ) (new : WindowSeatValue) (page word : ℕ) : Type 0 where
  pub finds : (lenders : List GName) → FindsInUse true (port_of lenders window old) at len page
  pub read : ReadsWord old.pages.last new.pages.last word
  pub bit : word % 2 ≡ 1
  pub only : OnlyReadsAt window old new
  pub in_use : new.in_use ≡ risen old.in_use

-- the range is outside of the region
pub record IsOutside (window : SharedWindowValue) (old : WindowSeatValue) (at len : ℕ) (new : WindowSeatValue) : Type 0 where
  pub outside : in_region window.pages.count at len ≡ false
  pub same : new ≡ old

-- why a range of the region is not read
abbrev pub RefusesRead : SharedWindowValue → WindowSeatValue → (at len : ℕ) → WindowSeatValue → OwnFault → Type 0
RefusesRead window old at len new Range = IsOutside window old at len new
RefusesRead window old at len new (InUse page word) = FindsPage window old at len new page word
RefusesRead window old at len new NoMemory = ⊥

-- on each page of the range the last strokes that are known are of this name and cover it
abbrev pub AreFreshAt : SharedWindowValue → StrokeName → (at len : ℕ) → WindowSeatValue → Type 0
AreFreshAt window name at len new = AreFresh name at len (strokes_known window.pages.count new.pages) (first_page at) (end_page at len)

-- such a page is the first of the range, in these strokes, and is all that is refused
abbrev pub IsStaleIn : StrokeName → (at len : ℕ) → (ℕ → Option (List StrokeValue)) → NamedFault → Type 0
IsStaleIn name at len strokes (Stale page found) = IsFirstStale name at len strokes (first_page at) (end_page at len) page found
IsStaleIn name at len strokes _ = ⊥

-- A page of the range is the first on which they are not, and the last stroke of another name there has this one.
pub record FindsStaleAt (window : SharedWindowValue) (old : WindowSeatValue) (name : StrokeName) (at len : ℕ) (new : WindowSeatValue) (page : ℕ) (found : Option StrokeName) : Type 0 where
  pub stale : (lenders : List GName) → FindsStale name (port_of lenders window new) at len page found
  pub only : OnlyReadsAt window old new
  pub in_use : new.in_use ≡ old.in_use

-- why a range is not read by a name
abbrev pub RefusesNamed : SharedWindowValue → WindowSeatValue → StrokeName → (at len : ℕ) → WindowSeatValue → NamedFault → Type 0
RefusesNamed window old name at len new NamedRange = IsOutside window old at len new
RefusesNamed window old name at len new (NamedInUse page word) = FindsPage window old at len new page word
RefusesNamed window old name at len new (Stale page found) = FindsStaleAt window old name at len new page found

-- The pages that the range touches are in the hand, each with all that the seat now knows of it.
pub record TakesRange (window : SharedWindowValue) (old : WindowSeatValue) (at len : ℕ) (pieces : List Piece) (new : WindowSeatValue) : Type 0 where
  pub inside : IsTrue (in_region window.pages.count at len)
  pub some : 1 ≤ len
  pub few : len ≤ MOST_BYTES
  pub near : at + len ≤ 2 ^ 20
  pub lie : LieOver at (at + len) pieces
  pub takes : TakesPages window.pages old.pages (touches at len) new.pages new.region
  pub entries : new.entries ≡ old.entries
  pub in_use : new.in_use ≡ old.in_use
