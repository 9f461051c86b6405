-- Who made each stroke of a window: which strokes the copies name, and which versions of its entries.
use Rattle.std.specs.Prelude.{◌≡◌, ◌≢◌, ◌==◌, ◌&&◌, ◌<◌, ◌≤◌, ℕ, Bool, All, List, [], ◌∷◌, ◌++◌, Option, Some, if◌then◌else◌, length, slice_get}
use Rattle.std.specs.List.{Contains, flat_map}
use Rattle.std.specs.Option.{option_and_then}
use Rattle.vio_num.specs.declared.names.UnitId.{UnitId}
use Rattle.page_slots.specs.Stroke.{StrokeValue}
use Rattle.tce_window.specs.declared.piece.Piece.{Piece}
use Rattle.tce_window.specs.Moved.{stroke_count}
use Rattle.rdma_copy.specs.declared.copy.CopyRecord.{CopyRecord}
use Rattle.rdma_copy.specs.Copy.{Side}

-- whether two names are of one unit
abbrev pub same_unit : UnitId → UnitId → Bool
same_unit a b = (a.partition == b.partition) && (a.unit == b.unit)

-- whether a piece is of this unit's window and of this page
abbrev pub is_piece_on : UnitId → (page : ℕ) → Piece → Bool
is_piece_on unit page piece = same_unit piece.unit unit && (piece.page == page)

-- the places that the pieces of this unit's window name on a page, in the order of the pieces
abbrev pub places_in : UnitId → (page : ℕ) → List Piece → List ℕ
places_in unit page [] = []
places_in unit page (piece ∷ pieces) =
    if is_piece_on unit page piece then piece.at ∷ places_in unit page pieces else places_in unit page pieces

-- the places that copies wrote there, in the order of the copies
abbrev pub named_on : UnitId → (page : ℕ) → List CopyRecord → List ℕ
named_on unit page copies = flat_map (λ copy. places_in unit page copy.to.items) copies

-- each number is above the one before it
abbrev pub Rises : List ℕ → Type 0
Rises [] = Unit {0}
Rises (n ∷ later) = All (λ other. n < other) later × Rises later

-- whether a piece is of this unit's window and of this entry
abbrev pub is_piece_of : UnitId → (entry : ℕ) → Piece → Bool
is_piece_of unit entry piece = same_unit piece.unit unit && (piece.entry == entry)

-- the versions that the pieces of this unit's window name of an entry, in the order of the pieces
abbrev pub versions_in : UnitId → (entry : ℕ) → List Piece → List ℕ
versions_in unit entry [] = []
versions_in unit entry (piece ∷ pieces) =
    if is_piece_of unit entry piece then piece.version ∷ versions_in unit entry pieces else versions_in unit entry pieces

-- those that a copy names, and those of copies, in their order
abbrev pub versions_of : UnitId → (entry : ℕ) → CopyRecord → List ℕ
versions_of unit entry copy = versions_in unit entry copy.from.items ++ versions_in unit entry copy.to.items

abbrev pub versions_on : UnitId → (entry : ℕ) → List CopyRecord → List ℕ
versions_on unit entry copies = flat_map (versions_of unit entry) copies

-- no number is below one before it
abbrev pub NeverFalls : List ℕ → Type 0
NeverFalls [] = Unit {0}
NeverFalls (n ∷ later) = All (λ other. n ≤ other) later × NeverFalls later

-- Of an entry that had so many values, these versions are in order: each is there, and none is below one before it.
pub record VersionsAreInOrder (count : ℕ) (versions : List ℕ) : Type 0 where
  pub rising : NeverFalls versions
  pub there : All (λ version. version < count) versions

-- the stroke at this place of a page
abbrev pub stroke_in : Option (List StrokeValue) → (place : ℕ) → Option StrokeValue
stroke_in strokes place = option_and_then (λ s. slice_get s place) strokes

-- On each page the copies name strokes that are there, in rising order, none of them twice; and they name each stroke
-- that another unit than the window's own laid. The versions that they name of each entry do not fall.
pub record AreNamed (window : Side) (copies : List CopyRecord) : Type 0 where
  pub rising : (page : ℕ) → Rises (named_on window.unit page copies)
  pub there : (page : ℕ) → All (λ place. place < stroke_count (window.strokes page)) (named_on window.unit page copies)
  pub others : (page place : ℕ) (stroke : StrokeValue) → stroke_in (window.strokes page) place ≡ Some stroke → stroke.name.who ≢ window.unit
      → Contains (named_on window.unit page copies) place
  pub versions : (entry : ℕ) → VersionsAreInOrder (length (window.values entry)) (versions_on window.unit entry copies)
