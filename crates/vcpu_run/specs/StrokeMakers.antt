-- Who made each stroke that a trace shows: the strokes that its copies name, and the versions of entries.
use Rattle.std.specs.Prelude.{◌≡◌, ◌≢◌, ◌==◌, ◌&&◌, ℕ, All, Bool, List, [], ◌∷◌, ◌++◌, Some, if◌then◌else◌}
use Rattle.std.specs.List.{Contains, flat_map}
use Rattle.vio_num.specs.declared.names.Mac.{Mac}
use Rattle.vio_num.specs.declared.names.UnitId.{UnitId}
use Rattle.boot_text.specs.Sound.{unit_at}
use Rattle.boot_text.specs.declared.plan.Partition.{Partition}
use Rattle.boot_text.specs.declared.plan.UnitPlan.TheVariants as units
use Rattle.vio_trace.specs.declared.rows.Trace.{Trace}
use Rattle.vio_trace.specs.declared.window_rows.CopyRow.{CopyRow}
use Rattle.vio_trace.specs.declared.window_rows.PieceRow.{PieceRow}
use Rattle.vio_trace.specs.declared.window_rows.StrokeRow.{StrokeRow}
use Rattle.block_server.specs.Makers.{Rises}
use Rattle.vcpu_run.specs.CopyRows.{same_unit}

-- whether a piece is of this unit's window and of this page
abbrev pub is_row_on : UnitId → (page : ℕ) → PieceRow → Bool
is_row_on unit page piece = same_unit piece.unit unit && (piece.page == page)

-- the places that pieces of this unit's window name on a page, in their order
abbrev pub places_shown : UnitId → (page : ℕ) → List PieceRow → List ℕ
places_shown unit page [] = []
places_shown unit page (piece ∷ pieces) =
    if is_row_on unit page piece then piece.at ∷ places_shown unit page pieces else places_shown unit page pieces

-- the places of the strokes that the copies of a trace wrote there, in the order of its rows
abbrev pub named_rows : UnitId → (page : ℕ) → List CopyRow → List ℕ
named_rows unit page rows = flat_map (λ row. places_shown unit page row.to) rows

abbrev pub named_in : Trace → UnitId → (page : ℕ) → List ℕ
named_in trace unit page = named_rows unit page trace.copies

-- whether a piece is of this unit's window and of this entry
abbrev pub is_row_of : UnitId → (entry : ℕ) → PieceRow → Bool
is_row_of unit entry piece = same_unit piece.unit unit && (piece.entry == entry)

-- the versions that pieces of this unit's window name of an entry, in their order
abbrev pub versions_shown : UnitId → (entry : ℕ) → List PieceRow → List ℕ
versions_shown unit entry [] = []
versions_shown unit entry (piece ∷ pieces) =
    if is_row_of unit entry piece then piece.version ∷ versions_shown unit entry pieces else versions_shown unit entry pieces

-- those that the copies of a trace name of it, read or written, in the order of its rows
abbrev pub versions_named : Trace → UnitId → (entry : ℕ) → List ℕ
versions_named trace unit entry = flat_map (λ row. versions_shown unit entry row.from ++ versions_shown unit entry row.to) trace.copies

-- a LAN port of the plan
abbrev pub IsPort : List Partition → UnitId → Type 0
IsPort partitions unit = (mac : Mac) × (pages : ℕ) × (slots : ℕ) × (unit_at partitions unit ≡ Some (units.Lan mac pages slots))

-- A stroke in the region of a server unit or a client, which another unit laid.
pub record IsForeign (partitions : List Partition) (row : StrokeRow) : Type 0 where
  pub other : row.writer ≢ row.unit
  pub no_port : IsPort partitions row.unit → ⊥

-- No stroke is named by two `to` pieces of copies, and each in the region of a server unit or a client that another unit laid is
-- named by one.
pub record StrokesAreMade (partitions : List Partition) (trace : Trace) : Type 0 where
  pub once : (unit : UnitId) (page : ℕ) → Rises (named_in trace unit page)
  pub made : All (λ row. IsForeign partitions row → Contains (named_in trace row.unit row.page) row.place) trace.strokes
