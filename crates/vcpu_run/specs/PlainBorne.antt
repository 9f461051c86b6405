-- What the strokes bear that a plain client's server unit laid behind the slots of its window: data-in of the unit's rows, each byte at its place.
use Rattle.std.specs.Prelude.{◌≡◌, ℕ, ◌+◌, ◌-◌, ◌*◌, ◌<◌, ◌≤◌, All, List, Option, Some, filter, length, slice_index}
use Rattle.std.specs.List.{Contains}
use Rattle.vio_num.specs.declared.history.Served.{Served}
use Rattle.vio_num.specs.declared.names.UnitId.{UnitId}
use Rattle.page_slots.specs.Stroke.{StrokeValue}
use Rattle.block_server.specs.Makers.{same_unit}
use Rattle.block_server.specs.RowsOn.{row_tag}
use Rattle.vscsi_client.specs.declared.TheConstants.{DATA_START}
use Rattle.vscsi_client.specs.declared.row.Row.{Row}
use Rattle.vcpu_run.specs.DataKept.{IsInwardAt}

-- the rows of a unit
abbrev pub rows_by : UnitId → List Served → List Served
rows_by unit rows = filter (λ row. same_unit row.unit unit) rows

-- The byte at an address is the one of these data that lies there, if they begin at this one.
pub record IsByteOf (inn : List ℕ) (at address byte : ℕ) : Type 0 where
  pub from : at ≤ address
  pub below : address < at + length inn
  pub is : byte ≡ slice_index inn (address - at)

-- so is each byte of a stroke of a page
abbrev pub IsInPlace : (inn : List ℕ) → (at page : ℕ) → StrokeValue → Type 0
IsInPlace inn at page stroke = (k : ℕ) → k < length stroke.bytes → IsByteOf inn at (4096 * page + stroke.offset + k) (slice_index stroke.bytes k)

-- One of these rows has the stroke's mark as its tag, under which the client asked for something; and the stroke bears data-in of that row, at
-- their place where the client's command of the tag has its data.
pub record IsOfRow (rows : List Served) (rs : List Row) (page : ℕ) (stroke : StrokeValue) : Type 0 where
  pub row : Served
  pub there : Contains rows row
  pub tag_is : row_tag row ≡ stroke.name.mark
  pub known : stroke.name.mark ≤ length rs
  pub lies : (at len : ℕ) → IsInwardAt rs stroke.name.mark at len → IsInPlace row.inn at page stroke

-- the same of each stroke of the unit on a page of data
abbrev pub AreBorne : (rows : List Served) → (server : UnitId) → List Row → (strokes : ℕ → Option (List StrokeValue)) → Type 0
AreBorne rows server rs strokes = (page : ℕ) → DATA_START ≤ 4096 * page → (list : List StrokeValue) → strokes page ≡ Some list
    → All (λ stroke. stroke.name.who ≡ server → IsOfRow rows rs page stroke) list
