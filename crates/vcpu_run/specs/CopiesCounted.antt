-- How many of its server unit's copies the pages of a client's region had as its lines ended.
use Rattle.std.specs.Prelude.{◌≡◌, ◌≢◌, ℕ, ◌<◌, ◌≤◌, All, List, [], Option, Some, None, length, take}
use Rattle.std.specs.List.{Contains, slice_get}
use Rattle.vio_num.specs.declared.names.UnitId.{UnitId}
use Rattle.page_slots.specs.Stroke.{StrokeValue}
use Rattle.vio_trace.specs.declared.window_rows.CopyRow.{CopyRow}
use Rattle.rdma_copy.specs.declared.copy.CopyRecord.{CopyRecord}
use Rattle.tce_window.specs.Moved.{stroke_count}
use Rattle.tce_window.specs.Window.{strokes_at}
use Rattle.block_server.specs.Makers.{stroke_in}
use Rattle.vio_trace.specs.declared.rows.LogRow.{LogRow}
use Rattle.vcpu_run.specs.declared.pair.Pair.{Pair}
use Rattle.vcpu_run.specs.CopyRows.{copies_by}
use Rattle.vcpu_run.specs.StrokeMakers.{named_rows}

-- The places of the strokes that the first of some copies, so many of them, wrote on each page of a window.
abbrev pub Naming : Type 0
Naming = (count page : ℕ) → List ℕ

-- So many copies may be all that were made when the pages of a unit's window had these strokes: what they wrote there is there, and each stroke of
-- another unit is one that they wrote.
pub record AreMadeBy (unit : UnitId) (strokes : ℕ → Option (List StrokeValue)) (named : (page : ℕ) → List ℕ) : Type 0 where
  pub there : (page : ℕ) → All (λ place. place < stroke_count (strokes page)) (named page)
  pub others : (page place : ℕ) (stroke : StrokeValue) → stroke_in (strokes page) place ≡ Some stroke → stroke.name.who ≢ unit → Contains (named page) place

-- Each line of a partition that has a record ended when so many of the copies were made, in their order, and no fewer than as the line before it did.
pub record CopiesCounted (unit : UnitId) (had : (place page : ℕ) → Option (List StrokeValue)) (rows : List LogRow) (most : ℕ) (named : Naming) : Type 0 where
  pub count : ℕ → ℕ
  pub few : (i : ℕ) → i < length rows → count i ≤ most
  pub rises : (i j : ℕ) → i ≤ j → j < length rows → count i ≤ count j
  pub made : (i : ℕ) → i < length rows → AreMadeBy unit (had i) (named (count i))

-- those of copies that were made
abbrev pub named_by : UnitId → List CopyRow → Naming
named_by unit copies count page = named_rows unit page (take count copies)

-- those of the server unit of a pair, among all that were made
abbrev pub copies_in : List CopyRecord → Option Pair → List CopyRow
copies_in copies None = []
copies_in copies (Some pair) = copies_by pair.server copies

abbrev pub copies_at : List CopyRecord → List Pair → ℕ → List CopyRow
copies_at copies pairs k = copies_in copies (slice_get pairs k)

-- while a run goes on: these are the copies that each pair's server unit made
abbrev pub AllMadeBy : (copies : ℕ → List CopyRow) → List Pair → Type 0
AllMadeBy copies pairs = (k : ℕ) (pair : Pair) → slice_get pairs k ≡ Some pair
    → AreMadeBy pair.window.unit (strokes_at pair.window.pages) (λ page. named_rows pair.window.unit page (copies k))
