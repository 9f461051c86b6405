-- What a table keeps between its calls.
use Rattle.std.specs.Prelude.{ℕ, ◌/◌, ◌<◌, ◌≤◌, IsTrue, List, [], length, slice_index_or}
use Rattle.vio_num.specs.declared.TheConstants.{PAGE_BYTES}
use Rattle.tce_window.specs.declared.answers.TceRow.{TceRow}
use Rattle.tce_window.specs.declared.table.Current.{Current}
use Rattle.tce_window.specs.Grant.{values_of, IsCurrent, AreNumbered, has_right}

-- what is kept of entry e of n: its last value, of which a page that it grants is one of n
pub record IsEntry (rows : List TceRow) (n e : ℕ) (last : Current) : Type 0 where
  pub current : IsCurrent (values_of rows) e last.version last.value
  pub page : IsTrue (has_right last.value) → last.value / PAGE_BYTES < n
  pub few : last.version ≤ length rows

pub record KeepsValues (entries : List Current) (rows : List TceRow) : Type 0 where
  pub each : (e : ℕ) (d : Current) → e < length entries → IsEntry rows (length entries) e (slice_index_or entries e d)
  pub numbered : AreNumbered (length entries) [] rows
