-- The table of a window's values.
use Rattle.std.specs.Prelude.{ℕ, List}
use Rattle.tce_window.specs.declared.answers.TceRow.{TceRow}

pub record TableValue : Type 0 where
  -- the number of entries
  pub size : ℕ
  -- each value put, the oldest first
  pub rows : List TceRow
  -- how many more may be put before room has to be made
  pub spare : ℕ
