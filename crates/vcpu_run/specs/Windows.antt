-- The rows of a unit's window: the values that were put, and the strokes on its pages.
use Rattle.std.specs.Prelude.{ℕ, zero, suc, ◌+◌, ◌==◌, List, [], ◌++◌, Option, Some, None, filter, length, map}
use Rattle.vio_num.specs.declared.names.UnitId.{UnitId}
use Rattle.page_slots.specs.Stroke.{StrokeValue}
use Rattle.tce_window.specs.Window.{WindowValue, strokes_at}
use Rattle.tce_window.specs.declared.answers.TceRow.{TceRow}
use Rattle.vcpu_run.specs.Numbered.{numbered}
use Rattle.vio_trace.specs.declared.window_rows.StrokeRow.{StrokeRow}
use Rattle.vio_trace.specs.declared.window_rows.TceValueRow.{TceValueRow}

-- the row of a stroke at this place of a page
abbrev pub stroke_row : UnitId → (page place : ℕ) → StrokeValue → StrokeRow
stroke_row unit page place stroke = record {
  unit = unit;
  page = page;
  place = place;
  writer = stroke.name.who;
  mark = stroke.name.mark;
  offset = stroke.offset;
  bytes = stroke.bytes;
}

-- the rows of a page in its place
abbrev pub rows_on : UnitId → (page : ℕ) → Option (List StrokeValue) → List StrokeRow
rows_on unit page None = []
rows_on unit page (Some strokes) = numbered (stroke_row unit page) 0 strokes

-- those of so many pages from this one on
abbrev pub rows_from : UnitId → (ℕ → Option (List StrokeValue)) → (page n : ℕ) → List StrokeRow
rows_from unit strokes page zero = []
rows_from unit strokes page (suc n) = rows_on unit page (strokes page) ++ rows_from unit strokes (page + 1) n

-- the row of a value
abbrev pub value_row : UnitId → TceRow → TceValueRow
value_row unit row = record { unit = unit; entry = row.entry; version = row.version; value = row.value }

-- those of an entry
abbrev pub rows_of_entry : UnitId → List TceRow → ℕ → List TceValueRow
rows_of_entry unit rows e = map (value_row unit) (filter (λ row. row.entry == e) rows)

-- those of so many entries from this one on
abbrev pub values_from : UnitId → List TceRow → (e n : ℕ) → List TceValueRow
values_from unit rows e zero = []
values_from unit rows e (suc n) = rows_of_entry unit rows e ++ values_from unit rows (e + 1) n

-- all strokes and all values of a window
abbrev pub strokes_in_rows : UnitId → WindowValue → List StrokeRow
strokes_in_rows unit window = rows_from unit (strokes_at window.pages) 0 (length window.pages)

abbrev pub values_in_rows : UnitId → WindowValue → List TceValueRow
values_in_rows unit window = values_from unit window.rows 0 (length window.pages)
