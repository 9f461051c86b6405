-- What the region of a client or of a LAN unit had as lines of its partition ended.
use Rattle.std.specs.Prelude.{◌≡◌, ◌≤◌, ◌<◌, ℕ, true, List, Option, Some, length}
use Rattle.std.specs.List.{AllPairs, slice_get}
use Rattle.vio_num.specs.declared.names.UnitId.{UnitId}
use Rattle.boot_text.specs.declared.plan.Line.{Line}
use Rattle.page_slots.specs.Stroke.{StrokeValue}
use Rattle.tce_window.specs.Port.{Grows}
use Rattle.tce_window.specs.Strokes.{with_strokes}
use Rattle.unit_region.specs.Marks.{wrote_on}
use Rattle.unit_region.specs.RegionLines.{IsFrontOn, IsOn, IsTold, Placed, region_seen, written_by}
use Rattle.vio_trace.specs.declared.outcome.Outcome.{Outcome}
use Rattle.vio_trace.specs.declared.rows.LogRow.{LogRow}
use Rattle.lan_script.specs.Seats.{is_in_region}

-- A page may have had these strokes as the line of this number ended: of the unit's own, those that bear no later number, and all of these; of
-- other units' as many as it likes. Others lie behind them now.
pub record IsMoment (unit : UnitId) (number : ℕ) (had now : Option (List StrokeValue)) : Type 0 where
  pub earlier : (stroke : StrokeValue) → IsOn stroke had → stroke.name.who ≡ unit → stroke.name.mark ≤ number
  pub later : IsFrontOn unit (λ mark. number < mark) had now

-- What a page had as a line in the unit's own region ended is what it had before, where each stroke of the unit's own bears the number of an
-- earlier line, and behind it just what the line wrote there.
pub record IsWrittenLast (unit : UnitId) (number : ℕ) (placed : Option Placed) (outcome : Outcome) (page : ℕ) (had : Option (List StrokeValue)) : Type 0 where
  pub before : Option (List StrokeValue)
  pub is : had ≡ with_strokes before (wrote_on unit number placed outcome page)
  pub earlier : (stroke : StrokeValue) → IsOn stroke before → stroke.name.who ≡ unit → stroke.name.mark < number

-- The lines of a partition that have a record, and what the pages of a unit's region had as each ended: no page lost a stroke from one to the next,
-- and each line of the unit says what was so of its region then, and there is what it says. Those in its own region wrote nothing else.
pub record LinesTold (strokes : ℕ → Option (List StrokeValue)) (pages : ℕ) (who : UnitId) (lines : List Line) (rows : List LogRow) : Type 0 where
  pub had : (place page : ℕ) → Option (List StrokeValue)
  pub moments : (i : ℕ) (line : Line) (row : LogRow) → slice_get lines i ≡ Some line → slice_get rows i ≡ Some row → (page : ℕ)
      → IsMoment who line.number (had i page) (strokes page)
  pub rises : (i j : ℕ) (line : Line) (row : LogRow) → slice_get lines i ≡ Some line → slice_get rows i ≡ Some row → i ≤ j → j < length rows → (page : ℕ)
      → Grows true (had i page) (had j page)
  pub told : (i : ℕ) (line : Line) (row : LogRow) → slice_get lines i ≡ Some line → slice_get rows i ≡ Some row → line.unit ≡ who.unit
      → IsTold (region_seen (had i)) pages who line.number line.verb row.outcome
  pub wrote : (i : ℕ) (line : Line) (row : LogRow) → slice_get lines i ≡ Some line → slice_get rows i ≡ Some row → line.unit ≡ who.unit
      → is_in_region line.verb ≡ true → (page : ℕ) → IsWrittenLast who line.number (written_by line.verb) row.outcome page (had i page)

-- The numbers of lines rise, and while lines are left, those before the current one have a record each.
pub record AreInTurn (lines : List Line) (rows : List LogRow) (at : ℕ) : Type 0 where
  pub in_order : AllPairs (λ a b. a.number < b.number) lines
  pub reached : at < length lines → length rows ≡ at
