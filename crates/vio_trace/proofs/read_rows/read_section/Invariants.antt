-- The rows read so far stand in order, they and what is behind them are the text, and a whole section begins with them.
use Rattle.std.proofs.Common.{◌≡◌, ◌++◌, All, length}
use Rattle.std.specs.Prelude.{flat_map}
use Rattle.vio_trace.specs.Form.{Ascend}
use Rattle.vio_trace.proofs.Ahead.{AllAhead}
use Rattle.vio_trace.proofs.AheadShared.{SharedAhead}
use Rattle.vio_trace.proofs.read_rows.read_section.Given as goal

abbrev pub invariant-loop-row : goal.invariant-loop-row
invariant-loop-row g l = record {
  rows : All g.R.Lines.in_range l.rows;
  text : l.fn.text ≡ flat_map g.R.Lines.text l.rows ++ l.rest;
  names : All g.R.SectionRow.names_itself l.rows;
  order : Ascend g.R.SectionRow.before l.rows;
  ahead : AllAhead g.R.Lines.text g.R.Lines.in_range g.R.SectionRow.names_itself g.R.SectionRow.before g.R.SectionRow.kind l.rows l.rest l.fn.text;
  shared : SharedAhead g.R.Lines.text g.R.Lines.in_range g.R.SectionRow.names_itself g.R.SectionRow.before g.R.SectionRow.kind l.rows l.rest;
}

abbrev pub decreases-loop-row : goal.decreases-loop-row
decreases-loop-row g l = length l.rest
