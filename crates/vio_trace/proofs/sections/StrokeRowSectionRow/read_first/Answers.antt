use Rattle.vio_trace.specs.Form.{StrokeBefore, IsStrokeRow}
use Rattle.vio_trace.specs.Text.{stroke_text}
use Rattle.vio_trace.proofs.Ends.{stroke_line_is}
use Rattle.vio_trace.proofs.Firsts.{first_row}
use Rattle.vio_trace.proofs.Laws.{stroke_section}
use Rattle.vio_trace.proofs.Windows.{stroke_cut}
use Rattle.vio_trace.proofs.sections.StrokeRowSectionRow.read_first.Goals as goal

pub returns-clause-first : goal.returns-clause-first
returns-clause-first c =
    first_row stroke_text IsStrokeRow StrokeBefore 13 stroke_line_is stroke_cut stroke_section c.args.text.now _ _ c.in_ok-read_line.ensures.ok.0 c.in_ok-read_line.ensures.ok.1
