use Rattle.vio_trace.specs.declared.window_rows.StrokeRow.{StrokeRow}
use Rattle.vio_trace.specs.Form.{IsStrokeRow}
use Rattle.vio_trace.specs.Text.{stroke_text}
use Rattle.vio_trace.proofs.Begun.{first_alone}
use Rattle.vio_trace.proofs.sections.StrokeRowSectionRow.read.Goals as goal

pub returns-clause-begun : goal.returns-clause-begun
returns-clause-begun c = first_alone stroke_text IsStrokeRow (λ (row : StrokeRow). Unit {0}) c.args.text.now _ c.read_line.ensures.alone
