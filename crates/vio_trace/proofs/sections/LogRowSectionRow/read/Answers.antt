use Rattle.vio_trace.specs.declared.rows.LogRow.{LogRow}
use Rattle.vio_trace.specs.Form.{IsLogRow}
use Rattle.vio_trace.specs.Text.{log_text}
use Rattle.vio_trace.proofs.Begun.{first_alone}
use Rattle.vio_trace.proofs.sections.LogRowSectionRow.read.Goals as goal

pub returns-clause-begun : goal.returns-clause-begun
returns-clause-begun c = first_alone log_text IsLogRow (λ (row : LogRow). Unit {0}) c.args.text.now _ c.read_line.ensures.alone
