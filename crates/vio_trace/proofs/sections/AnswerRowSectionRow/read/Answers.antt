use Rattle.vio_trace.specs.declared.rows.AnswerRow.{AnswerRow}
use Rattle.vio_trace.specs.Form.{IsAnswerRow}
use Rattle.vio_trace.specs.Text.{answer_text}
use Rattle.vio_trace.proofs.Begun.{first_alone}
use Rattle.vio_trace.proofs.sections.AnswerRowSectionRow.read.Goals as goal

pub returns-clause-begun : goal.returns-clause-begun
returns-clause-begun c = first_alone answer_text IsAnswerRow (λ (row : AnswerRow). Unit {0}) c.args.text.now _ c.read_line.ensures.alone
