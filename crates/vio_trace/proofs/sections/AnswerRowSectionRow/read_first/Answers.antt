use Rattle.vio_trace.specs.Form.{AnswerBefore, IsAnswerRow}
use Rattle.vio_trace.specs.Text.{answer_text}
use Rattle.vio_trace.proofs.Ends.{answer_line_is}
use Rattle.vio_trace.proofs.Firsts.{first_row}
use Rattle.vio_trace.proofs.Laws.{answer_section}
use Rattle.vio_trace.proofs.Histories.{answer_cut}
use Rattle.vio_trace.proofs.sections.AnswerRowSectionRow.read_first.Goals as goal

pub returns-clause-first : goal.returns-clause-first
returns-clause-first c =
    first_row answer_text IsAnswerRow AnswerBefore 5 answer_line_is answer_cut answer_section c.args.text.now _ _ c.in_ok-read_line.ensures.ok.0 c.in_ok-read_line.ensures.ok.1
