use Rattle.vio_trace.proofs.Apart.{answers_apart}
use Rattle.vio_trace.proofs.Firsts.{answer_lines}
use Rattle.vio_trace.proofs.sections.AnswerRowSectionRow.keeps_apart.Goals as goal

pub returns : goal.returns
returns c = record { apart = answers_apart; lines = answer_lines }
