use Rattle.vio_trace.proofs.Ends.{answer_line_is}
use Rattle.vio_trace.proofs.read_lines.AnswerRowLine.is_one_line.Goals as goal

pub returns : goal.returns
returns c = answer_line_is
