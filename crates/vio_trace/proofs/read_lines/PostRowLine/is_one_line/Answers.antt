use Rattle.vio_trace.proofs.Ends.{post_line_is}
use Rattle.vio_trace.proofs.read_lines.PostRowLine.is_one_line.Goals as goal

pub returns : goal.returns
returns c = post_line_is
