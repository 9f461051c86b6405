use Rattle.vio_trace.proofs.Ends.{serve_line_is}
use Rattle.vio_trace.proofs.read_lines.ServedLine.is_one_line.Goals as goal

pub returns : goal.returns
returns c = serve_line_is
