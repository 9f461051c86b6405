use Rattle.vio_trace.proofs.Ends.{drop_line_is}
use Rattle.vio_trace.proofs.read_lines.DropRowLine.is_one_line.Goals as goal

pub returns : goal.returns
returns c = drop_line_is
