use Rattle.vio_trace.proofs.Ends.{tce_line_is}
use Rattle.vio_trace.proofs.read_lines.TceValueRowLine.is_one_line.Goals as goal

pub returns : goal.returns
returns c = tce_line_is
