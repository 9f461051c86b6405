use Rattle.vio_trace.proofs.Ends.{port_line_is}
use Rattle.vio_trace.proofs.read_lines.PortRowLine.is_one_line.Goals as goal

pub returns : goal.returns
returns c = port_line_is
