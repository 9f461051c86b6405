use Rattle.vio_trace.proofs.Ends.{stroke_line_is}
use Rattle.vio_trace.proofs.read_lines.StrokeRowLine.is_one_line.Goals as goal

pub returns : goal.returns
returns c = stroke_line_is
