use Rattle.vio_trace.proofs.Ends.{to_line_is}
use Rattle.vio_trace.proofs.read_forms.ToLineLine.is_one_line.Goals as goal

pub returns : goal.returns
returns c = to_line_is
