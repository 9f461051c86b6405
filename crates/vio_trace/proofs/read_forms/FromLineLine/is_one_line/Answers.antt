use Rattle.vio_trace.proofs.Ends.{from_line_is}
use Rattle.vio_trace.proofs.read_forms.FromLineLine.is_one_line.Goals as goal

pub returns : goal.returns
returns c = from_line_is
