use Rattle.vio_trace.proofs.Ends.{took_line_is}
use Rattle.vio_trace.proofs.read_forms.TookLineLine.is_one_line.Goals as goal

pub returns : goal.returns
returns c = took_line_is
