use Rattle.vio_trace.proofs.Ends.{log_line_is}
use Rattle.vio_trace.proofs.read_forms.LogRowLine.is_one_line.Goals as goal

pub returns : goal.returns
returns c = log_line_is
