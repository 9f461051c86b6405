use Rattle.vio_trace.proofs.Ends.{sent_line_is}
use Rattle.vio_trace.proofs.read_forms.SentLineLine.is_one_line.Goals as goal

pub returns : goal.returns
returns c = sent_line_is
