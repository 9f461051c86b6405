use Rattle.vio_trace.proofs.Ends.{deliver_head_line_is}
use Rattle.vio_trace.proofs.read_heads.DeliverHeadLine.is_one_line.Goals as goal

pub returns : goal.returns
returns c = deliver_head_line_is
