use Rattle.vio_trace.proofs.Ends.{queue_head_line_is}
use Rattle.vio_trace.proofs.read_heads.QueueHeadLine.is_one_line.Goals as goal

pub returns : goal.returns
returns c = queue_head_line_is
