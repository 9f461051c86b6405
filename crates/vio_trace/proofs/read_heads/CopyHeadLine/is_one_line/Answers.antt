use Rattle.vio_trace.proofs.Ends.{copy_head_line_is}
use Rattle.vio_trace.proofs.read_heads.CopyHeadLine.is_one_line.Goals as goal

pub returns : goal.returns
returns c = copy_head_line_is
