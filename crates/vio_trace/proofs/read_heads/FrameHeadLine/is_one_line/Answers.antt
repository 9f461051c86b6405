use Rattle.vio_trace.proofs.Ends.{frame_head_line_is}
use Rattle.vio_trace.proofs.read_heads.FrameHeadLine.is_one_line.Goals as goal

pub returns : goal.returns
returns c = frame_head_line_is
