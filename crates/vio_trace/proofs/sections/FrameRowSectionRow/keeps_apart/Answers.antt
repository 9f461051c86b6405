use Rattle.vio_trace.proofs.Apart.{frames_apart}
use Rattle.vio_trace.proofs.Firsts.{frame_lines}
use Rattle.vio_trace.proofs.sections.FrameRowSectionRow.keeps_apart.Goals as goal

pub returns : goal.returns
returns c = record { apart = frames_apart; lines = frame_lines }
