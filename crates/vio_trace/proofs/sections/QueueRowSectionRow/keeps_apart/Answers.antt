use Rattle.vio_trace.proofs.Apart.{queues_apart}
use Rattle.vio_trace.proofs.Firsts.{queue_lines}
use Rattle.vio_trace.proofs.sections.QueueRowSectionRow.keeps_apart.Goals as goal

pub returns : goal.returns
returns c = record { apart = queues_apart; lines = queue_lines }
