use Rattle.vio_trace.proofs.Apart.{logs_apart}
use Rattle.vio_trace.proofs.Firsts.{log_lines}
use Rattle.vio_trace.proofs.sections.LogRowSectionRow.keeps_apart.Goals as goal

pub returns : goal.returns
returns c = record { apart = logs_apart; lines = log_lines }
