use Rattle.vio_trace.proofs.Apart.{copys_apart}
use Rattle.vio_trace.proofs.Firsts.{copy_lines}
use Rattle.vio_trace.proofs.sections.CopyRowSectionRow.keeps_apart.Goals as goal

pub returns : goal.returns
returns c = record { apart = copys_apart; lines = copy_lines }
