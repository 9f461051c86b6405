use Rattle.vio_trace.proofs.Apart.{tces_apart}
use Rattle.vio_trace.proofs.Firsts.{tce_lines}
use Rattle.vio_trace.proofs.sections.TceValueRowSectionRow.keeps_apart.Goals as goal

pub returns : goal.returns
returns c = record { apart = tces_apart; lines = tce_lines }
