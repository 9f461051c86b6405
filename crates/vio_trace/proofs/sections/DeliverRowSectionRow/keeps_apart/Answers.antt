use Rattle.vio_trace.proofs.Apart.{delivers_apart}
use Rattle.vio_trace.proofs.Firsts.{deliver_lines}
use Rattle.vio_trace.proofs.sections.DeliverRowSectionRow.keeps_apart.Goals as goal

pub returns : goal.returns
returns c = record { apart = delivers_apart; lines = deliver_lines }
