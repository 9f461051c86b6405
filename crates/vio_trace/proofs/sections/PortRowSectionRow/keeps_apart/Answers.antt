use Rattle.vio_trace.proofs.Apart.{ports_apart}
use Rattle.vio_trace.proofs.Firsts.{port_lines}
use Rattle.vio_trace.proofs.sections.PortRowSectionRow.keeps_apart.Goals as goal

pub returns : goal.returns
returns c = record { apart = ports_apart; lines = port_lines }
