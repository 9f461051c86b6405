use Rattle.vio_trace.proofs.Apart.{serves_apart}
use Rattle.vio_trace.proofs.Firsts.{serve_lines}
use Rattle.vio_trace.proofs.sections.ServedSectionRow.keeps_apart.Goals as goal

pub returns : goal.returns
returns c = record { apart = serves_apart; lines = serve_lines }
