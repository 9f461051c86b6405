use Rattle.vio_trace.proofs.Apart.{grants_apart}
use Rattle.vio_trace.proofs.Firsts.{grant_lines}
use Rattle.vio_trace.proofs.sections.GrantSectionRow.keeps_apart.Goals as goal

pub returns : goal.returns
returns c = record { apart = grants_apart; lines = grant_lines }
