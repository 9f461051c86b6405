use Rattle.vio_trace.proofs.Apart.{harvests_apart}
use Rattle.vio_trace.proofs.Firsts.{harvest_lines}
use Rattle.vio_trace.proofs.sections.HarvestRowSectionRow.keeps_apart.Goals as goal

pub returns : goal.returns
returns c = record { apart = harvests_apart; lines = harvest_lines }
