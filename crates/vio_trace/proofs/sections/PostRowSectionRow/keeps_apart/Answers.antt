use Rattle.vio_trace.proofs.Apart.{posts_apart}
use Rattle.vio_trace.proofs.Firsts.{post_lines}
use Rattle.vio_trace.proofs.sections.PostRowSectionRow.keeps_apart.Goals as goal

pub returns : goal.returns
returns c = record { apart = posts_apart; lines = post_lines }
