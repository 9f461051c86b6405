use Rattle.vio_trace.proofs.Ends.{harvest_line_is}
use Rattle.vio_trace.proofs.read_lines.HarvestRowLine.is_one_line.Goals as goal

pub returns : goal.returns
returns c = harvest_line_is
