use Rattle.vio_trace.proofs.Ends.{offer_line_is}
use Rattle.vio_trace.proofs.read_lines.OfferRowLine.is_one_line.Goals as goal

pub returns : goal.returns
returns c = offer_line_is
