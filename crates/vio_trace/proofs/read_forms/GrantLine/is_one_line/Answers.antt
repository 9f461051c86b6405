use Rattle.vio_trace.proofs.Ends.{grant_line_is}
use Rattle.vio_trace.proofs.read_forms.GrantLine.is_one_line.Goals as goal

pub returns : goal.returns
returns c = grant_line_is
