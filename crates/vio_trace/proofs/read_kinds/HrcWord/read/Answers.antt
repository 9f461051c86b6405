use Rattle.vio_trace.proofs.Numbers.{without_above}
use Rattle.vio_trace.proofs.Spelled.{plain_code}
use Rattle.vio_trace.proofs.read_kinds.HrcWord.read.Goals as goal

pub returns-clause-plain : goal.returns-clause-plain
returns-clause-plain c v h = without_above 32 _ (plain_code v)
