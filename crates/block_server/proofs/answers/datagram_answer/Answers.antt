use Rattle.block_server.proofs.Putting.{datagram_may}
use Rattle.block_server.proofs.answers.datagram_answer.Goals as goal

pub returns-clause-may : goal.returns-clause-may
returns-clause-may c = datagram_may c.args.low
