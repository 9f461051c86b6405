use Rattle.std.proofs.lemmas.Grind.{merely}
use Rattle.block_server.specs.Serving.{terms_of}
use Rattle.block_server.proofs.server.Server.open.Goals as goal

pub invariant_of-result : goal.invariant_of-result
invariant_of-result g c = record { serving = merely (c.in-Ok.ensures.serving _ _) }

pub returns-clause-order : goal.returns-clause-order
returns-clause-order g c = λ told. c.in-Ok.ensures.serving (terms_of told _) _
