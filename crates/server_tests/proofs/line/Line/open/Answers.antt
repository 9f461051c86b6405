use Rattle.block_server.proofs.Opening.{none_kept}
use Rattle.server_tests.proofs.line.Line.open.Goals as goal

pub invariant_of-result : goal.invariant_of-result
invariant_of-result c = record { event = none_kept _ c.in_ok-open.ensures.first.kept }
