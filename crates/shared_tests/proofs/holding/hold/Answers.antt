use Rattle.std.proofs.Common.{[]}
use Rattle.shared_tests.proofs.holding.hold.Goals as goal

pub returns-in-Err : goal.returns-in-Err
returns-in-Err c = record { at = c.hold.ensures.at; free = (c.in-Err.ensures.err.none []).free }
