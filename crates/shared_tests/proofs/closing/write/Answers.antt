use Rattle.std.proofs.Common.{[], sym}
use Rattle.shared_tests.proofs.closing.write.Goals as goal

pub write-written-requires-clause-right : goal.write-written-requires-clause-right
write-written-requires-clause-right c = (c.in-Ok.ensures.ok.holds []).right_is

pub write-written-requires-clause-len : goal.write-written-requires-clause-len
write-written-requires-clause-len c = sym (c.in-Ok.ensures.ok.holds []).bytes

pub returns-in-Err : goal.returns-in-Err
returns-in-Err c = record { at = c.hold.ensures.at; free = (c.in-Err.ensures.err.none []).free }
