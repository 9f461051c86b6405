use Rattle.std.proofs.Common.{◌≤◌, length}
use Rattle.queue_tests.proofs.session.threads.is_handed.Given as goal

abbrev pub invariant-loop-row : goal.invariant-loop-row
invariant-loop-row l = l.at ≤ length l.sent
