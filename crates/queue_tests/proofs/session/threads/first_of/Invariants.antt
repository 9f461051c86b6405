use Rattle.std.proofs.Common.{◌≤◌}
use Rattle.queue_tests.proofs.session.threads.first_of.Given as goal

abbrev pub invariant-loop-k : goal.invariant-loop-k
invariant-loop-k l = l.left ≤ l.slots
