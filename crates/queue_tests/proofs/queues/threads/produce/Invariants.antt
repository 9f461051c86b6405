use Rattle.std.proofs.Common.{◌≡◌, ◌≤◌, true}
use Rattle.queue_tests.proofs.queues.threads.produce.Given as goal

abbrev pub invariant-loop : goal.invariant-loop
invariant-loop l = (l.send.ring ≡ l.fn.send.ring) × (l.send.inside ≡ true) × (l.k ≤ l.n)
