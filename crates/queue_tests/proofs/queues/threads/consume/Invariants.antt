use Rattle.std.proofs.Common.{◌≡◌, ◌≤◌, true}
use Rattle.queue_tests.proofs.queues.threads.consume.Given as goal

abbrev pub invariant-loop : goal.invariant-loop
invariant-loop l = (l.recv.ring ≡ l.fn.recv.ring) × (l.recv.is_open ≡ true) × (l.k ≤ l.n)
