use Rattle.std.proofs.Common.{◌≡◌, true}
use Rattle.shared_tests.proofs.entries.threads.owner.Given as goal

abbrev pub invariant-loop : goal.invariant-loop
invariant-loop l = (l.seat.entries ≡ l.entries.id) × (l.seat.owns ≡ true)
