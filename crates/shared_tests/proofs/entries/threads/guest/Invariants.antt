use Rattle.entry_slots.specs.Entries.{HoldsRange}
use Rattle.shared_tests.proofs.entries.threads.guest.Given as goal

abbrev pub invariant-loop : goal.invariant-loop
invariant-loop l = HoldsRange l.entries l.holder.from l.holder.count l.holder.seat
