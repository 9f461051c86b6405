use Rattle.std.proofs.Common.{◌≤◌}
use Rattle.page_slots.specs.Turns.{IsIdle}
use Rattle.window_tests.proofs.shared_pages.work.Given as goal

abbrev pub invariant-loop : goal.invariant-loop
invariant-loop l = record { idle : IsIdle l.pages l.seat; within : l.k ≤ l.n }
