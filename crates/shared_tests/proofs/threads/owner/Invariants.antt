use Rattle.std.proofs.Common.{◌≡◌}
use Rattle.shared_window.specs.Opening.{IsOwnerAt}
use Rattle.shared_tests.proofs.threads.owner.Given as goal

abbrev pub invariant-loop : goal.invariant-loop
invariant-loop l = IsOwnerAt l.window l.owner × (l.owner.seat.entries.held_count ≡ 0)
