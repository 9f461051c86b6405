use Rattle.shared_window.specs.SharedWindow.{IsIdleAt}
use Rattle.shared_tests.proofs.threads.guest.Given as goal

abbrev pub invariant-loop : goal.invariant-loop
invariant-loop l = IsIdleAt l.window l.guest
