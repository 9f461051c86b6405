use Rattle.std.proofs.Common.{◌≡◌}
use Rattle.window_tests.proofs.copying.pages.source.Given as goal

abbrev pub invariant-loop-page : goal.invariant-loop-page
invariant-loop-page l = l.source.held_count ≡ 0
