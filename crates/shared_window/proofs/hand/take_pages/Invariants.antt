use Rattle.std.proofs.Common.{◌-◌, ◌≤◌}
use Rattle.shared_window.specs.Hand.{TakesPages, is_below, SawWithin}
use Rattle.shared_window.proofs.hand.take_pages.Given as goal

abbrev pub decreases-loop-number : goal.decreases-loop-number
decreases-loop-number l = 65536 - l.from

abbrev pub invariant-loop-number : goal.invariant-loop-number
invariant-loop-number l = record {
  took : TakesPages l.pages l.fn.seat (is_below l.pieces l.from) l.seat l.region;
  near : l.from ≤ 65536;
  within : SawWithin l.fn.seat → SawWithin l.seat;
}
