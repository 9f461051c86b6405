use Rattle.std.proofs.Common.{◌≡◌, ◌-◌, ◌≤◌, length}
use Rattle.tce_window.specs.Window.{strokes_at}
use Rattle.shared_window.specs.Hand.{GivesUpTo, SawWithin}
use Rattle.shared_window.proofs.hand.give_below.Given as goal

abbrev pub decreases-loop-number : goal.decreases-loop-number
decreases-loop-number l = 65536 - l.from

abbrev pub invariant-loop-number : goal.invariant-loop-number
invariant-loop-number l = record {
  up : GivesUpTo l.fn.seat (strokes_at l.fn.region) l.from l.seat (strokes_at l.region);
  size : length l.region ≡ length l.fn.region;
  near : l.from ≤ 65536;
  within : SawWithin l.fn.seat → SawWithin l.seat;
}
