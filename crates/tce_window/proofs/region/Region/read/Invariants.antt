use Rattle.std.proofs.Common.{◌≡◌, ℕ, ◌+◌, ◌-◌, ◌<◌, ◌≤◌, length, get_or}
use Rattle.tce_window.specs.Region.{region_byte}
use Rattle.tce_window.specs.Window.{strokes_at}
use Rattle.tce_window.proofs.region.Region.read.Given as goal

abbrev pub decreases-loop-done : goal.decreases-loop-done
decreases-loop-done l = length l.out - l.done

abbrev pub invariant-loop-done : goal.invariant-loop-done
invariant-loop-done l = record {
  within : l.done ≤ length l.out;
  same : length l.out ≡ length l.initial.out;
  bytes : (k : ℕ) → k < l.done → get_or l.out k 0 ≡ region_byte (strokes_at l.self) (l.at + k);
}
