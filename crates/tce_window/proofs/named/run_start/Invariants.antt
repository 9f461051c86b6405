use Rattle.std.proofs.Common.{◌≡◌, ◌≤◌, length, drop, All, true}
use Rattle.tce_window.specs.Named.{same_name}
use Rattle.tce_window.proofs.named.run_start.Given as goal

abbrev pub decreases-loop-start : goal.decreases-loop-start
decreases-loop-start l = l.start

abbrev pub invariant-loop-start : goal.invariant-loop-start
invariant-loop-start l = record {
  within : l.start ≤ length l.strokes;
  named : All (λ stroke. same_name stroke.name l.name ≡ true) (drop l.start l.strokes);
}
