-- The line so far is the one behind those that end before the present place.
use Rattle.std.proofs.Common.{◌≡◌, ◌≤◌, ◌+◌, ◌-◌, length, take}
use Rattle.vio_trace.specs.Shared.{line_ends}
use Rattle.vio_trace.proofs.read.line_at.Given as goal

abbrev pub invariant-loop-at : goal.invariant-loop-at
invariant-loop-at l = record {
  within : l.at ≤ length l.bytes - l.left;
  few : l.line ≤ l.at + 1;
  line : l.line ≡ line_ends (take l.at l.bytes) + 1;
}

abbrev pub decreases-loop-at : goal.decreases-loop-at
decreases-loop-at l = length l.bytes - l.at
