-- The byte does not stand before the present place.
use Rattle.std.proofs.Common.{◌≤◌, ◌-◌, length, take}
use Rattle.vio_trace.specs.Reading.{Without}
use Rattle.vio_trace.proofs.fields.place_of.Given as goal

abbrev pub invariant-loop-at : goal.invariant-loop-at
invariant-loop-at l = (l.at ≤ length l.text) × Without l.byte (take l.at l.text)

abbrev pub decreases-loop-at : goal.decreases-loop-at
decreases-loop-at l = length l.text - l.at
