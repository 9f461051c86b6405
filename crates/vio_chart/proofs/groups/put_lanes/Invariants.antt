-- The figures of the rows before the present one were added, each once.
use Rattle.std.proofs.Common.{take}
use Rattle.vio_chart.specs.Drawn.{Adds, AreDrawn}
use Rattle.vio_chart.specs.Picture.{IsLane}
use Rattle.vio_chart.proofs.groups.put_lanes.Given as goal

abbrev pub invariant-loop-partition : goal.invariant-loop-partition
invariant-loop-partition l = Adds (AreDrawn (IsLane) (take l.partition-index l.lanes)) l.initial.buffer.items l.buffer.items
