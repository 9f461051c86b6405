-- The lanes before the present partition are those of partitions in which a unit has a line.
use Rattle.std.proofs.Common.{◌≡◌}
use Rattle.vio_chart.specs.Columns.{lanes_below}
use Rattle.vio_chart.proofs.columns.lanes_of.Given as goal

abbrev pub invariant-loop-partition : goal.invariant-loop-partition
invariant-loop-partition l = l.lanes ≡ lanes_below l.units l.partition
