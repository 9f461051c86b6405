-- The units before the present one are those that have a line.
use Rattle.std.proofs.Common.{◌≡◌}
use Rattle.vio_chart.specs.Columns.{lines_below}
use Rattle.vio_chart.proofs.columns.columns_of.Given as goal

abbrev pub invariant-loop-n : goal.invariant-loop-n
invariant-loop-n l = l.units ≡ lines_below l.trace l.n
