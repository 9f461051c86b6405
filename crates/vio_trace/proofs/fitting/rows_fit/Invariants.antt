-- Those before the present one are in their ranges.
use Rattle.std.proofs.Common.{take, All}
use Rattle.vio_trace.proofs.fitting.rows_fit.Given as goal

abbrev pub invariant-loop-row : goal.invariant-loop-row
invariant-loop-row g l = All g.R.Lines.in_range (take l.row-index l.rows)
