-- Those before the present one are in their ranges.
use Rattle.std.proofs.Common.{take, All}
use Rattle.vio_trace.specs.Form.{IsEntry}
use Rattle.vio_trace.proofs.fitting.entries_fit.Given as goal

abbrev pub invariant-loop-entry : goal.invariant-loop-entry
invariant-loop-entry l = All IsEntry (take l.entry-index l.entries)
