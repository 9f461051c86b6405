-- The text grows by the lines of the rows before the present one.
use Rattle.std.proofs.Common.{◌≡◌, ◌++◌, take}
use Rattle.std.specs.Prelude.{flat_map}
use Rattle.vio_trace.proofs.lines.put_all.Given as goal

abbrev pub invariant-loop-row : goal.invariant-loop-row
invariant-loop-row g l = l.buffer.items ≡ l.initial.buffer.items ++ flat_map g.R.Lines.text (take l.row-index l.rows)
