-- The figures of the rows before the present one were added, each once.
use Rattle.std.proofs.Common.{take}
use Rattle.vio_num.specs.declared.entry.Entry.{Entry}
use Rattle.vio_chart.specs.Drawn.{Adds, AreDrawn}
use Rattle.vio_chart.specs.Picture.{IsArrow}
use Rattle.vio_chart.proofs.groups.put_taken.Given as goal

abbrev pub invariant-loop-entry : goal.invariant-loop-entry
invariant-loop-entry l = Adds (AreDrawn (λ (entry : Entry). IsArrow l.ends.0 l.ends.1) (take l.entry-index l.taken)) l.initial.buffer.items l.buffer.items
