-- The figures of the rows before the present one were added, each once.
use Rattle.std.proofs.Common.{take}
use Rattle.vio_chart.specs.Drawn.{Adds, AreDrawn}
use Rattle.vio_chart.specs.Picture.{IsCopy}
use Rattle.vio_chart.proofs.groups.put_copies.Given as goal

abbrev pub invariant-loop-copy : goal.invariant-loop-copy
invariant-loop-copy l = Adds (AreDrawn (IsCopy l.units) (take l.copy-index l.copies)) l.initial.buffer.items l.buffer.items
