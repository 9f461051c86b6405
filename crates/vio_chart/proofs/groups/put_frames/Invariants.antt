-- The figures of the rows before the present one were added, each once.
use Rattle.std.proofs.Common.{take}
use Rattle.vio_chart.specs.Drawn.{Adds, AreDrawn}
use Rattle.vio_chart.specs.Picture.{IsFrame}
use Rattle.vio_chart.proofs.groups.put_frames.Given as goal

abbrev pub invariant-loop-frame : goal.invariant-loop-frame
invariant-loop-frame l = Adds (AreDrawn (IsFrame l.units) (take l.frame-index l.frames)) l.initial.buffer.items l.buffer.items
