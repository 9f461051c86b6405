-- The figures of the rows before the present one were added, each once.
use Rattle.std.proofs.Common.{take}
use Rattle.vio_chart.specs.Drawn.{Adds, AreDrawn}
use Rattle.vio_chart.specs.Picture.{IsService}
use Rattle.vio_chart.proofs.groups.put_services.Given as goal

abbrev pub invariant-loop-served : goal.invariant-loop-served
invariant-loop-served l = Adds (AreDrawn (IsService l.units) (take l.served-index l.serves)) l.initial.buffer.items l.buffer.items
