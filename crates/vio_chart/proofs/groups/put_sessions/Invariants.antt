-- The figures of the rows before the present one were added, each once.
use Rattle.std.proofs.Common.{take}
use Rattle.vio_chart.specs.Drawn.{Adds, AreDrawn}
use Rattle.vio_chart.specs.Picture.{IsSession}
use Rattle.vio_chart.proofs.groups.put_sessions.Given as goal

abbrev pub invariant-loop-queue : goal.invariant-loop-queue
invariant-loop-queue l = Adds (AreDrawn (IsSession l.units l.copies) (take l.queue-index l.queues)) l.initial.buffer.items l.buffer.items
