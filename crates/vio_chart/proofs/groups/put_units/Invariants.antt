-- The figures of the rows before the present one were added, each once.
use Rattle.std.proofs.Common.{take}
use Rattle.vio_chart.specs.Drawn.{Adds, AreDrawn}
use Rattle.vio_chart.specs.Picture.{IsUnitLine}
use Rattle.vio_chart.proofs.groups.put_units.Given as goal

abbrev pub invariant-loop-unit : goal.invariant-loop-unit
invariant-loop-unit l = Adds (AreDrawn (IsUnitLine l.units) (take l.unit-index l.units)) l.initial.buffer.items l.buffer.items
