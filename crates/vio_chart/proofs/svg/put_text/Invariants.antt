-- The characters before the present one were written.
use Rattle.std.proofs.Common.{◌≡◌, ◌++◌, take}
use Rattle.std.specs.Prelude.{flat_map}
use Rattle.vio_chart.specs.Picture.{escaped}
use Rattle.vio_chart.proofs.svg.put_text.Given as goal

abbrev pub invariant-loop-c : goal.invariant-loop-c
invariant-loop-c l = l.buffer.items ≡ l.initial.buffer.items ++ flat_map escaped (take l.c-index l.text)
