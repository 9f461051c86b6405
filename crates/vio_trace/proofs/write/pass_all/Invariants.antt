-- The lines of the rows before the present one were passed on.
use Rattle.std.proofs.Common.{◌≡◌, take}
use Rattle.std.specs.Prelude.{flat_map}
use Rattle.vio_trace.specs.Passing.{Passes}
use Rattle.vio_trace.proofs.write.pass_all.Given as goal

abbrev pub invariant-loop-row : goal.invariant-loop-row
invariant-loop-row g l =
    Passes l.initial.gathered.items (flat_map g.R.Lines.text (take l.row-index l.rows)) (g.S.Sink.taken l.initial.sink) (g.S.Sink.taken l.sink) l.gathered.items
    × (g.S.Sink.faults l.sink ≡ g.S.Sink.faults l.initial.sink)
