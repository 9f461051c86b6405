-- Each unit comes behind those before it.
use Rattle.std.proofs.lemmas.List.{get_or_default}
use Rattle.std.specs.List.{slice_index_or}
use Rattle.vcpu_run.specs.Units.{unit_seat}
use Rattle.vcpu_run.specs.declared.unit_seat.Seat.TheVariants as sits
use Rattle.vcpu_run.proofs.Cuts.{behind, numbered_step}
use Rattle.vcpu_run.proofs.units.put_units.Goals as goal

pub loop-unit-preserved : goal.loop-unit-preserved
loop-unit-preserved c =
    behind _ _ _ _ _ _ c.in_ok-push.ensures.items c.loop-unit.invariant
    (numbered_step (unit_seat c.args.partition) c.args.own.now c.loop-unit.unit (slice_index_or c.args.own.now c.loop-unit.unit sits.Server) c.loop-unit-test.true
    (get_or_default c.args.own.now c.loop-unit.unit sits.Server _ c.loop-unit-test.true))
