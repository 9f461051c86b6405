-- The port of each unit comes behind those of the units before it.
use Rattle.std.proofs.lemmas.List.{get_or_default}
use Rattle.std.specs.List.{slice_index_or}
use Rattle.boot_text.specs.declared.plan.UnitPlan.TheVariants as kinds
use Rattle.vcpu_run.proofs.Cuts.{behind}
use Rattle.vcpu_run.proofs.PortsFound.{ports_step}
use Rattle.vcpu_run.proofs.making.put_ports.Goals as goal

pub loop-place-preserved : goal.loop-place-preserved
loop-place-preserved c =
    behind _ _ _ _ _ _ c.in_ok-put_port.ensures c.loop-place.invariant
    (ports_step c.args.partition c.args.units.now c.loop-place.place (slice_index_or c.args.units.now c.loop-place.place (kinds.Server 0)) c.loop-place-test.true
    (get_or_default c.args.units.now c.loop-place.place (kinds.Server 0) _ c.loop-place-test.true))
