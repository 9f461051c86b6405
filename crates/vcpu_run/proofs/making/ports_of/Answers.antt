-- The ports of each partition come behind those of the partitions before it.
use Rattle.std.proofs.Common.{◌∙◌, ap, ◌++◌}
use Rattle.vcpu_run.specs.Ports.{ports_in}
use Rattle.vcpu_run.proofs.PortsFound.{partition_step}
use Rattle.vcpu_run.proofs.making.ports_of.Goals as goal

pub loop-number-preserved : goal.loop-number-preserved
loop-number-preserved c =
    partition_step c.args.partitions.now c.loop-number.number c.index-partitions-number.result _ _ c.loop-number-test.true c.index-partitions-number.is
    c.loop-number.invariant (c.in_ok-put_ports.ensures ∙ ap (λ units. c.loop-number.ports.items ++ ports_in c.loop-number.number 0 units) c.as_slice.ensures)
