use Rattle.std.proofs.Common.{refl}
use Rattle.vcpu_run.proofs.CalledPorts.{port_called_ok}
use Rattle.vcpu_run.proofs.PortCalling.{unsaid_entries}
use Rattle.vcpu_run.proofs.PortKept.{kept_called}
use Rattle.vcpu_run.proofs.RawCalling.{calls_same, port_made}
use Rattle.vcpu_run.proofs.partition_units.PartitionUnits.make_port.Goals as goal

pub returns-in-Some-Port-clause-made : goal.returns-in-Some-Port-clause-made
returns-in-Some-Port-clause-made c =
    port_made c.args.self.now _ c.args.unit c.id-id.result c.args.call c.call.result c.id-id.ensures refl refl c.call.ensures.seats
    c.call.ensures.counts c.call.ensures.sends c.call.ensures.beside c.call.ensures.others (kept_called c.call.result c.args.self.now.lan.now _ c.call.ensures.regions c.call.ensures.marks)

pub returns-in-Some-Port-clause-ports : goal.returns-in-Some-Port-clause-ports
returns-in-Some-Port-clause-ports c =
    port_called_ok c.args.self.now.partition c.args.unit c.id-id.result c.args.call c.call.result c.args.self.now.lan.now _ c.id-id.ensures c.call.ensures.seats
    c.call.ensures.counts c.call.ensures.sends c.call.ensures.beside c.call.ensures.grows c.call.ensures.others (kept_called c.call.result c.args.self.now.lan.now _ c.call.ensures.regions c.call.ensures.marks) c.call.ensures.macs

pub returns-in-Some-Port-clause-entries : goal.returns-in-Some-Port-clause-entries
returns-in-Some-Port-clause-entries c = λ isnt args.
    unsaid_entries c.args.self.now _ c.args.unit c.id-id.result _ args c.call.result isnt c.call.ensures.grows c.call.ensures.others (kept_called c.call.result c.args.self.now.lan.now _ c.call.ensures.regions c.call.ensures.marks)

pub returns-in-Some-Client-clause-made : goal.returns-in-Some-Client-clause-made
returns-in-Some-Client-clause-made c = calls_same c.args.self.now _ _ refl
