use Rattle.std.proofs.Common.{rules, ◌≡◌, ◌∙◌, Some, refl, sym}
use Rattle.lan_script.specs.declared.calls.PortCall.TheVariants as calls
use Rattle.vcpu_run.specs.declared.unit_seat.Seat.TheVariants as sits
use Rattle.vcpu_run.proofs.CalledPorts.{port_called_ok, ports_still}
use Rattle.vcpu_run.proofs.Driving.{no_port}
use Rattle.vcpu_run.proofs.PortCalling.{other_entries, port_entries, port_there}
use Rattle.vcpu_run.proofs.PortKept.{kept_called}
use Rattle.vcpu_run.proofs.RawCalling.{calls_same, port_made}
use Rattle.vcpu_run.proofs.partition_units.PartitionUnits.make_entry.Goals as goal

pub returns-in-Some-Client-clause-ports : goal.returns-in-Some-Client-clause-ports
returns-in-Some-Client-clause-ports c = ports_still c.args.self.now.partition c.args.unit c.call_at.result c.args.self.now.lan.now

pub returns-in-Some-Port-clause-ports : goal.returns-in-Some-Port-clause-ports
returns-in-Some-Port-clause-ports c =
    port_called_ok c.args.self.now.partition c.args.unit c.id-id.result (calls.Entry c.args.call) c.call.result c.args.self.now.lan.now _ c.id-id.ensures
    c.call.ensures.seats c.call.ensures.counts c.call.ensures.sends c.call.ensures.beside c.call.ensures.grows c.call.ensures.others (kept_called c.call.result c.args.self.now.lan.now _ c.call.ensures.regions c.call.ensures.marks) c.call.ensures.macs

pub returns-in-Some-Port-clause-entries : goal.returns-in-Some-Port-clause-entries
returns-in-Some-Port-clause-entries c =
    let sat : c.seat_of.result ≡ Some sits.Port = search rules in
    port_entries c.args.self.now _ c.args.unit c.id-id.result c.args.call c.call.result c.id-id.ensures
    (port_there c.args.self.now c.args.unit c.id-id.result c.seat_of.result c.id-id.ensures sat c.seat_of.ensures.there) c.call.ensures.seats
    c.call.ensures.answer c.call.ensures.entry c.call.ensures.grows c.call.ensures.others (kept_called c.call.result c.args.self.now.lan.now _ c.call.ensures.regions c.call.ensures.marks)

pub returns-in-Some-Client-clause-entries : goal.returns-in-Some-Client-clause-entries
returns-in-Some-Client-clause-entries c =
    let sat : c.seat_of.result ≡ Some (sits.Client c.in-Some-Client.pair) = search rules in
    other_entries c.args.self.now _ c.args.unit _ _ c.call_at.result (λ e. no_port c.in-Some-Client.pair (sym sat ∙ (c.seat_of.ensures.seat ∙ e))) refl

pub returns-in-Some-Port-clause-made : goal.returns-in-Some-Port-clause-made
returns-in-Some-Port-clause-made c =
    port_made c.args.self.now _ c.args.unit c.id-id.result (calls.Entry c.args.call) c.call.result c.id-id.ensures refl refl c.call.ensures.seats
    c.call.ensures.counts c.call.ensures.sends c.call.ensures.beside c.call.ensures.others (kept_called c.call.result c.args.self.now.lan.now _ c.call.ensures.regions c.call.ensures.marks)

pub returns-in-Some-Server-clause-made : goal.returns-in-Some-Server-clause-made
returns-in-Some-Server-clause-made c = calls_same c.args.self.now _ _ refl
