use Rattle.std.proofs.Common.{◌≡◌, ◌≤◌, Some, sym, ap}
use Rattle.lan_buffers.specs.Port.{PortValue}
use Rattle.lan_switch.specs.Calls.{Multicasts}
use Rattle.lan_switch.proofs.Placing.{has_here, made_here, switch_here}
use Rattle.lan_switch.proofs.switch.PlainSwitch.multicast.Goals as goal

pub invariant_of-self : goal.invariant_of-self
invariant_of-self c =
    switch_here c.args.unit c.self.inside.stations.items c.args.self.now c.in-Some.place c.index_mut.result.now c.multicast.new.port
    c.self.view_is c.in-Some.ensures.found c.self.invariant c.in-Some.ensures.within c.index_mut.ensures.value c.multicast.ensures.unit

pub returns-in-Some : goal.returns-in-Some
returns-in-Some c =
    made_here c.args.unit c.multicast.result c.self.inside.stations.items c.args.self.now c.in-Some.place c.index_mut.result.now c.multicast.new.port
    (Multicasts c.args.control c.args.mac c.multicast.result) c.self.view_is c.in-Some.ensures.found c.in-Some.ensures.within c.index_mut.ensures.value
    (record { parameter = c.multicast.ensures.parameter; resource = c.multicast.ensures.resource; not_found = c.multicast.ensures.not_found; full = c.multicast.ensures.full; success = c.multicast.ensures.success; refused = c.multicast.ensures.refused; plain = c.multicast.ensures.plain })
