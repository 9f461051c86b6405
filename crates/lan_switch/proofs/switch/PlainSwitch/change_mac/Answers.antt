use Rattle.std.proofs.Common.{◌≡◌, ◌≤◌, Some, sym, ap}
use Rattle.lan_buffers.specs.Port.{PortValue}
use Rattle.lan_switch.specs.Calls.{ChangesMac}
use Rattle.lan_switch.proofs.Placing.{has_here, made_here, switch_here}
use Rattle.lan_switch.proofs.switch.PlainSwitch.change_mac.Goals as goal

pub invariant_of-self : goal.invariant_of-self
invariant_of-self c =
    switch_here c.args.unit c.self.inside.stations.items c.args.self.now c.in-Some.place c.index_mut.result.now c.change_mac.new.port
    c.self.view_is c.in-Some.ensures.found c.self.invariant c.in-Some.ensures.within c.index_mut.ensures.value c.change_mac.ensures.unit

pub returns-in-Some : goal.returns-in-Some
returns-in-Some c =
    made_here c.args.unit c.change_mac.result c.self.inside.stations.items c.args.self.now c.in-Some.place c.index_mut.result.now c.change_mac.new.port
    (ChangesMac c.args.mac c.change_mac.result) c.self.view_is c.in-Some.ensures.found c.in-Some.ensures.within c.index_mut.ensures.value
    (record { parameter = c.change_mac.ensures.parameter; success = c.change_mac.ensures.success; refused = c.change_mac.ensures.refused; plain = c.change_mac.ensures.plain })
