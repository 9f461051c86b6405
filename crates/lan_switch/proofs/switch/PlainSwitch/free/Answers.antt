use Rattle.std.proofs.Common.{◌≡◌, ◌≤◌, Some, sym, ap}
use Rattle.lan_buffers.specs.Port.{PortValue}
use Rattle.lan_switch.specs.Calls.{Frees}
use Rattle.lan_switch.proofs.Placing.{has_here, made_here, switch_here}
use Rattle.lan_switch.proofs.switch.PlainSwitch.free.Goals as goal

pub invariant_of-self : goal.invariant_of-self
invariant_of-self c =
    switch_here c.args.unit c.self.inside.stations.items c.args.self.now c.in-Some.place c.index_mut.result.now c.free.new.port
    c.self.view_is c.in-Some.ensures.found c.self.invariant c.in-Some.ensures.within c.index_mut.ensures.value c.free.ensures.unit

pub returns-in-Some : goal.returns-in-Some
returns-in-Some c =
    made_here c.args.unit c.free.result c.self.inside.stations.items c.args.self.now c.in-Some.place c.index_mut.result.now c.free.new.port
    (Frees c.free.result) c.self.view_is c.in-Some.ensures.found c.in-Some.ensures.within c.index_mut.ensures.value
    (record { parameter = c.free.ensures.parameter; done = c.free.ensures.done; plain = c.free.ensures.plain })
