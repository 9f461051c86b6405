use Rattle.std.proofs.Common.{◌≡◌, ◌≤◌, Some, sym, ap}
use Rattle.lan_buffers.specs.Port.{PortValue}
use Rattle.lan_switch.specs.Calls.{Registers}
use Rattle.lan_switch.proofs.Placing.{has_here, made_here, switch_here}
use Rattle.lan_switch.proofs.switch.PlainSwitch.register.Goals as goal

pub invariant_of-self : goal.invariant_of-self
invariant_of-self c =
    switch_here c.args.unit c.self.inside.stations.items c.args.self.now c.in-Some.place c.index_mut.result.now c.register.new.port
    c.self.view_is c.in-Some.ensures.found c.self.invariant c.in-Some.ensures.within c.index_mut.ensures.value c.register.ensures.unit

pub returns-in-Some : goal.returns-in-Some
returns-in-Some c =
    made_here c.args.unit c.register.result c.self.inside.stations.items c.args.self.now c.in-Some.place c.index_mut.result.now c.register.new.port
    (Registers c.args.list c.args.queue c.args.filters c.args.mac c.register.result) c.self.view_is c.in-Some.ensures.found c.in-Some.ensures.within c.index_mut.ensures.value
    (record { parameter = c.register.ensures.parameter; resource = c.register.ensures.resource; success = c.register.ensures.success; refused = c.register.ensures.refused; plain = c.register.ensures.plain })

pub register-requires : goal.register-requires
register-requires c = record {
  room = has_here c.args.unit c.self.inside.stations.items c.args.self.now c.in-Some.place c.index_mut.result.now (λ (port : PortValue). 1 ≤ port.spare)
      c.self.view_is c.in-Some.ensures.found c.in-Some.ensures.within c.index_mut.ensures.value c.requires.room;
}
