use Rattle.std.proofs.Common.{◌≡◌, ◌≤◌, Some, sym, ap}
use Rattle.lan_buffers.specs.Port.{PortValue}
use Rattle.lan_switch.specs.Calls.{Harvests}
use Rattle.lan_switch.proofs.Placing.{at_here, has_here, harvest_unit, switch_here}
use Rattle.lan_switch.proofs.switch.PlainSwitch.harvest.Goals as goal

read : (c : goal.After-self-1) → Harvests c.harvest.result c.index_mut.result.now.port c.harvest.new.self
read c = record {
  frame = c.harvest.ensures.frame;
  blank = c.harvest.ensures.blank;
  nothing = c.harvest.ensures.nothing;
  rest = c.harvest.ensures.rest;
}

pub invariant_of-self : goal.invariant_of-self
invariant_of-self c =
    switch_here c.args.unit c.self.inside.stations.items c.args.self.now c.port_place-place.result c.index_mut.result.now c.harvest.new.self
    c.self.view_is c.port_place-place.ensures.place c.self.invariant c.port_place-place.ensures.within c.index_mut.ensures.value
    (harvest_unit c.harvest.result c.index_mut.result.now.port c.harvest.new.self (read c))

pub returns : goal.returns
returns c =
    at_here c.args.unit c.self.inside.stations.items c.args.self.now c.port_place-place.result c.index_mut.result.now c.harvest.new.self
    (Harvests c.harvest.result) c.self.view_is c.port_place-place.ensures.place c.port_place-place.ensures.within c.index_mut.ensures.value (read c)

pub harvest-requires : goal.harvest-requires
harvest-requires c = record {
  room = has_here c.args.unit c.self.inside.stations.items c.args.self.now c.port_place-place.result c.index_mut.result.now (λ (port : PortValue). 1 ≤ port.spare)
      c.self.view_is c.port_place-place.ensures.place c.port_place-place.ensures.within c.index_mut.ensures.value c.requires.room;
}
