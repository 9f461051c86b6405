use Rattle.std.proofs.Common.{◌≡◌, Some, sym, ap}
use Rattle.lan_buffers.specs.Port.{PortValue}
use Rattle.lan_switch.specs.Calls.{Reserves}
use Rattle.lan_switch.proofs.Placing.{at_here, switch_here}
use Rattle.lan_switch.proofs.switch.PlainSwitch.reserve.Goals as goal

pub invariant_of-self : goal.invariant_of-self
invariant_of-self c =
    switch_here c.args.unit c.self.inside.stations.items c.args.self.now c.port_place-place.result c.index_mut.result.now c.reserve.new.self
    c.self.view_is c.port_place-place.ensures.place c.self.invariant c.port_place-place.ensures.within c.index_mut.ensures.value
    (ap (λ (v : PortValue). v.unit) c.reserve.ensures.rest)

pub returns : goal.returns
returns c =
    at_here c.args.unit c.self.inside.stations.items c.args.self.now c.port_place-place.result c.index_mut.result.now c.reserve.new.self
    (Reserves c.args.n c.reserve.result) c.self.view_is c.port_place-place.ensures.place c.port_place-place.ensures.within c.index_mut.ensures.value
    (record { room = c.reserve.ensures.room; spare = c.reserve.ensures.spare; rest = c.reserve.ensures.rest })
