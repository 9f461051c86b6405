use Rattle.std.proofs.Common.{◌≡◌, ◌≤◌, Some, sym, ap}
use Rattle.lan_buffers.specs.Port.{PortValue}
use Rattle.lan_switch.specs.Calls.{Adds}
use Rattle.lan_switch.proofs.Placing.{has_here, made_here, switch_here}
use Rattle.lan_switch.proofs.switch.PlainSwitch.add.Goals as goal

pub invariant_of-self : goal.invariant_of-self
invariant_of-self g c =
    switch_here c.args.unit c.self.inside.stations.items c.args.self.now c.in-Some.place c.index_mut.result.now c.add.new.port
    c.self.view_is c.in-Some.ensures.found c.self.invariant c.in-Some.ensures.within c.index_mut.ensures.value c.add.ensures.unit

pub returns-in-Some-clause-made : goal.returns-in-Some-clause-made
returns-in-Some-clause-made g c =
    made_here c.args.unit c.add.result c.self.inside.stations.items c.args.self.now c.in-Some.place c.index_mut.result.now c.add.new.port
    (Adds c.args.descriptor g.G.WindowPort.is_shared (λ page word. g.G.GuestPort.found c.add.new.window page word) (g.G.WindowPort.state c.args.window.now) (g.G.WindowPort.state c.add.new.window) c.add.result)
    c.self.view_is c.in-Some.ensures.found c.in-Some.ensures.within c.index_mut.ensures.value c.add.ensures.adds

pub add-requires-clause-room : goal.add-requires-clause-room
add-requires-clause-room g c =
    has_here c.args.unit c.self.inside.stations.items c.args.self.now c.in-Some.place c.index_mut.result.now (λ (port : PortValue). 1 ≤ port.spare)
    c.self.view_is c.in-Some.ensures.found c.in-Some.ensures.within c.index_mut.ensures.value c.requires.room
