use Rattle.std.proofs.Common.{◌≡◌, Some, sym, ap}
use Rattle.lan_switch.proofs.Placing.{port_here}
use Rattle.lan_switch.proofs.switch.PlainSwitch.port.Goals as goal

pub returns : goal.returns
returns c =
    port_here c.args.unit c.self.inside.stations.items c.args.self.now c.port_place.result c.index.result.now c.self.view_is c.port_place.ensures.place
    c.port_place.ensures.within c.index.ensures
