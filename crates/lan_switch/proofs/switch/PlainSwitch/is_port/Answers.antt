use Rattle.std.proofs.Common.{◌≡◌, ◌<◌, List, length, refl, subst, sym}
use Rattle.lan_switch.proofs.Placing.{port_placed}
use Rattle.lan_switch.proofs.switch.PlainSwitch.is_port.Goals as goal

pub returns-in-Some : goal.returns-in-Some
returns-in-Some c =
    (λ e. port_placed c.args.unit c.args.self.now (subst (λ k. k < length c.args.self.now) c.in-Some.ensures.found c.in-Some.ensures.within), λ e. refl)
