use Rattle.lan_script.proofs.Lans.{port_there}
use Rattle.lan_script.proofs.ReplayedShown.{present_closed, present_open}
use Rattle.lan_script.proofs.lan.Lan.present.Goals as goal

pub settings-requires : goal.settings-requires
settings-requires c = record { port = port_there _ c.args.self.now c.args.unit c.self.view_is c.self.invariant c.requires.there }

pub returns-in-Some : goal.returns-in-Some
returns-in-Some c =
    record { opened = present_open _ c.args.self.now c.args.unit c.settings.result c.in-Some.settings c.self.view_is c.settings.ensures c.in-Some.is }

pub returns-in-None : goal.returns-in-None
returns-in-None c = record { opened = present_closed _ c.args.self.now c.args.unit c.settings.result _ c.self.view_is c.settings.ensures c.in-None.is }
