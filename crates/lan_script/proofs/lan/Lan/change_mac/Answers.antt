use Rattle.lan_switch.specs.Calls.{ChangesMac}
use Rattle.lan_script.proofs.Called.{changes_same}
use Rattle.lan_script.proofs.Lans.{lan_made}
use Rattle.lan_script.proofs.CountedCalls.{changes_rows}
use Rattle.lan_script.proofs.CountsKept.{made_counts}
use Rattle.lan_script.proofs.ReplayedCalls.{changes_replay}
use Rattle.lan_script.proofs.Replaying.{made_replays}
use Rattle.lan_script.specs.PortReplay.{MacSays}
use Rattle.vio_trace.specs.declared.outcome.Outcome.TheVariants as outcomes
use Rattle.lan_script.proofs.lan.Lan.change_mac.Goals as goal

pub invariant_of-self : goal.invariant_of-self
invariant_of-self c =
    lan_made _ c.args.self.now c.args.unit c.change_mac.result c.change_mac.new.self (ChangesMac c.args.mac c.change_mac.result) c.self.view_is c.self.invariant c.requires.there c.change_mac.ensures
    (λ before after h. changes_same c.args.mac c.change_mac.result before after h)

pub returns-clause-counts : goal.returns-clause-counts
returns-clause-counts c =
    made_counts _ c.args.self.now c.args.unit c.change_mac.result c.change_mac.new.self (ChangesMac c.args.mac c.change_mac.result) c.self.view_is c.self.invariant c.requires.there c.change_mac.ensures
    (λ before after h. changes_rows c.args.mac c.change_mac.result before after h)

pub returns-clause-replays : goal.returns-clause-replays
returns-clause-replays c =
    made_replays _ c.args.self.now c.args.unit c.change_mac.new.self c.change_mac.result (ChangesMac c.args.mac c.change_mac.result)
    (MacSays c.args.mac (outcomes.Code c.change_mac.result.code)) c.self.view_is c.self.invariant c.requires.there c.change_mac.ensures
    (λ before after was h. changes_replay c.args.mac c.change_mac.result before after h)
