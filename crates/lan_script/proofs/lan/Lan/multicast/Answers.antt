use Rattle.lan_switch.specs.Calls.{Multicasts}
use Rattle.lan_script.proofs.Called.{multicasts_same}
use Rattle.lan_script.proofs.Lans.{lan_made}
use Rattle.lan_script.proofs.CountedCalls.{multicasts_rows}
use Rattle.lan_script.proofs.CountsKept.{made_counts}
use Rattle.lan_script.proofs.ReplayedFilters.{multicasts_replay}
use Rattle.lan_script.proofs.Replaying.{made_replays}
use Rattle.lan_script.specs.PortReplay.{MulticastSays}
use Rattle.vio_trace.specs.declared.outcome.Outcome.TheVariants as outcomes
use Rattle.lan_script.proofs.lan.Lan.multicast.Goals as goal

pub invariant_of-self : goal.invariant_of-self
invariant_of-self c =
    lan_made _ c.args.self.now c.args.unit c.multicast.result c.multicast.new.self (Multicasts c.args.control c.args.mac c.multicast.result) c.self.view_is c.self.invariant c.requires.there c.multicast.ensures
    (λ before after h. multicasts_same c.args.control c.args.mac c.multicast.result before after h)

pub returns-clause-counts : goal.returns-clause-counts
returns-clause-counts c =
    made_counts _ c.args.self.now c.args.unit c.multicast.result c.multicast.new.self (Multicasts c.args.control c.args.mac c.multicast.result) c.self.view_is c.self.invariant c.requires.there c.multicast.ensures
    (λ before after h. multicasts_rows c.args.control c.args.mac c.multicast.result before after h)

pub returns-clause-replays : goal.returns-clause-replays
returns-clause-replays c =
    made_replays _ c.args.self.now c.args.unit c.multicast.new.self c.multicast.result (Multicasts c.args.control c.args.mac c.multicast.result)
    (MulticastSays c.args.control c.args.mac (outcomes.Code c.multicast.result.code)) c.self.view_is c.self.invariant c.requires.there c.multicast.ensures
    (λ before after was h. multicasts_replay c.args.control c.args.mac c.multicast.result before after h)
