use Rattle.lan_switch.specs.Calls.{Frees}
use Rattle.lan_script.proofs.Called.{frees_same}
use Rattle.lan_script.proofs.Lans.{lan_made, made_shut}
use Rattle.lan_script.proofs.CountedCalls.{frees_rows}
use Rattle.lan_script.proofs.CountsKept.{made_counts}
use Rattle.lan_script.proofs.ReplayedCalls.{frees_replay}
use Rattle.lan_script.proofs.Replaying.{made_replays}
use Rattle.lan_script.specs.PortReplay.{CloseSays}
use Rattle.vio_trace.specs.declared.outcome.Outcome.TheVariants as outcomes
use Rattle.lan_script.proofs.lan.Lan.free.Goals as goal

pub invariant_of-self : goal.invariant_of-self
invariant_of-self c =
    lan_made _ c.args.self.now c.args.unit c.free.result c.free.new.self (Frees c.free.result) c.self.view_is c.self.invariant c.requires.there c.free.ensures
    (λ before after h. frees_same c.free.result before after h)

pub returns-clause-counts : goal.returns-clause-counts
returns-clause-counts c =
    made_counts _ c.args.self.now c.args.unit c.free.result c.free.new.self (Frees c.free.result) c.self.view_is c.self.invariant c.requires.there c.free.ensures
    (λ before after h. frees_rows c.free.result before after h)

pub returns-clause-replays : goal.returns-clause-replays
returns-clause-replays c =
    made_replays _ c.args.self.now c.args.unit c.free.new.self c.free.result (Frees c.free.result) (λ a b. CloseSays a.settings (outcomes.Code c.free.result.code) a b) c.self.view_is
    c.self.invariant c.requires.there c.free.ensures (λ before after was h. frees_replay c.free.result before after h)

pub returns-clause-shut : goal.returns-clause-shut
returns-clause-shut c =
    made_shut _ c.args.self.now c.args.unit c.free.result c.free.new.self c.self.view_is c.self.invariant c.requires.there c.free.ensures
