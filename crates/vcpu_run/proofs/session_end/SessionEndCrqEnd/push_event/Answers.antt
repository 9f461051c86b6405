use Rattle.crq_session.specs.PlainState.{state_of}
use Rattle.vcpu_run.proofs.Gone.{gone_same}
use Rattle.vcpu_run.proofs.Losing.{behind_same}
use Rattle.vcpu_run.proofs.ShutKept.{begun_pushes}
use Rattle.vcpu_run.proofs.session_end.SessionEndCrqEnd.push_event.Goals as goal

pub invariant_of-self-clause-gone : goal.invariant_of-self-clause-gone
invariant_of-self-clause-gone c =
    gone_same (state_of c.args.self.now.end) (state_of c.push_event.new.self) c.push_event.ensures.rest.place c.push_event.ensures.rest.last_session c.push_event.ensures.rest.registered c.args.self.now.gone

pub invariant_of-self-clause-served : goal.invariant_of-self-clause-served
invariant_of-self-clause-served c =
    begun_pushes (state_of c.args.self.now.end) (state_of c.push_event.new.self) c.push_event.result c.push_event.ensures.rest c.push_event.ensures.nothing c.push_event.ensures.put
    c.push_event.ensures.still c.args.self.now.served

pub invariant_of-self-clause-behind : goal.invariant_of-self-clause-behind
invariant_of-self-clause-behind c =
    behind_same (state_of c.args.self.now.end) (state_of c.push_event.new.self) c.push_event.ensures.rest.last_session c.push_event.ensures.rest.taken c.push_event.ensures.rest.place c.args.self.now.behind
