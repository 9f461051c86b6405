use Rattle.crq_session.specs.PlainState.{state_of}
use Rattle.vcpu_run.proofs.Gone.{gone_same}
use Rattle.vcpu_run.proofs.Losing.{behind_same}
use Rattle.vcpu_run.proofs.ShutKept.{begun_same}
use Rattle.vcpu_run.proofs.session_end.SessionEndCrqEnd.reserve.Goals as goal

pub invariant_of-self-clause-gone : goal.invariant_of-self-clause-gone
invariant_of-self-clause-gone c =
    gone_same (state_of c.args.self.now.end) (state_of c.reserve.new.self) c.reserve.ensures.rest.place c.reserve.ensures.rest.last_session c.reserve.ensures.rest.registered c.args.self.now.gone

pub invariant_of-self-clause-served : goal.invariant_of-self-clause-served
invariant_of-self-clause-served c =
    begun_same (state_of c.args.self.now.end) (state_of c.reserve.new.self) c.reserve.ensures.rest.last_session c.reserve.ensures.rest.sent c.reserve.ensures.rest.kept c.args.self.now.served

pub invariant_of-self-clause-behind : goal.invariant_of-self-clause-behind
invariant_of-self-clause-behind c =
    behind_same (state_of c.args.self.now.end) (state_of c.reserve.new.self) c.reserve.ensures.rest.last_session c.reserve.ensures.rest.taken c.reserve.ensures.rest.place c.args.self.now.behind
