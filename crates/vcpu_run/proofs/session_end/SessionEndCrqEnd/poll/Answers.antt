use Rattle.crq_session.specs.PlainState.{state_of}
use Rattle.vcpu_run.proofs.Losing.{behind_polls}
use Rattle.vcpu_run.proofs.Gone.{gone_same}
use Rattle.vcpu_run.proofs.ShutKept.{begun_same}
use Rattle.vcpu_run.proofs.session_end.SessionEndCrqEnd.poll.Goals as goal

pub invariant_of-self-clause-behind : goal.invariant_of-self-clause-behind
invariant_of-self-clause-behind c =
    behind_polls (state_of c.args.self.now.end) (state_of c.poll.new.self) c.poll.result c.poll.ensures.rest c.poll.ensures.got c.poll.ensures.empty c.poll.ensures.refused
    c.args.self.now.behind

pub invariant_of-self-clause-gone : goal.invariant_of-self-clause-gone
invariant_of-self-clause-gone c =
    gone_same (state_of c.args.self.now.end) (state_of c.poll.new.self) c.poll.ensures.rest.place c.poll.ensures.rest.last_session c.poll.ensures.rest.registered c.args.self.now.gone

pub invariant_of-self-clause-served : goal.invariant_of-self-clause-served
invariant_of-self-clause-served c =
    begun_same (state_of c.args.self.now.end) (state_of c.poll.new.self) c.poll.ensures.rest.last_session c.poll.ensures.rest.sent c.poll.ensures.rest.kept c.args.self.now.served
