use Rattle.crq_session.specs.PlainState.{state_of}
use Rattle.vcpu_run.proofs.Gone.{gone_same}
use Rattle.vcpu_run.proofs.Losing.{behind_same}
use Rattle.vcpu_run.proofs.ShutKept.{begun_sends, in_session}
use Rattle.vcpu_run.proofs.session_end.SessionEndCrqEnd.send.Goals as goal

pub invariant_of-self-clause-gone : goal.invariant_of-self-clause-gone
invariant_of-self-clause-gone c =
    gone_same (state_of c.args.self.now.end) (state_of c.send.new.self) c.send.ensures.rest.place c.send.ensures.rest.last_session c.send.ensures.rest.registered c.args.self.now.gone

pub invariant_of-self-clause-served : goal.invariant_of-self-clause-served
invariant_of-self-clause-served c =
    begun_sends (state_of c.args.self.now.end) (state_of c.send.new.self) c.args.entry c.send.result (in_session c.args.self.now.end) c.send.ensures.rest c.send.ensures.may
    c.send.ensures.refused c.args.self.now.served

pub invariant_of-self-clause-behind : goal.invariant_of-self-clause-behind
invariant_of-self-clause-behind c =
    behind_same (state_of c.args.self.now.end) (state_of c.send.new.self) c.send.ensures.rest.last_session c.send.ensures.rest.taken c.send.ensures.rest.place c.args.self.now.behind
