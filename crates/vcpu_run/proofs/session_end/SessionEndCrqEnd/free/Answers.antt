use Rattle.vio_num.specs.Entry.{partner_freed}
use Rattle.crq_session.specs.PlainState.{state_of}
use Rattle.vcpu_run.proofs.Gone.{gone_frees}
use Rattle.vcpu_run.proofs.Losing.{behind_same}
use Rattle.vcpu_run.proofs.ShutKept.{begun_frees, in_session}
use Rattle.vcpu_run.proofs.session_end.SessionEndCrqEnd.free.Goals as goal

pub invariant_of-self-clause-gone : goal.invariant_of-self-clause-gone
invariant_of-self-clause-gone c =
    gone_frees (state_of c.args.self.now.end) (state_of c.free.new.self) partner_freed c.free.result c.free.ensures.rest c.free.ensures.success c.free.ensures.busy c.free.ensures.refused
    c.args.self.now.gone

pub invariant_of-self-clause-served : goal.invariant_of-self-clause-served
invariant_of-self-clause-served c =
    begun_frees (state_of c.args.self.now.end) (state_of c.free.new.self) partner_freed c.free.result (in_session c.args.self.now.end) c.free.ensures.rest c.free.ensures.success
    c.free.ensures.busy c.free.ensures.refused c.args.self.now.served

pub invariant_of-self-clause-behind : goal.invariant_of-self-clause-behind
invariant_of-self-clause-behind c =
    behind_same (state_of c.args.self.now.end) (state_of c.free.new.self) c.free.ensures.rest.last_session c.free.ensures.rest.taken c.free.ensures.rest.place c.args.self.now.behind
