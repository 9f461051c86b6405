use Rattle.crq_session.specs.PlainState.{state_of}
use Rattle.vcpu_run.proofs.Gone.{gone_registers}
use Rattle.vcpu_run.proofs.Losing.{behind_registers}
use Rattle.vcpu_run.proofs.ShutKept.{begun_registers}
use Rattle.vcpu_run.proofs.session_end.SessionEndCrqEnd.register.Goals as goal

pub invariant_of-self-clause-gone : goal.invariant_of-self-clause-gone
invariant_of-self-clause-gone c =
    gone_registers (state_of c.args.self.now.end) (state_of c.register.new.self) c.register.result c.register.ensures.rest c.register.ensures.opened c.register.ensures.busy
    c.register.ensures.refused c.args.self.now.gone

pub invariant_of-self-clause-served : goal.invariant_of-self-clause-served
invariant_of-self-clause-served c =
    begun_registers (state_of c.args.self.now.end) (state_of c.register.new.self) c.register.result c.register.ensures.opened c.register.ensures.busy
    c.register.ensures.refused c.args.self.now.served

pub invariant_of-self-clause-behind : goal.invariant_of-self-clause-behind
invariant_of-self-clause-behind c =
    behind_registers (state_of c.args.self.now.end) (state_of c.register.new.self) c.register.result c.register.ensures.rest c.register.ensures.opened c.register.ensures.busy
    c.register.ensures.refused c.args.self.now.behind
