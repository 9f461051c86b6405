use Rattle.vcpu_run.proofs.Announcing.{puts_ready, puts_registers, puts_reserves}
use Rattle.vcpu_run.proofs.queue_calls.register.Goals as goal

pub returns-in_err-reserve-clause-puts : goal.returns-in_err-reserve-clause-puts
returns-in_err-reserve-clause-puts g c = λ alone. puts_reserves _ _ c.in_err-reserve.ensures.rest

pub returns-in-Success-clause-puts : goal.returns-in-Success-clause-puts
returns-in-Success-clause-puts g c = λ alone.
    puts_ready _ _ _ c.in_ok-reserve.ensures.rest (c.register.ensures.rest.counts.same_session alone)
    (puts_registers _ _ _ c.register.result alone c.register.ensures.opened c.register.ensures.busy c.register.ensures.refused)

pub returns-in-Closed-clause-puts : goal.returns-in-Closed-clause-puts
returns-in-Closed-clause-puts g c = λ alone.
    puts_ready _ _ _ c.in_ok-reserve.ensures.rest (c.register.ensures.rest.counts.same_session alone)
    (puts_registers _ _ _ c.register.result alone c.register.ensures.opened c.register.ensures.busy c.register.ensures.refused)

pub returns-in-Parameter-clause-puts : goal.returns-in-Parameter-clause-puts
returns-in-Parameter-clause-puts g c = λ alone.
    puts_ready _ _ _ c.in_ok-reserve.ensures.rest (c.register.ensures.rest.counts.same_session alone)
    (puts_registers _ _ _ c.register.result alone c.register.ensures.opened c.register.ensures.busy c.register.ensures.refused)

pub returns-in-Resource-clause-puts : goal.returns-in-Resource-clause-puts
returns-in-Resource-clause-puts g c = λ alone.
    puts_ready _ _ _ c.in_ok-reserve.ensures.rest (c.register.ensures.rest.counts.same_session alone)
    (puts_registers _ _ _ c.register.result alone c.register.ensures.opened c.register.ensures.busy c.register.ensures.refused)

pub returns-in-Busy-clause-puts : goal.returns-in-Busy-clause-puts
returns-in-Busy-clause-puts g c = λ alone.
    puts_ready _ _ _ c.in_ok-reserve.ensures.rest (c.register.ensures.rest.counts.same_session alone)
    (puts_registers _ _ _ c.register.result alone c.register.ensures.opened c.register.ensures.busy c.register.ensures.refused)
