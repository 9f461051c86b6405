use Rattle.std.proofs.Common.{refl}
use Rattle.vio_num.specs.Entry.{partner_freed}
use Rattle.vcpu_run.proofs.Announcing.{puts_frees, puts_ready, puts_reserves}
use Rattle.vcpu_run.proofs.queue_calls.free.Goals as goal

pub returns-in-Success-clause-puts : goal.returns-in-Success-clause-puts
returns-in-Success-clause-puts g c = λ alone.
    puts_ready _ _ _ c.in_ok-reserve.ensures.rest (c.free.ensures.rest.counts.same_session alone)
    (puts_frees _ _ _ partner_freed c.free.result alone refl c.free.ensures.success c.free.ensures.busy c.free.ensures.refused)

pub returns-in_err-reserve-clause-puts : goal.returns-in_err-reserve-clause-puts
returns-in_err-reserve-clause-puts g c = λ alone. puts_reserves _ _ c.in_err-reserve.ensures.rest

pub returns-in-Parameter-clause-puts : goal.returns-in-Parameter-clause-puts
returns-in-Parameter-clause-puts g c = λ alone.
    puts_ready _ _ _ c.in_ok-reserve.ensures.rest (c.free.ensures.rest.counts.same_session alone)
    (puts_frees _ _ _ partner_freed c.free.result alone refl c.free.ensures.success c.free.ensures.busy c.free.ensures.refused)
