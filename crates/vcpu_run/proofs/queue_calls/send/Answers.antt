use Rattle.vcpu_run.proofs.Announcing.{puts_entry, puts_ready, puts_reserves}
use Rattle.vcpu_run.proofs.ClientCalls.{sent_by}
use Rattle.vcpu_run.proofs.queue_calls.send.Goals as goal

pub returns-in_err-reserve-clause-puts : goal.returns-in_err-reserve-clause-puts
returns-in_err-reserve-clause-puts g c = λ alone. puts_reserves _ _ c.in_err-reserve.ensures.rest

pub returns-in-Parameter-clause-puts : goal.returns-in-Parameter-clause-puts
returns-in-Parameter-clause-puts g c = λ alone.
    puts_ready _ _ _ c.in_ok-reserve.ensures.rest (c.send.ensures.rest.counts.same_session alone)
    (puts_entry _ _ _ _ c.send.result c.send.ensures.rest c.send.ensures.success c.send.ensures.closed c.send.ensures.dropped c.send.ensures.refused c.send.ensures.may)

pub returns-in-NotRegistered-clause-puts : goal.returns-in-NotRegistered-clause-puts
returns-in-NotRegistered-clause-puts g c = λ alone.
    puts_ready _ _ _ c.in_ok-reserve.ensures.rest (c.send.ensures.rest.counts.same_session alone)
    (puts_entry _ _ _ _ c.send.result c.send.ensures.rest c.send.ensures.success c.send.ensures.closed c.send.ensures.dropped c.send.ensures.refused c.send.ensures.may)

pub returns-in-Closed-clause-puts : goal.returns-in-Closed-clause-puts
returns-in-Closed-clause-puts g c = λ alone.
    puts_ready _ _ _ c.in_ok-reserve.ensures.rest (c.send.ensures.rest.counts.same_session alone)
    (puts_entry _ _ _ _ c.send.result c.send.ensures.rest c.send.ensures.success c.send.ensures.closed c.send.ensures.dropped c.send.ensures.refused c.send.ensures.may)

pub returns-in-Dropped-clause-puts : goal.returns-in-Dropped-clause-puts
returns-in-Dropped-clause-puts g c = λ alone.
    puts_ready _ _ _ c.in_ok-reserve.ensures.rest (c.send.ensures.rest.counts.same_session alone)
    (puts_entry _ _ _ _ c.send.result c.send.ensures.rest c.send.ensures.success c.send.ensures.closed c.send.ensures.dropped c.send.ensures.refused c.send.ensures.may)

pub returns-in-Success-clause-put : goal.returns-in-Success-clause-put
returns-in-Success-clause-put g c = λ good. sent_by g.C.CrqEnd.is_shared _ _ _ _ c.send.ensures.rest c.in-Success.ensures.success
