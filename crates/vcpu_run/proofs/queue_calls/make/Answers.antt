use Rattle.std.proofs.Common.{IfOk, subst, sym}
use Rattle.vcpu_run.specs.declared.client_call.QueueCall.{QueueCall}
use Rattle.vcpu_run.specs.CallsAnswered.{AnswersQueue}
use Rattle.vcpu_run.proofs.ClientCalls.{sends_one}
use Rattle.vcpu_run.proofs.queue_calls.make.Goals as goal

pub returns-in-Send-clause-answer : goal.returns-in-Send-clause-answer
returns-in-Send-clause-answer g c =
    subst (λ (call : QueueCall). IfOk c.send.result (AnswersQueue g.C.CrqEnd.is_shared (g.C.CrqEnd.state c.send.new.end) call)) (sym c.in-Send.is)
    (sends_one g.C.CrqEnd.is_shared _ _ c.send.result c.send.ensures.parameter c.send.ensures.put)
