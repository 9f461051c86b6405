use Rattle.std.proofs.Common.{subst}
use Rattle.vio_num.specs.Queue.{Handed}
use Rattle.crq_ring.specs.Sessions.{of_session}
use Rattle.crq_ring.proofs.Sessions.{Handed-of}
use Rattle.crq_ring.proofs.pipe.PlainPipe.taken.Goals as goal

pub returns-clause-handed : goal.returns-clause-handed
returns-clause-handed c = λ q.
    let pipe = c.self.inside in
    subst (λ value. Handed (of_session q value.sent) (of_session q value.taken) value.slots) c.self.view_is
    (Handed-of pipe.sent.items pipe.taken.items pipe.slots q c.self.invariant.hands_over)
