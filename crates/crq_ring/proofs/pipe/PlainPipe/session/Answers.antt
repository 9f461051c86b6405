use Rattle.std.proofs.Common.{subst, arith}
use Rattle.crq_ring.specs.Pipe.{IsLawfulPipe}
use Rattle.crq_ring.proofs.Sessions.{Handed-of}
use Rattle.crq_ring.proofs.pipe.PlainPipe.session.Goals as goal

pub returns-clause-laws : goal.returns-clause-laws
returns-clause-laws c =
    let pipe = c.self.inside in
    let kept = c.self.invariant in
    subst (λ value. IsLawfulPipe value) c.self.view_is (record {
      some_slots = kept.sized.0;
      few_slots = kept.sized.1;
      few_sessions = omega (arith, kept.counted);
      handed = λ q. Handed-of pipe.sent.items pipe.taken.items pipe.slots q kept.hands_over;
      dropped = kept.dropping.lawful;
      sent = kept.sending.rising;
      taken = kept.taking.rising;
    })
