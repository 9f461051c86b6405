use Rattle.std.proofs.Common.{arith}
use Rattle.srp_credits.proofs.target.Target.accept.Goals as goal
use Rattle.srp_credits.proofs.Lives.{target_accept}

pub invariant_of-self : goal.invariant_of-self
invariant_of-self c =
    target_accept _ _ _ _ c.if-not-self.false (omega arith) c.self.invariant

pub returns-clause-history : goal.returns-clause-history
returns-clause-history c = target_accept _ _ _ _ c.if-not-self.false (omega arith) c.self.invariant
