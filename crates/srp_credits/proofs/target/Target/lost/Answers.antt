use Rattle.srp_credits.proofs.target.Target.lost.Goals as goal
use Rattle.srp_credits.proofs.Lives.{target_lost}

pub invariant_of-self : goal.invariant_of-self
invariant_of-self c =
    target_lost _ _ _ _ c.self.invariant
