use Rattle.srp_credits.proofs.target.Target.logout.Goals as goal
use Rattle.srp_credits.proofs.Lives.{target_logout}

pub invariant_of-self : goal.invariant_of-self
invariant_of-self c =
    target_logout _ _ _ _ c.self.invariant
