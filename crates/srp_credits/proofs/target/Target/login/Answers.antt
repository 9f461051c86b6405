use Rattle.std.proofs.Common.{ap, ◌∙◌}
use Rattle.srp_credits.proofs.target.Target.login.Goals as goal
use Rattle.srp_credits.proofs.Lives.{target_login}

pub invariant_of-self : goal.invariant_of-self
invariant_of-self c =
    target_login _ _ _ _ (ap (λ v. v.on) c.self.view_is ∙ c.requires.off) c.self.invariant
