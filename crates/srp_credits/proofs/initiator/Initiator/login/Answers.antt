use Rattle.std.proofs.Common.{rules}
use Rattle.srp_credits.proofs.initiator.Initiator.login.Goals as goal
use Rattle.srp_credits.proofs.Lives.{login_lived}

pub invariant_of-self : goal.invariant_of-self
invariant_of-self c =
    login_lived c.self.inside.limit c.self.inside.tags.items c.args.delta _ _ c.self.invariant (search rules) c.clear.ensures
