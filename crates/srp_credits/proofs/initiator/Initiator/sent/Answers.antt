use Rattle.std.proofs.Common.{arith}
use Rattle.srp_credits.proofs.initiator.Initiator.sent.Goals as goal
use Rattle.srp_credits.proofs.Lives.{sent_lived}

pub invariant_of-self : goal.invariant_of-self
invariant_of-self c =
    sent_lived c.self.inside.limit c.in-Some.limit c.self.inside.tags.items c.args.tag _ c.in-Some.is c.self.invariant (grind arith) (rw (← c.self.view_is) at c.requires) c.push.ensures.items
