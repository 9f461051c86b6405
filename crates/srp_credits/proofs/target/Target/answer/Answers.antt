use Rattle.srp_credits.proofs.target.Target.answer.Goals as goal
use Rattle.srp_credits.proofs.Lives.{target_answer, target_answered}

pub invariant_of-self : goal.invariant_of-self
invariant_of-self c = target_answer _ _ _ _ (rw (← c.self.view_is) at c.requires) c.self.invariant

pub returns-clause-after : goal.returns-clause-after
returns-clause-after c es tag delta there h =
    target_answered es tag delta _ _ _ _ there (rw (← c.self.view_is) at h)
