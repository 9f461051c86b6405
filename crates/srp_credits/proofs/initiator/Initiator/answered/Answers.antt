use Rattle.std.proofs.Common.{◌≡◌, ◌+◌, ◌-◌, length, min, Some, Contains, ◌∙◌, ap}
use Rattle.std.specs.Option.{option_map}
use Rattle.srp_credits.specs.History.{without}
use Rattle.srp_credits.proofs.initiator.Initiator.answered.Goals as goal
use Rattle.srp_credits.proofs.Lives.{answered_after, answered_lived}
use Rattle.srp_credits.proofs.Lists.{rest_of}

-- what the call leaves of the tags
rest : (c : goal.After-self-1) → c.remove.new.self.items ≡ without c.args.tag c.self.inside.tags.items
rest c =
    c.remove.ensures.items
    ∙ rest_of c.args.tag c.self.inside.tags.items (Some c.in-Some.place) (rw c.as_slice.ensures.value at c.in-Some.ensures.first)

there : (c : goal.After-self-1) → Contains c.self.inside.tags.items c.args.tag
there c = rw c.as_slice.ensures.value at c.in-Some.ensures.found

limit : (c : goal.After-self-1) → c.raised-self-inside.result ≡ option_map (λ n. min (n + c.args.delta) (200 - length c.remove.new.self.items)) c.self.inside.limit
limit c = rw c.len.ensures.value at c.raised-self-inside.ensures

pub invariant_of-self : goal.invariant_of-self
invariant_of-self c =
    answered_lived c.self.inside.limit c.self.inside.tags.items c.args.tag c.args.delta _ _ c.self.invariant (there c) (rest c) (limit c)

pub returns-clause-tags : goal.returns-clause-tags
returns-clause-tags c = rest c ∙ ap (λ v. without c.args.tag v.tags) c.self.view_is

pub returns-clause-after : goal.returns-clause-after
returns-clause-after c es h =
    answered_after es c.self.inside.limit c.self.inside.tags.items c.args.tag c.args.delta _ _ (rw (← c.self.view_is) at h) c.self.invariant.capped (there c) (rest c) (limit c)
