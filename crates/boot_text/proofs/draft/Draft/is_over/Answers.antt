-- The sums that the draft keeps are those of the plan so far.
use Rattle.std.proofs.Common.{ℕ, ◌≡◌, ◌+◌, ap₂, ◌∙◌, nat_lt, subst}
use Rattle.boot_text.specs.Cost.{line_cost}
use Rattle.boot_text.specs.SoFar.{SoFar, is_over}
use Rattle.boot_text.specs.declared.cost.TheConstants.{MOST_COST}
use Rattle.boot_text.proofs.draft.Draft.is_over.Goals as goal

pub returns : goal.returns
returns c =
    subst (λ (s : SoFar). c.is_over_cost.result ≡ is_over s c.args.verb.now) c.self.view_is
    (c.is_over_cost.ensures _ c.cost_of.ensures
    ∙ ap₂ (λ (cost : ℕ) (ports : ℕ). nat_lt MOST_COST (cost + line_cost ports c.args.verb.now)) c.self.invariant.cost_is c.self.invariant.ports_are)
