use Rattle.std.proofs.Common.{◌≡◌, None, arith, sym, subst}
use Rattle.boot_text.specs.Cost.{line_cost}
use Rattle.boot_text.specs.SoFar.{SoFar, script_offence}
use Rattle.boot_text.proofs.Adding.{fits_line, line_added}
use Rattle.boot_text.proofs.draft.Draft.add_line.Goals as goal

pub overflow_add-self : goal.overflow_add-self
overflow_add-self c =
    let low = fits_line _ _ _ _ c.args.unit c.args.verb c.self.invariant (subst (λ (s : SoFar). script_offence s c.args.unit c.args.verb ≡ None) (sym c.self.view_is) c.requires) in
    omega (arith, low, c.cost_of-cost.ensures)

pub invariant_of-self-2 : goal.invariant_of-self-2
invariant_of-self-2 c =
    let low = fits_line _ _ _ _ c.args.unit c.args.verb c.self.invariant (subst (λ (s : SoFar). script_offence s c.args.unit c.args.verb ≡ None) (sym c.self.view_is) c.requires) in
    let exact : c.cost_of-cost.result ≡ line_cost c.self.inside.ports c.args.verb = omega (arith, low, c.cost_of-cost.ensures) in
    rw (c.in_ok-push.ensures.items, exact) (line_added _ _ _ _ _ c.self.invariant low)
