use Rattle.std.proofs.Common.{◌≤◌, ◌∙◌, All, List, map, sym, ap, subst}
use Rattle.vio_num.specs.declared.names.UnitId.{UnitId}
use Rattle.lan_switch.specs.declared.switch.PortPlan.{PortPlan}
use Rattle.lan_switch.specs.Switch.{AreAscending, opened}
use Rattle.lan_script.proofs.Opened.{open_lan, plan_slots, plan_units}
use Rattle.lan_script.proofs.lan.Lan.open.Goals as goal

pub open-requires-clause-ascending : goal.open-requires-clause-ascending
open-requires-clause-ascending c =
    subst (λ (l : List UnitId). AreAscending l)
    (sym (ap (λ (l : List PortPlan). map (λ plan. plan.unit) l) (c.deref.ensures.value ∙ c.in_ok-plans.ensures.plans) ∙ plan_units c.args.seats.now))
    c.requires.ascending

pub open-requires-clause-slots : goal.open-requires-clause-slots
open-requires-clause-slots c =
    subst (λ (l : List PortPlan). All (λ (plan : PortPlan). (1 ≤ plan.slots) × (plan.slots ≤ 1024)) l)
    (sym (c.deref.ensures.value ∙ c.in_ok-plans.ensures.plans)) (plan_slots c.args.seats.now c.requires.sized)

pub invariant_of-result : goal.invariant_of-result
invariant_of-result c =
    open_lan c.args.seats.now c.in_ok-own.own.items c.in_ok-switch.switch c.in_ok-windows.windows (map (λ rows. rows.items) c.in_ok-frames.frames.items)
    c.in_ok-own.ensures.items
    (c.in_ok-switch.ensures ∙ ap (λ (l : List PortPlan). map opened l) (c.deref.ensures.value ∙ c.in_ok-plans.ensures.plans))
    c.in_ok-windows.ensures c.in_ok-frames.ensures c.requires.few c.requires.ascending c.requires.sized c.in_ok-plans.ensures.named
