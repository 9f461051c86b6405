use Rattle.std.proofs.Common.{◌≡◌, ℕ, ◌≤◌, List, length, map, take, arith, sym, ◌∙◌, ap, subst}
use Rattle.std.proofs.lemmas.List.{take_all}
use Rattle.vio_num.specs.declared.names.UnitId.{UnitId}
use Rattle.lan_switch.specs.declared.station.Station.{Station}
use Rattle.lan_switch.specs.declared.switch.PortPlan.{PortPlan}
use Rattle.lan_switch.specs.Switch.{IsSwitch, opened}
use Rattle.lan_switch.proofs.Placing.{opened_switch}
use Rattle.lan_switch.proofs.switch.PlainSwitch.open.Goals as goal

pub invariant_of-result : goal.invariant_of-result
invariant_of-result c =
    let all : take c.loop-plan.plan-index c.args.ports.now ≡ c.args.ports.now =
    take_all c.loop-plan.plan-index c.args.ports.now c.loop-plan-test.false in
    subst (λ (l : List Station). IsSwitch l) (sym (c.loop-plan.invariant.made ∙ ap (λ (l : List PortPlan). map opened l) all))
    (opened_switch c.args.ports.now c.requires.few c.requires.ascending)
