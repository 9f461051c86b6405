use Rattle.std.proofs.Common.{◌≡◌, ℕ, ◌≤◌, List, Option, Some, None, IfSome, IsSome, OnOk, Result, Ok, Err, true≢false, refl, sym, ◌∙◌, ap, subst}
use Rattle.lan_buffers.specs.Port.{PortValue}
use Rattle.lan_switch.specs.declared.station.Station.{Station}
use Rattle.lan_switch.specs.Switch.{port_of}
use Rattle.lan_tests.proofs.Stations.{port_with}
use Rattle.lan_tests.proofs.switching.make_room.Goals as goal

on_ok : {X E : Type 0} (r : Result X E) (P Q : Type 0) → (P → Q) → OnOk r P → OnOk r Q
on_ok (Ok x) P Q f h = f h
on_ok (Err e) P Q f h = tt

no_port : (o : Option PortValue) (P : PortValue → Type 0) → (IsSome o → ⊥) → IfSome o P
no_port None P none = tt
no_port (Some port) P none = absurd (none refl)

pub returns-then-is_port : goal.returns-then-is_port
returns-then-is_port c =
    let h = c.reserve.ensures in
    let shown : port_of c.reserve.new.self c.args.unit ≡ Some h.after =
    subst (λ (l : List Station). port_of l c.args.unit ≡ Some h.after) (sym h.rest)
    (port_with c.args.unit h.after c.args.switch.now h.before h.was (ap (λ (v : PortValue). v.unit) h.done.rest)) in
    on_ok c.reserve.result _ _ (λ room. subst (λ o. IfSome o (λ (port : PortValue). 1 ≤ port.spare)) (sym shown) room) h.done.room

pub returns-else-is_port : goal.returns-else-is_port
returns-else-is_port c =
    no_port (port_of c.args.switch.now c.args.unit) _ (λ is. true≢false (sym (c.is_port.ensures.1 is) ∙ c.if-is_port.false))
