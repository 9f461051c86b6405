-- The port of a unit among the stations of a switch, and the unit that a name is of.
use Rattle.std.proofs.Common.{◌≡◌, ◌==◌, ◌&&◌, Bool, true, false, true≢false, List, [], ◌∷◌, Option, Some, None, option_map, Result, Ok, Err, IfOk, refl, sym, ◌∙◌, ap}
use Rattle.std.proofs.lemmas.Bool.{eqb-true}
use Rattle.vio_num.specs.declared.names.UnitId.{UnitId}
use Rattle.lan_buffers.specs.Port.{PortValue}
use Rattle.lan_switch.specs.declared.station.Station.{Station}
use Rattle.lan_switch.specs.Switch.{port_of, same_unit, station_of, unit_of, with_port}

by_bool : (b : Bool) (P : Type 0) → (b ≡ true → P) → (b ≡ false → P) → P
by_bool true P f g = f refl
by_bool false P f g = g refl

same_some : {X : Type 0} (x y : X) → Some x ≡ Some y → x ≡ y
same_some x y e = cc (e)

none_some : {X : Type 0} (x : X) → None ≡ Some x → ⊥
none_some x e = cc (e)

station_head : (unit : UnitId) (s : Station) (ss : List Station) → same_unit (unit_of s) unit ≡ true → station_of (s ∷ ss) unit ≡ Some s
station_head unit s ss e = rw e refl

station_tail : (unit : UnitId) (s : Station) (ss : List Station) → same_unit (unit_of s) unit ≡ false → station_of (s ∷ ss) unit ≡ station_of ss unit
station_tail unit s ss e = rw e refl

with_head : (unit : UnitId) (q : PortValue) (s : Station) (ss : List Station) → same_unit (unit_of s) unit ≡ true
    → with_port unit q (s ∷ ss) ≡ record s { port = q } ∷ ss
with_head unit q s ss e = rw e refl

with_tail : (unit : UnitId) (q : PortValue) (s : Station) (ss : List Station) → same_unit (unit_of s) unit ≡ false
    → with_port unit q (s ∷ ss) ≡ s ∷ with_port unit q ss
with_tail unit q s ss e = rw e refl

pub port_with : (unit : UnitId) (q : PortValue) (ss : List Station) (p : PortValue) → port_of ss unit ≡ Some p → q.unit ≡ p.unit
    → port_of (with_port unit q ss) unit ≡ Some q
port_with unit q [] p shown own = absurd (none_some p shown)
port_with unit q (t ∷ ss) p shown own = by_bool (same_unit (unit_of t) unit) (port_of (with_port unit q (t ∷ ss)) unit ≡ Some q)
    (λ e.
    let was : t.port ≡ p = same_some t.port p (ap (λ o. option_map (λ (x : Station). x.port) o) (sym (station_head unit t ss e)) ∙ shown) in
    let same : same_unit q.unit unit ≡ true = ap (λ (u : UnitId). same_unit u unit) (own ∙ ap (λ (v : PortValue). v.unit) (sym was)) ∙ e in
    ap (λ l. port_of l unit) (with_head unit q t ss e)
    ∙ ap (λ o. option_map (λ (x : Station). x.port) o) (station_head unit (record t { port = q }) ss same))
    (λ e.
    ap (λ l. port_of l unit) (with_tail unit q t ss e)
    ∙ ap (λ o. option_map (λ (x : Station). x.port) o) (station_tail unit t (with_port unit q ss) e)
    ∙ port_with unit q ss p (ap (λ o. option_map (λ (x : Station). x.port) o) (sym (station_tail unit t ss e)) ∙ shown) own)

both : (x y : Bool) → (x && y) ≡ true → (x ≡ true) × (y ≡ true)
both true y e = (refl, e)
both false y e = absurd (true≢false (sym e))

-- names that are of one unit are one
pub one_unit : (a b : UnitId) → same_unit a b ≡ true → a ≡ b
one_unit a b e =
    let h = both (a.partition == b.partition) (a.unit == b.unit) e in
    ap (λ n. record { partition = n; unit = a.unit }) (eqb-true a.partition b.partition h.0)
    ∙ ap (λ n. record { partition = b.partition; unit = n }) (eqb-true a.unit b.unit h.1)

-- what holds of a result holds of it in a weaker form
pub ok_weaker : {X E : Type 0} (r : Result X E) (P Q : X → Type 0) → ((x : X) → P x → Q x) → IfOk r P → IfOk r Q
ok_weaker (Ok x) P Q f h = f x h
ok_weaker (Err e) P Q f h = tt
