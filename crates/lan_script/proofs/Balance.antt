-- The balance of frames, deliveries and drops, where a call at one port keeps what that port has of it.
use Rattle.std.proofs.Common.{◌≡◌, ◌≤◌, true, false, List, [], ◌∷◌, Some, length, refl, sym, ◌∙◌, ap, subst}
use Rattle.vio_num.specs.declared.names.UnitId.{UnitId}
use Rattle.lan_buffers.specs.Calls.{IsOpen}
use Rattle.lan_buffers.specs.Port.{PortValue}
use Rattle.lan_switch.specs.declared.station.Station.{Station}
use Rattle.lan_switch.specs.Switch.{port_of, same_unit, with_port}
use Rattle.vio_trace.specs.declared.lan_rows.FrameRow.{FrameRow}
use Rattle.lan_script.specs.declared.seat.PortSeat.{PortSeat}
use Rattle.lan_script.specs.Delivered.{taken}
use Rattle.lan_script.specs.Invariant.{HaveBegun, IsBalanced, drops_at, drops_by, rows_at, rows_in}
use Rattle.lan_script.proofs.Keys.{port_head, port_tail}
use Rattle.lan_script.proofs.Placing.{by_bool, none_some, same_some}
use Rattle.lan_script.proofs.Tallies.{KeepsTally}

with_head : (unit : UnitId) (port : PortValue) (s : Station) (ss : List Station) → same_unit s.port.unit unit ≡ true
    → with_port unit port (s ∷ ss) ≡ record s { port = port } ∷ ss
with_head unit port s ss e = rw e refl

with_tail : (unit : UnitId) (port : PortValue) (s : Station) (ss : List Station) → same_unit s.port.unit unit ≡ false
    → with_port unit port (s ∷ ss) ≡ s ∷ with_port unit port ss
with_tail unit port s ss e = rw e refl

-- What is seen of a unit's port in two lists is the same.
pub record SeesSame (old new : List Station) (v : UnitId) : Type 0 where
  pub rows : rows_at new v ≡ rows_at old v
  pub drops : drops_at new v ≡ drops_at old v

-- of two ports, one in each list
by_ports : (old new : List Station) (v : UnitId) (before after : PortValue) → port_of old v ≡ Some before → port_of new v ≡ Some after
    → KeepsTally before after → SeesSame old new v
by_ports old new v before after e f keeps = record {
  rows = ap (λ o. rows_in v o) f ∙ keeps.rows v ∙ sym (ap (λ o. rows_in v o) e);
  drops = ap (λ o. drops_by o) f ∙ keeps.drops ∙ sym (ap (λ o. drops_by o) e);
}

-- where the port is the same, or none
pub by_same : (old new : List Station) (v : UnitId) → port_of new v ≡ port_of old v → SeesSame old new v
by_same old new v e = record { rows = ap (λ o. rows_in v o) e; drops = ap (λ o. drops_by o) e }

pub sees_with : (unit v : UnitId) (ss : List Station) (before after : PortValue) → port_of ss unit ≡ Some before → after.unit ≡ before.unit
    → KeepsTally before after → SeesSame ss (with_port unit after ss) v
sees_with unit v [] before after at same keeps = absurd (none_some before at)
sees_with unit v (s ∷ ss) before after at same keeps =
    by_bool (same_unit s.port.unit unit) (SeesSame (s ∷ ss) (with_port unit after (s ∷ ss)) v)
    (λ e.
    let is : s.port ≡ before = same_some s.port before (sym (port_head unit s ss e) ∙ at) in
    let own : after.unit ≡ s.port.unit = same ∙ ap (λ (p : PortValue). p.unit) (sym is) in
    subst (λ l. SeesSame (s ∷ ss) l v) (sym (with_head unit after s ss e))
    (by_bool (same_unit s.port.unit v) (SeesSame (s ∷ ss) (record s { port = after } ∷ ss) v)
    (λ f.
    by_ports (s ∷ ss) (record s { port = after } ∷ ss) v before after (port_head v s ss f ∙ ap (λ (p : PortValue). Some p) is)
    (port_head v (record s { port = after }) ss (ap (λ (u : UnitId). same_unit u v) own ∙ f)) keeps)
    (λ f.
    by_same (s ∷ ss) (record s { port = after } ∷ ss) v
    (port_tail v (record s { port = after }) ss (ap (λ (u : UnitId). same_unit u v) own ∙ f) ∙ sym (port_tail v s ss f)))))
    (λ e.
    subst (λ l. SeesSame (s ∷ ss) l v) (sym (with_tail unit after s ss e))
    (by_bool (same_unit s.port.unit v) (SeesSame (s ∷ ss) (s ∷ with_port unit after ss) v)
    (λ f. by_same (s ∷ ss) (s ∷ with_port unit after ss) v (port_head v s (with_port unit after ss) f ∙ sym (port_head v s ss f)))
    (λ f.
    let rest = sees_with unit v ss before after (sym (port_tail unit s ss e) ∙ at) same keeps in
    record {
      rows = ap (λ o. rows_in v o) (port_tail v s (with_port unit after ss) f) ∙ rest.rows ∙ sym (ap (λ o. rows_in v o) (port_tail v s ss f));
      drops = ap (λ o. drops_by o) (port_tail v s (with_port unit after ss) f) ∙ rest.drops ∙ sym (ap (λ o. drops_by o) (port_tail v s ss f));
    })))

pub begun_with : (unit : UnitId) (ss : List Station) (before after : PortValue) → port_of ss unit ≡ Some before → KeepsTally before after
    → HaveBegun ss → HaveBegun (with_port unit after ss)
begun_with unit [] before after at keeps begun = absurd (none_some before at)
begun_with unit (s ∷ ss) before after at keeps begun =
    by_bool (same_unit s.port.unit unit) (HaveBegun (with_port unit after (s ∷ ss)))
    (λ e.
    let is : s.port ≡ before = same_some s.port before (sym (port_head unit s ss e) ∙ at) in
    subst HaveBegun (sym (with_head unit after s ss e))
    (keeps.begun (subst (λ (p : PortValue). IsOpen p → 1 ≤ length p.drop_counts) is begun.0), begun.1))
    (λ e.
    subst HaveBegun (sym (with_tail unit after s ss e))
    (begun.0, begun_with unit ss before after (sym (port_tail unit s ss e) ∙ at) keeps begun.1))

-- where the same is seen of each port, the balance stays
pub balance_seen : (seats : List PortSeat) (frames : List (List FrameRow)) (old new : List Station) → HaveBegun new
    → ((v : UnitId) → SeesSame old new v) → IsBalanced seats old frames → IsBalanced seats new frames
balance_seen seats frames old new begun same is = record {
  begun = begun;
  delivered = λ sender receiver. ap (λ l. taken sender l) (same receiver).rows ∙ is.delivered sender receiver;
  few = is.few;
  dropped = λ receiver less. (same receiver).drops ∙ is.dropped receiver less;
}

pub balance_with : (seats : List PortSeat) (frames : List (List FrameRow)) (unit : UnitId) (ss : List Station) (before after : PortValue)
    → port_of ss unit ≡ Some before → after.unit ≡ before.unit → KeepsTally before after → IsBalanced seats ss frames
    → IsBalanced seats (with_port unit after ss) frames
balance_with seats frames unit ss before after at same keeps is =
    balance_seen seats frames ss (with_port unit after ss) (begun_with unit ss before after at keeps is.begun)
    (λ v. sees_with unit v ss before after at same keeps) is
