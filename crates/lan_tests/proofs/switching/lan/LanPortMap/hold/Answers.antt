use Rattle.std.proofs.Common.{rules, ◌≡◌, ℕ, ◌+◌, Bool, true, false, IfOk, sym, ◌∙◌, subst}
use Rattle.vio_num.specs.declared.names.UnitId.{UnitId}
use Rattle.tce_window.specs.declared.answers.Right.{Right}
use Rattle.tce_window.specs.Held.{HeldValue}
use Rattle.tce_window.specs.Pieces.{Touches}
use Rattle.tce_window.specs.PlainPort.{known_of}
use Rattle.tce_window.specs.PortState.{Holds, port_at}
use Rattle.tce_window.specs.Window.{WindowValue}
use Rattle.lan_switch.specs.Switch.{same_unit}
use Rattle.lan_switch.specs.Windows.{facts_at, plain_facts, unit_b, unit_c}
use Rattle.lan_tests.proofs.Stations.{ok_weaker, one_unit}
use Rattle.lan_tests.proofs.switching.lan.LanPortMap.hold.Goals as goal

-- a range of a unit's plain window that is held, as the map tells it
holds_there : (unit : UnitId) (old new : WindowValue) (ioba len : ℕ) (right : Right) (held : HeldValue) → old.unit ≡ unit
    → Holds false (known_of old) ioba len right (known_of new) held
    → Holds false (port_at (plain_facts unit old)) ioba len right (port_at (plain_facts unit new)) held
holds_there unit old new ioba len right held own h = record {
  right_is = h.right_is;
  touched = subst (λ (u : UnitId). Touches u ioba (ioba + len) held.pieces) own h.touched;
  bytes = h.bytes;
  granted = h.granted;
  last = h.last;
  usable = h.usable;
  strokes = h.strokes;
  taken = h.taken;
  pages = h.pages;
  count = h.count;
  from = h.from;
  inside = h.inside;
  counted = h.counted;
}

pub returns-then-is_unit-clause-ok : goal.returns-then-is_unit-clause-ok
returns-then-is_unit-clause-ok c =
    let unit : UnitId = c.args.unit in
    let is_b : same_unit unit unit_b ≡ true = sym c.is_unit.ensures ∙ c.if-is_unit.true in
    let own : c.args.self.now.b.unit ≡ unit_b = search rules in
    subst (λ (x : Bool). IfOk c.hold.result (Holds false (port_at (facts_at x (same_unit unit unit_c) unit c.args.self.now.b c.args.self.now.c)) c.args.ioba c.args.len
    c.args.right (port_at (facts_at x (same_unit unit unit_c) unit c.hold.new.self c.args.self.now.c)))) (sym is_b)
    (ok_weaker c.hold.result _ _ (λ held. holds_there unit c.args.self.now.b c.hold.new.self c.args.ioba c.args.len c.args.right held
    (own ∙ sym (one_unit unit unit_b is_b))) c.hold.ensures.ok)

pub returns-then-is_unit-2-clause-ok : goal.returns-then-is_unit-2-clause-ok
returns-then-is_unit-2-clause-ok c =
    let unit : UnitId = c.args.unit in
    let not_b : same_unit unit unit_b ≡ false = sym c.is_unit.ensures ∙ c.if-is_unit.false in
    let is_c : same_unit unit unit_c ≡ true = sym c.is_unit-else-is_unit.ensures ∙ c.if-is_unit-2.true in
    let own : c.args.self.now.c.unit ≡ unit_c = search rules in
    subst (λ (x : Bool). IfOk c.hold-then-is_unit-2.result (Holds false (port_at (facts_at x (same_unit unit unit_c) unit c.args.self.now.b c.args.self.now.c)) c.args.ioba c.args.len
    c.args.right (port_at (facts_at x (same_unit unit unit_c) unit c.args.self.now.b c.hold-then-is_unit-2.new.self)))) (sym not_b)
    (subst (λ (y : Bool). IfOk c.hold-then-is_unit-2.result (Holds false (port_at (facts_at false y unit c.args.self.now.b c.args.self.now.c)) c.args.ioba c.args.len
    c.args.right (port_at (facts_at false y unit c.args.self.now.b c.hold-then-is_unit-2.new.self)))) (sym is_c)
    (ok_weaker c.hold-then-is_unit-2.result _ _ (λ held. holds_there unit c.args.self.now.c c.hold-then-is_unit-2.new.self c.args.ioba c.args.len c.args.right held
    (own ∙ sym (one_unit unit unit_c is_c))) c.hold-then-is_unit-2.ensures.ok))
