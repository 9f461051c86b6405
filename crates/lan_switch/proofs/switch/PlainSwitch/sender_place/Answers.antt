use Rattle.std.proofs.Common.{◌≡◌, ◌≤◌, ◌<◌, ℕ, Some, Option, arith, true≢false, sym, ◌∙◌, ap, subst}
use Rattle.lan_buffers.specs.Calls.{IsOpen}
use Rattle.lan_buffers.specs.Port.{PortValue}
use Rattle.lan_switch.specs.Switch.{port_of}
use Rattle.lan_switch.proofs.Placing.{port_here}
use Rattle.lan_switch.proofs.switch.PlainSwitch.sender_place.Goals as goal

one_port : (o : Option PortValue) (x y : PortValue) → o ≡ Some x → o ≡ Some y → y ≡ x
one_port o x y e f = cc (e, f)

pub returns-then-is_open-clause-found : goal.returns-then-is_open-clause-found
returns-then-is_open-clause-found c = record {
  asked = record {
    registered = record {
      port = c.index.result.now.port;
      here = port_here c.args.unit c.self.inside.stations.items c.args.self.now c.in_ok-place.place c.index.result.now c.self.view_is
          c.in_ok-place.ensures.found c.in_ok-place.ensures.within c.index.ensures;
      opened = c.is_open.ensures.0 c.if-is_open.true;
    };
    long_enough = omega (arith, c.parts_len-len.ensures);
    short_enough = omega (arith, c.parts_len-len.ensures);
  };
  place_is = c.in_ok-place.ensures.found;
  within = c.in_ok-place.ensures.within;
}

pub returns-else-is_open-clause-none : goal.returns-else-is_open-clause-none
returns-else-is_open-clause-none c = λ asked.
    let here : port_of c.args.self.now c.args.unit ≡ Some c.index.result.now.port =
    port_here c.args.unit c.self.inside.stations.items c.args.self.now c.in_ok-place.place c.index.result.now c.self.view_is
    c.in_ok-place.ensures.found c.in_ok-place.ensures.within c.index.ensures in
    let opened : IsOpen c.index.result.now.port =
    subst (λ (p : PortValue). IsOpen p) (one_port _ _ _ here asked.registered.here) asked.registered.opened in
    true≢false (sym (c.is_open.ensures.1 opened) ∙ c.if-is_open.false)
