use Rattle.std.proofs.Common.{◌≡◌, ℕ, ◌<◌, ◌≤◌, List, length, arith, sym, ap, ◌∙◌, subst}
use Rattle.lan_switch.specs.declared.station.Station.{Station}
use Rattle.lan_switch.specs.Switch.{place_of, port_of}
use Rattle.lan_switch.proofs.Placing.{port_nowhere}
use Rattle.lan_switch.proofs.switch.PlainSwitch.place.Goals as goal

pub returns-else-place-len-clause-none : goal.returns-else-place-len-clause-none
returns-else-place-len-clause-none c =
    let is : c.as_slice.result.now ≡ c.args.self.now = c.as_slice.ensures.value ∙ c.self.view_is in
    let at : c.place_of-place.result ≡ place_of c.args.unit c.args.self.now =
    c.place_of-place.ensures.place ∙ ap (λ (l : List Station). place_of c.args.unit l) is in
    port_nowhere c.args.unit c.args.self.now
    (omega (
      arith,
      at,
      ap (λ (l : List Station). length l) is,
      c.if-place-len.false,
      c.place_of-place.ensures.within,
      c.len.ensures,
      c.as_slice.ensures.len,
    ))
