use Rattle.std.proofs.Common.{◌≡◌, ◌<◌, List, length, arith, ap, ◌∙◌}
use Rattle.lan_script.specs.declared.windows.Place.{Place}
use Rattle.lan_script.specs.Windows.{place_in, window_in}
use Rattle.lan_script.proofs.Mapped.{some_there, window_there}
use Rattle.lan_script.proofs.Placing.{nowhere}
use Rattle.lan_script.proofs.windows.Windows.lent.Goals as goal

pub returns-then-place-len-clause-none : goal.returns-then-place-len-clause-none
returns-then-place-len-clause-none c =
    let at : c.place_of-place.result ≡ place_in c.args.unit c.args.self.now =
    c.place_of-place.ensures.place ∙ ap (λ (l : List Place). place_in c.args.unit l) (c.deref.ensures.value ∙ c.self.view_is) in
    nowhere c.args.unit c.args.self.now
    (omega (arith, at, c.if-place-len.true, c.len.ensures, ap (λ (l : List Place). length l) c.self.view_is))

pub returns-in-Some-clause-found : goal.returns-in-Some-clause-found
returns-in-Some-clause-found c =
    let at : c.place_of-place.result ≡ place_in c.args.unit c.args.self.now =
    c.place_of-place.ensures.place ∙ ap (λ (l : List Place). place_in c.args.unit l) (c.deref.ensures.value ∙ c.self.view_is) in
    let within : c.place_of-place.result < length c.args.self.now =
    omega (arith, c.if-place-len.false, c.len.ensures, ap (λ (l : List Place). length l) c.self.view_is) in
    record {
      place_is = at;
      within = within;
      there = some_there (window_in c.args.unit c.args.self.now) _
          (window_there c.args.unit _ c.args.self.now c.place_of-place.result c.index.result.now c.self.view_is within c.index.ensures at
          ∙ c.in-Some.is);
    }

pub returns-in-None-clause-none : goal.returns-in-None-clause-none
returns-in-None-clause-none c =
    let at : c.place_of-place.result ≡ place_in c.args.unit c.args.self.now =
    c.place_of-place.ensures.place ∙ ap (λ (l : List Place). place_in c.args.unit l) (c.deref.ensures.value ∙ c.self.view_is) in
    let within : c.place_of-place.result < length c.args.self.now =
    omega (arith, c.if-place-len.false, c.len.ensures, ap (λ (l : List Place). length l) c.self.view_is) in
    window_there c.args.unit _ c.args.self.now c.place_of-place.result c.index.result.now c.self.view_is within c.index.ensures at
    ∙ c.in-None.is
