use Rattle.std.proofs.Common.{◌≡◌, ◌<◌, List, length, arith, ap, ◌∙◌}
use Rattle.lan_script.specs.declared.windows.Place.{Place}
use Rattle.lan_script.specs.Windows.{place_in}
use Rattle.lan_script.proofs.Mapped.{none_there, window_own, window_there, within_some}
use Rattle.lan_script.proofs.windows.Windows.at.Goals as goal

pub index-requires : goal.index-requires
index-requires c =
    let at : c.place_of.result ≡ place_in c.args.unit c.args.self.now =
    c.place_of.ensures.place ∙ ap (λ (l : List Place). place_in c.args.unit l) (c.deref.ensures.value ∙ c.self.view_is) in
    omega (
      arith,
      within_some c.args.unit c.args.self.now c.place_of.result at c.requires,
      ap (λ (l : List Place). length l) c.self.view_is,
      ap (λ (l : List Place). length l) c.deref.ensures.value,
      c.deref.ensures.len,
    )

pub unreachable-requires : goal.unreachable-requires
unreachable-requires c =
    let at : c.place_of.result ≡ place_in c.args.unit c.args.self.now =
    c.place_of.ensures.place ∙ ap (λ (l : List Place). place_in c.args.unit l) (c.deref.ensures.value ∙ c.self.view_is) in
    let less : c.place_of.result < length c.args.self.now = within_some c.args.unit c.args.self.now c.place_of.result at c.requires in
    none_there _
    (window_there c.args.unit c.self.inside.places.items c.args.self.now c.place_of.result c.index.result.now c.self.view_is less c.index.ensures at
    ∙ c.in-None.is) c.requires

pub returns-clause-window : goal.returns-clause-window
returns-clause-window c =
    let at : c.place_of.result ≡ place_in c.args.unit c.args.self.now =
    c.place_of.ensures.place ∙ ap (λ (l : List Place). place_in c.args.unit l) (c.deref.ensures.value ∙ c.self.view_is) in
    let less : c.place_of.result < length c.args.self.now = within_some c.args.unit c.args.self.now c.place_of.result at c.requires in
    window_there c.args.unit c.self.inside.places.items c.args.self.now c.place_of.result c.index.result.now c.self.view_is less c.index.ensures at
    ∙ c.in-Some.is

pub returns-clause-unit : goal.returns-clause-unit
returns-clause-unit c =
    let at : c.place_of.result ≡ place_in c.args.unit c.args.self.now =
    c.place_of.ensures.place ∙ ap (λ (l : List Place). place_in c.args.unit l) (c.deref.ensures.value ∙ c.self.view_is) in
    let less : c.place_of.result < length c.args.self.now = within_some c.args.unit c.args.self.now c.place_of.result at c.requires in
    window_own c.args.unit c.self.inside.places.items c.args.self.now c.place_of.result c.index.result.now c.in-Some.window c.self.view_is less
    c.index.ensures at c.in-Some.is c.self.invariant
