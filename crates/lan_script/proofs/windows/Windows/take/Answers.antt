use Rattle.std.proofs.Common.{◌≡◌, ◌<◌, List, None, length, arith, sym, ap, ◌∙◌}
use Rattle.lan_script.specs.declared.windows.Place.{Place}
use Rattle.lan_script.specs.Windows.{place_in}
use Rattle.lan_script.proofs.Mapped.{changed_there, none_there, window_own, window_there, within_some}
use Rattle.lan_script.proofs.windows.Windows.take.Goals as goal

pub index_mut-requires : goal.index_mut-requires
index_mut-requires c =
    let at : c.place_of-place.result ≡ place_in c.args.unit c.args.self.now =
    c.place_of-place.ensures.place ∙ ap (λ (l : List Place). place_in c.args.unit l) (c.deref.ensures.value ∙ c.self.view_is) in
    omega (
      arith,
      within_some c.args.unit c.args.self.now c.place_of-place.result at c.requires,
      ap (λ (l : List Place). length l) c.self.view_is,
      ap (λ (l : List Place). length l) c.deref.ensures.value,
      c.deref.ensures.len,
    )

pub unreachable-requires : goal.unreachable-requires
unreachable-requires c =
    let at : c.place_of-place.result ≡ place_in c.args.unit c.args.self.now =
    c.place_of-place.ensures.place ∙ ap (λ (l : List Place). place_in c.args.unit l) (c.deref.ensures.value ∙ c.self.view_is) in
    let less : c.place_of-place.result < length c.args.self.now = within_some c.args.unit c.args.self.now c.place_of-place.result at c.requires in
    none_there _
    (window_there c.args.unit c.self.inside.places.items c.args.self.now c.place_of-place.result c.index_mut.result.now c.self.view_is less
    c.index_mut.ensures.value at ∙ sym c.take.ensures.value ∙ c.in-None.is) c.requires

pub returns-clause-window : goal.returns-clause-window
returns-clause-window c =
    let at : c.place_of-place.result ≡ place_in c.args.unit c.args.self.now =
    c.place_of-place.ensures.place ∙ ap (λ (l : List Place). place_in c.args.unit l) (c.deref.ensures.value ∙ c.self.view_is) in
    let less : c.place_of-place.result < length c.args.self.now = within_some c.args.unit c.args.self.now c.place_of-place.result at c.requires in
    window_there c.args.unit c.self.inside.places.items c.args.self.now c.place_of-place.result c.index_mut.result.now c.self.view_is less
    c.index_mut.ensures.value at ∙ sym c.take.ensures.value ∙ c.in-Some.is

pub returns-clause-unit : goal.returns-clause-unit
returns-clause-unit c =
    let at : c.place_of-place.result ≡ place_in c.args.unit c.args.self.now =
    c.place_of-place.ensures.place ∙ ap (λ (l : List Place). place_in c.args.unit l) (c.deref.ensures.value ∙ c.self.view_is) in
    let less : c.place_of-place.result < length c.args.self.now = within_some c.args.unit c.args.self.now c.place_of-place.result at c.requires in
    window_own c.args.unit c.self.inside.places.items c.args.self.now c.place_of-place.result c.index_mut.result.now c.in-Some.window c.self.view_is less
    c.index_mut.ensures.value at (sym c.take.ensures.value ∙ c.in-Some.is) c.self.invariant

pub returns-clause-rest : goal.returns-clause-rest
returns-clause-rest c =
    let at : c.place_of-place.result ≡ place_in c.args.unit c.args.self.now =
    c.place_of-place.ensures.place ∙ ap (λ (l : List Place). place_in c.args.unit l) (c.deref.ensures.value ∙ c.self.view_is) in
    let less : c.place_of-place.result < length c.args.self.now = within_some c.args.unit c.args.self.now c.place_of-place.result at c.requires in
    changed_there c.args.unit c.self.inside.places.items c.args.self.now c.place_of-place.result c.index_mut.result.now c.take.new.self None c.self.view_is
    less c.index_mut.ensures.value at c.take.ensures.after
