use Rattle.std.proofs.Common.{◌≡◌, ◌<◌, List, Some, length, sym, ap, ◌∙◌, subst}
use Rattle.lan_script.specs.declared.windows.Place.{Place}
use Rattle.lan_script.specs.Windows.{place_in}
use Rattle.std.proofs.Common.{refl}
use Rattle.lan_script.proofs.Mapped.{changed_there, put_own}
use Rattle.lan_script.proofs.windows.Windows.put.Goals as goal

pub invariant_of-self : goal.invariant_of-self
invariant_of-self c =
    let at : c.place_of-place.result ≡ place_in c.args.unit c.args.self.now =
    c.place_of-place.ensures.place ∙ ap (λ (l : List Place). place_in c.args.unit l) (c.deref.ensures.value ∙ c.self.view_is) in
    let less : c.place_of-place.result < length c.args.self.now = subst (λ k. k < length c.args.self.now) (sym at) c.requires.place in
    put_own c.args.unit c.self.inside.places.items c.args.self.now c.place_of-place.result c.index_mut.result.now c.args.window c.self.view_is less
    c.index_mut.ensures.value at c.requires.unit c.self.invariant

pub returns : goal.returns
returns c =
    let at : c.place_of-place.result ≡ place_in c.args.unit c.args.self.now =
    c.place_of-place.ensures.place ∙ ap (λ (l : List Place). place_in c.args.unit l) (c.deref.ensures.value ∙ c.self.view_is) in
    let less : c.place_of-place.result < length c.args.self.now = subst (λ k. k < length c.args.self.now) (sym at) c.requires.place in
    changed_there c.args.unit c.self.inside.places.items c.args.self.now c.place_of-place.result c.index_mut.result.now (Some c.args.window)
    (Some c.args.window) c.self.view_is less c.index_mut.ensures.value at refl
