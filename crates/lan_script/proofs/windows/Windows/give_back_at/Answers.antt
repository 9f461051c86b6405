use Rattle.std.proofs.Common.{Option, IsSomeAnd, subst}
use Rattle.tce_window.specs.Lent.{IsLentBy}
use Rattle.tce_window.specs.Window.{WindowValue}
use Rattle.lan_script.proofs.Mapped.{own_there, turns_there, window_there}
use Rattle.lan_script.proofs.windows.Windows.give_back_at.Goals as goal

pub give_back_in-requires : goal.give_back_in-requires
give_back_in-requires c =
    subst (λ (o : Option WindowValue). IsSomeAnd o (λ window. IsLentBy window c.args.held))
    (window_there c.args.unit c.self.inside.places.items c.args.self.now c.args.place c.index_mut.result.now c.self.view_is c.requires.there.within
    c.index_mut.ensures.value c.requires.there.place_is) c.requires.fits

pub invariant_of-self : goal.invariant_of-self
invariant_of-self c =
    own_there c.self.inside.places.items c.args.self.now c.args.place c.index_mut.result.now c.give_back_in.new.window _ c.give_back_in.ensures c.self.view_is
    c.requires.there.within c.index_mut.ensures.value c.self.invariant c.give_back_in.ensures.made.rest.place

pub returns : goal.returns
returns c =
    turns_there c.args.unit c.self.inside.places.items c.args.self.now c.args.place c.index_mut.result.now c.give_back_in.new.window _ c.self.view_is
    c.requires.there.within c.index_mut.ensures.value c.requires.there.place_is c.self.invariant c.give_back_in.ensures
