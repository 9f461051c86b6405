use Rattle.std.proofs.Common.{Option, IsSomeAnd, subst}
use Rattle.tce_window.specs.Window.{WindowValue}
use Rattle.lan_script.proofs.Mapped.{own_there, turns_there, window_there}
use Rattle.lan_script.proofs.windows.Windows.hold_at.Goals as goal

pub hold_in-requires-clause-free : goal.hold_in-requires-clause-free
hold_in-requires-clause-free c =
    subst (λ (o : Option WindowValue). IsSomeAnd o _)
    (window_there c.args.unit c.self.inside.places.items c.args.self.now c.args.place c.index_mut.result.now c.self.view_is c.requires.there.within
    c.index_mut.ensures.value c.requires.there.place_is) c.requires.free

pub invariant_of-self : goal.invariant_of-self
invariant_of-self c =
    own_there c.self.inside.places.items c.args.self.now c.args.place c.index_mut.result.now c.hold_in.new.window _ c.hold_in.ensures c.self.view_is
    c.requires.there.within c.index_mut.ensures.value c.self.invariant c.hold_in.ensures.made.rest.place

pub returns : goal.returns
returns c =
    turns_there c.args.unit c.self.inside.places.items c.args.self.now c.args.place c.index_mut.result.now c.hold_in.new.window _ c.self.view_is
    c.requires.there.within c.index_mut.ensures.value c.requires.there.place_is c.self.invariant c.hold_in.ensures
