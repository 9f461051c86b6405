use Rattle.std.proofs.Common.{All, List, take, refl, sym, subst}
use Rattle.std.proofs.lemmas.List.Elements.{All-map}
use Rattle.lan_script.specs.declared.windows.Place.{Place}
use Rattle.lan_script.specs.Opening.{window_of}
use Rattle.lan_script.specs.Windows.{IsOwn}
use Rattle.lan_script.proofs.lan.open_windows.Goals as goal

pub new-requires : goal.new-requires
new-requires c =
    subst (λ (l : List Place). All IsOwn l) (sym c.loop-seat.invariant.made)
    (All-map IsOwn window_of (take c.loop-seat.seat-index c.args.seats.now) (λ k d less. refl))
