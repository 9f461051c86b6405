use Rattle.std.proofs.Common.{rules, ◌≡◌, is_some, subst, sym, ◌∙◌}
use Rattle.tce_window.specs.Window.{strokes_at}
use Rattle.shared_window.specs.Hand.{is_below}
use Rattle.shared_window.proofs.Taking.{all_below}
use Rattle.shared_window.proofs.hand.give_pages.Goals as goal

pub give_below-requires-clause-pieces : goal.give_below-requires-clause-pieces
give_below-requires-clause-pieces c p =
    let to : c.from.result ≡ c.args.pages.now.count = search rules in
    subst (λ t. is_some (strokes_at c.args.region.now p) ≡ is_below c.args.pieces.now t p) (sym to)
    (c.requires.pieces p ∙ sym (all_below c.args.pages.now.count c.args.pieces.now c.requires.within p))
