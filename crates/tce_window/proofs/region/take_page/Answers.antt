-- A page that is in its place is taken; else nothing changes.
use Rattle.std.proofs.Common.{◌≡◌, ◌∙◌, refl, ap, sym, Some, None, slice_get, length}
use Rattle.std.proofs.lemmas.Option.{slice_get_read}
use Rattle.tce_window.specs.Held.{held_strokes, either}
use Rattle.tce_window.proofs.Holding.{either-none, held_strokes-push, taken_away, taken_strokes, not_there}
use Rattle.tce_window.proofs.region.take_page.Goals as goal

pub returns-in-Some-clause-taken : goal.returns-in-Some-clause-taken
returns-in-Some-clause-taken c p =
    let here : slice_get c.args.pages.now.items c.args.number ≡ Some (Some c.in-Some.page) = slice_get_read c.args.pages.now.items (length c.args.pages.now.items) c.args.number c.index_mut.result.now refl c.requires.inside c.index_mut.ensures.value ∙ ap Some (sym c.take.ensures.value ∙ c.in-Some.is) in
    rw c.push.ensures.items (held_strokes-push c.args.held.now.items _ p ∙ ap (either (held_strokes c.args.held.now.items p)) (taken_strokes c.args.pages.now.items c.args.number p c.in-Some.page here))

pub returns-in_default-clause-away : goal.returns-in_default-clause-away
returns-in_default-clause-away c p =
    rw c.take.ensures.after (taken_away c.args.pages.now.items c.args.number p c.requires.inside)

pub returns-in_default-clause-taken : goal.returns-in_default-clause-taken
returns-in_default-clause-taken c p =
    let here : slice_get c.args.pages.now.items c.args.number ≡ Some None = slice_get_read c.args.pages.now.items (length c.args.pages.now.items) c.args.number c.index_mut.result.now refl c.requires.inside c.index_mut.ensures.value ∙ ap Some (sym c.take.ensures.value ∙ c.in_default.is) in
    sym (ap (either (held_strokes c.args.held.now.items p)) (not_there c.args.pages.now.items c.args.number p here) ∙ either-none (held_strokes c.args.held.now.items p))
