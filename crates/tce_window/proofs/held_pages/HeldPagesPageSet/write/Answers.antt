-- The page stands at its place.
use Rattle.std.proofs.Common.{◌≡◌, ◌+◌, ◌≤◌, ◌∙◌, None, IsSome, get_or, set, cond, ◌==◌, sym, ap, ap₂, subst}
use Rattle.std.proofs.lemmas.List.{get_or-set_same}
use Rattle.tce_window.specs.Held.{held_strokes, strokes_of}
use Rattle.tce_window.specs.Laying.{room_of, held_room, place_on, with_more, IsWithinHeld}
use Rattle.tce_window.specs.Moved.{stroke_count}
use Rattle.tce_window.specs.Strokes.{IsWithin}
use Rattle.tce_window.proofs.Growing.{strokes_there, room_there, one_more, after_write, more_strokes, less_room, place_inside, within_more}
use Rattle.tce_window.proofs.held_pages.HeldPagesPageSet.write.Goals as goal

pub write_held-requires-clause-room : goal.write_held-requires-clause-room
write_held-requires-clause-room c =
    let same : c.as_mut_slice.result.now ≡ c.args.self.now = c.as_mut_slice.ensures.value ∙ c.self.view_is in
    subst (λ pages. 1 ≤ room_of (get_or pages c.place_on-place.result None)) (sym same)
    (subst (λ i. 1 ≤ room_of (get_or c.args.self.now i None)) (sym c.place_on-place.ensures.place)
    (subst (λ room. 1 ≤ room) (sym (room_there c.args.self.now c.args.number)) c.requires.room))

pub returns-clause-index : goal.returns-clause-index
returns-clause-index c =
    let same : c.as_mut_slice.result.now ≡ c.args.self.now = c.as_mut_slice.ensures.value ∙ c.self.view_is in
    let here : strokes_of (get_or c.as_mut_slice.result.now c.place_on-place.result None) c.args.number ≡ held_strokes c.args.self.now c.args.number =
    ap₂ (λ pages i. strokes_of (get_or pages i None) c.args.number) same c.place_on-place.ensures.place ∙ strokes_there c.args.self.now c.args.number in
    c.write_held.ensures.index c.args.number (subst IsSome (sym here) c.requires.there) ∙ ap stroke_count here

pub returns-clause-strokes : goal.returns-clause-strokes
returns-clause-strokes c p =
    let new = after_write c.self.inside.pages c.as_mut_slice.result.now c.args.self.now c.write_held.new.pages c.place_on-place.result c.args.number c.args.stroke c.as_mut_slice.ensures.value c.self.view_is c.place_on-place.ensures.place c.write_held.ensures.pages in
    ap (λ pages. held_strokes pages p) new ∙ more_strokes c.args.self.now c.args.number p c.args.stroke

pub returns-clause-room : goal.returns-clause-room
returns-clause-room c p =
    let new = after_write c.self.inside.pages c.as_mut_slice.result.now c.args.self.now c.write_held.new.pages c.place_on-place.result c.args.number c.args.stroke c.as_mut_slice.ensures.value c.self.view_is c.place_on-place.ensures.place c.write_held.ensures.pages in
    subst (λ pages. held_room c.args.self.now p ≡ held_room pages p + cond (c.args.number == p) 1 0) (sym new)
    (less_room c.args.self.now c.args.number p c.args.stroke c.requires.room)

pub invariant_of-self : goal.invariant_of-self
invariant_of-self c p =
    let same : c.as_mut_slice.result.now ≡ c.args.self.now = c.as_mut_slice.ensures.value ∙ c.self.view_is in
    let old = c.args.self.now in
    let i = place_on old c.args.number in
    let changed : c.write_held.new.pages ≡ one_more c.args.stroke old c.args.number = c.write_held.ensures.pages ∙ ap₂ (λ pages k. set pages k (with_more c.args.stroke (get_or pages k None))) same c.place_on-place.ensures.place in
    let more : IsWithinHeld (with_more c.args.stroke (get_or old i None)) =
    subst IsWithinHeld
    (ap₂ (λ pages k. get_or pages k None) changed c.place_on-place.ensures.place ∙ get_or-set_same old i (with_more c.args.stroke (get_or old i None)) None (place_inside old c.args.number c.requires.there))
    c.write_held.ensures.within in
    let new = after_write c.self.inside.pages c.as_mut_slice.result.now c.args.self.now c.write_held.new.pages c.place_on-place.result c.args.number c.args.stroke c.as_mut_slice.ensures.value c.self.view_is c.place_on-place.ensures.place c.write_held.ensures.pages in
    subst (λ pages. IsWithin (held_strokes pages p)) (sym new)
    (within_more c.args.stroke c.args.self.now (place_on c.args.self.now c.args.number) p
    (subst (λ pages. IsWithin (held_strokes pages p)) c.self.view_is (c.self.invariant p)) more)
