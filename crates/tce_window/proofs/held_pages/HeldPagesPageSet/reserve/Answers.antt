-- The page stands at its place.
use Rattle.std.proofs.Common.{◌≡◌, ℕ, ◌≤◌, ◌∙◌, None, IsSome, get_or, sym, ap, subst}
use Rattle.tce_window.specs.Held.{held_strokes, strokes_of}
use Rattle.tce_window.specs.Laying.{held_room, place_on, room_of, HasRoom}
use Rattle.tce_window.specs.Strokes.{IsWithin}
use Rattle.tce_window.proofs.Growing.{strokes_there, strokes-set, after_reserve, room-set, room-set_there, has_room, place_inside, item_there}
use Rattle.tce_window.proofs.Gathering.{on_ok_map}
use Rattle.tce_window.proofs.held_pages.HeldPagesPageSet.reserve.Goals as goal

pub returns-clause-strokes : goal.returns-clause-strokes
returns-clause-strokes c p =
    let old = c.args.self.now in
    let n = c.args.number in
    let held = c.reserve_held.new.held in
    let new = after_reserve c.self.inside.pages c.as_mut_slice.result.now old c.place_on-place.result n held c.as_mut_slice.ensures.value c.self.view_is c.place_on-place.ensures.place in
    let item : get_or c.as_mut_slice.result.now c.place_on-place.result c.index-as_mut_slice-place.result ≡ get_or old (place_on old n) None =
    item_there c.as_mut_slice.result.now old c.place_on-place.result n c.index-as_mut_slice-place.result (c.as_mut_slice.ensures.value ∙ c.self.view_is) c.place_on-place.ensures.place c.place_on-place.ensures.inside in
    let same : (p : ℕ) → strokes_of held p ≡ strokes_of (get_or old (place_on old n) None) p = λ p. c.reserve_held.ensures.strokes p ∙ ap (λ h. strokes_of h p) item in
    ap (λ pages. held_strokes pages p) new ∙ strokes-set old (place_on old n) held None (place_inside old n c.requires.there) same p

pub returns-clause-kept : goal.returns-clause-kept
returns-clause-kept c p =
    let old = c.args.self.now in
    let n = c.args.number in
    let held = c.reserve_held.new.held in
    let new = after_reserve c.self.inside.pages c.as_mut_slice.result.now old c.place_on-place.result n held c.as_mut_slice.ensures.value c.self.view_is c.place_on-place.ensures.place in
    let item : get_or c.as_mut_slice.result.now c.place_on-place.result c.index-as_mut_slice-place.result ≡ get_or old (place_on old n) None =
    item_there c.as_mut_slice.result.now old c.place_on-place.result n c.index-as_mut_slice-place.result (c.as_mut_slice.ensures.value ∙ c.self.view_is) c.place_on-place.ensures.place c.place_on-place.ensures.inside in
    let same : (p : ℕ) → strokes_of held p ≡ strokes_of (get_or old (place_on old n) None) p = λ p. c.reserve_held.ensures.strokes p ∙ ap (λ h. strokes_of h p) item in
    let more : room_of (get_or old (place_on old n) None) ≤ room_of held = subst (λ h. room_of h ≤ room_of held) item c.reserve_held.ensures.kept in
    subst (λ pages. held_room old p ≤ held_room pages p) (sym new) (room-set old (place_on old n) held None (place_inside old n c.requires.there) same more p)

pub returns-clause-room : goal.returns-clause-room
returns-clause-room c =
    let old = c.args.self.now in
    let n = c.args.number in
    let held = c.reserve_held.new.held in
    let new = after_reserve c.self.inside.pages c.as_mut_slice.result.now old c.place_on-place.result n held c.as_mut_slice.ensures.value c.self.view_is c.place_on-place.ensures.place in
    let item : get_or c.as_mut_slice.result.now c.place_on-place.result c.index-as_mut_slice-place.result ≡ get_or old (place_on old n) None =
    item_there c.as_mut_slice.result.now old c.place_on-place.result n c.index-as_mut_slice-place.result (c.as_mut_slice.ensures.value ∙ c.self.view_is) c.place_on-place.ensures.place c.place_on-place.ensures.inside in
    let same : (p : ℕ) → strokes_of held p ≡ strokes_of (get_or old (place_on old n) None) p = λ p. c.reserve_held.ensures.strokes p ∙ ap (λ h. strokes_of h p) item in
    let there : IsSome (strokes_of held n) = subst IsSome (sym (same n ∙ strokes_there old n)) c.requires.there in
    on_ok_map c.reserve_held.result (HasRoom c.args.count held) _
    (λ room. subst (λ pages. c.args.count ≤ held_room pages n) (sym new)
    (subst (λ k. c.args.count ≤ k) (sym (room-set_there old n held c.requires.there same)) (has_room c.args.count n held room there)))
    c.reserve_held.ensures.room

pub invariant_of-self : goal.invariant_of-self
invariant_of-self c p =
    let old = c.args.self.now in
    let n = c.args.number in
    let held = c.reserve_held.new.held in
    let new = after_reserve c.self.inside.pages c.as_mut_slice.result.now old c.place_on-place.result n held c.as_mut_slice.ensures.value c.self.view_is c.place_on-place.ensures.place in
    let item : get_or c.as_mut_slice.result.now c.place_on-place.result c.index-as_mut_slice-place.result ≡ get_or old (place_on old n) None =
    item_there c.as_mut_slice.result.now old c.place_on-place.result n c.index-as_mut_slice-place.result (c.as_mut_slice.ensures.value ∙ c.self.view_is) c.place_on-place.ensures.place c.place_on-place.ensures.inside in
    let same : (p : ℕ) → strokes_of held p ≡ strokes_of (get_or old (place_on old n) None) p = λ p. c.reserve_held.ensures.strokes p ∙ ap (λ h. strokes_of h p) item in
    subst (λ pages. IsWithin (held_strokes pages p)) (sym new)
    (subst IsWithin (sym (strokes-set old (place_on old n) held None (place_inside old n c.requires.there) same p))
    (subst (λ pages. IsWithin (held_strokes pages p)) c.self.view_is (c.self.invariant p)))
