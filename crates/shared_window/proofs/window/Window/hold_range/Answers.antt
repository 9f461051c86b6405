-- A range is held where its entries are pinned and its pages taken.
use Rattle.std.proofs.Common.{rules, ◌≡◌, ◌<◌, All, List, Option, Err, length, map, subst, sym, ap, ◌∙◌, refl}
use Rattle.page_slots.specs.Page.{PageValue}
use Rattle.tce_window.specs.declared.piece.Piece.{Piece}
use Rattle.tce_window.specs.Moved.{unplaced}
use Rattle.tce_window.specs.Held.{HeldValue}
use Rattle.vio_num.specs.Counts.{Rose}
use Rattle.tce_window.specs.declared.answers.HoldFault.TheVariants.{InUse}
use Rattle.shared_window.specs.Hand.{FindsOneInUse}
use Rattle.shared_window.specs.Pinning.{Releases}
use Rattle.shared_window.specs.Ranges.{HoldsRange, RefusesHold}
use Rattle.shared_window.specs.SharedWindow.{SharedWindowValue, WindowSeatValue, IsSeatAt}
use Rattle.shared_window.proofs.HeldRanges.{taken_of, to_range, to_at, some_bytes, pages_below}
use Rattle.shared_window.proofs.Refusals.{refuses_use, refuses_entry}
use Rattle.shared_window.proofs.window.Window.hold_range.Goals as goal

pub take-pages-requires-clause-inside : goal.take-pages-requires-clause-inside
take-pages-requires-clause-inside c =
    let pieces : List Piece = c.in_ok-pieces.pieces.items in
    let placed : List Piece = c.place_pieces-placed.result.items in
    let same : map unplaced placed ≡ map unplaced pieces = c.place_pieces-placed.ensures.rest ∙ ap (map unplaced) c.as_slice-in-Ok.ensures.value in
    let size : c.self.inside.entries.count ≡ length c.take_pages.new.region = c.self.invariant.size ∙ sym c.in-Ok.ensures.ok.size in
    subst (All (λ piece. piece.page < length c.take_pages.new.region)) (sym c.as_slice-in-Ok-2.ensures.value)
    (pages_below (length c.take_pages.new.region) pieces placed same (subst (λ n. All (λ piece. piece.page < n) pieces) size c.in_ok-pieces.ensures.ok.pages))

pub of_pages-requires-clause-some : goal.of_pages-requires-clause-some
of_pages-requires-clause-some c =
    let pieces : List Piece = c.in_ok-pieces.pieces.items in
    let placed : List Piece = c.place_pieces-placed.result.items in
    some_bytes _ _ _ pieces placed c.in_ok-pieces.ensures.ok.touched (c.place_pieces-placed.ensures.rest ∙ ap (map unplaced) c.as_slice-in-Ok.ensures.value)

pub returns-in-Ok-clause-at : goal.returns-in-Ok-clause-at
returns-in-Ok-clause-at c =
    let placed : List Piece = c.place_pieces-placed.result.items in
    let region : List (Option PageValue) = c.take_pages.new.region in
    let w : SharedWindowValue = record { unit = c.self.inside.unit; pages = c.self.inside.pages; entries = c.self.inside.entries } in
    let old : WindowSeatValue = record { pages = c.seat.inside.pages; entries = c.seat.inside.entries; region = c.seat.inside.region; in_use = c.seat.inside.in_use } in
    let new : WindowSeatValue = record { pages = c.take_pages.new.seat; entries = c.pin_range.new.seat; region = c.take-pages.new.self; in_use = c.seat.inside.in_use } in
    let t = taken_of w old new c.args.ioba c.args.len c.args.right c.in_ok-pieces.pieces.items placed c.as_slice.result.now c.as_slice-in-Ok-2.result.now region c.take-pages.result c.args.self.now c.args.seat.now c.self.view_is c.seat.view_is c.as_slice.ensures.value c.as_slice-in-Ok-2.ensures.value
    c.requires.at c.requires.free c.self.invariant.size c.in_ok-pieces.ensures.ok c.in-Ok.ensures.ok c.place_pieces-placed.ensures.strokes (c.place_pieces-placed.ensures.rest ∙ ap (map unplaced) c.as_slice-in-Ok.ensures.value)
    c.take-pages.ensures.taken c.take-pages.ensures.away c.take-pages.ensures.size refl in
    subst (λ (z : SharedWindowValue). IsSeatAt z new) c.self.view_is (to_at w old new c.args.ioba c.args.len c.args.right c.in_ok-pieces.pieces.items placed region c.take-pages.result t)

pub returns-in-Ok-clause-ok : goal.returns-in-Ok-clause-ok
returns-in-Ok-clause-ok c =
    let placed : List Piece = c.place_pieces-placed.result.items in
    let region : List (Option PageValue) = c.take_pages.new.region in
    let w : SharedWindowValue = record { unit = c.self.inside.unit; pages = c.self.inside.pages; entries = c.self.inside.entries } in
    let old : WindowSeatValue = record { pages = c.seat.inside.pages; entries = c.seat.inside.entries; region = c.seat.inside.region; in_use = c.seat.inside.in_use } in
    let new : WindowSeatValue = record { pages = c.take_pages.new.seat; entries = c.pin_range.new.seat; region = c.take-pages.new.self; in_use = c.seat.inside.in_use } in
    let t = taken_of w old new c.args.ioba c.args.len c.args.right c.in_ok-pieces.pieces.items placed c.as_slice.result.now c.as_slice-in-Ok-2.result.now region c.take-pages.result c.args.self.now c.args.seat.now c.self.view_is c.seat.view_is c.as_slice.ensures.value c.as_slice-in-Ok-2.ensures.value
    c.requires.at c.requires.free c.self.invariant.size c.in_ok-pieces.ensures.ok c.in-Ok.ensures.ok c.place_pieces-placed.ensures.strokes (c.place_pieces-placed.ensures.rest ∙ ap (map unplaced) c.as_slice-in-Ok.ensures.value)
    c.take-pages.ensures.taken c.take-pages.ensures.away c.take-pages.ensures.size refl in
    subst (λ (held : HeldValue). HoldsRange c.args.self.now c.args.seat.now c.args.ioba c.args.len c.args.right new held) (sym c.of_pages.ensures)
    (subst (λ (z : SharedWindowValue × WindowSeatValue). HoldsRange z.0 z.1 c.args.ioba c.args.len c.args.right new (record { right = c.args.right; pieces = placed; pages = c.take-pages.result })) (λ i. (c.self.view_is i, c.seat.view_is i))
    (to_range w old new c.args.ioba c.args.len c.args.right c.in_ok-pieces.pieces.items placed region c.take-pages.result t))

pub returns-in-Err-clause-err : goal.returns-in-Err-clause-err
returns-in-Err-clause-err c =
    let pieces : List Piece = c.in_ok-pieces.pieces.items in
    let region : List (Option PageValue) = c.take_pages.new.region in
    let w : SharedWindowValue = record { unit = c.self.inside.unit; pages = c.self.inside.pages; entries = c.self.inside.entries } in
    let old : WindowSeatValue = record { pages = c.seat.inside.pages; entries = c.seat.inside.entries; region = c.seat.inside.region; in_use = c.seat.inside.in_use } in
    let new : WindowSeatValue = record { pages = c.take_pages.new.seat; entries = c.unpin_all.new.seat; region = region; in_use = c.saturating_add-seat-inside.result } in
    let found = c.in-Err.field-0 in
    let finds : FindsOneInUse w.pages old.pages pieces found new.pages region = subst (λ l. FindsOneInUse w.pages old.pages l found new.pages region) c.as_slice.ensures.value c.in-Err.ensures.err in
    let count : c.len.result ≡ length pieces = search rules in
    let rel : Releases c.pin_range.new.seat (length pieces) new.entries = subst (λ k. Releases c.pin_range.new.seat k new.entries) count c.unpin_all.ensures in
    let rose : Rose old.in_use new.in_use = search rules in
    subst (λ (z : SharedWindowValue × WindowSeatValue). RefusesHold z.0 z.1 c.args.ioba c.args.len c.args.right new (InUse c.in-Err.field-0.page c.in-Err.field-0.word)) (λ i. (c.self.view_is i, c.seat.view_is i))
    (refuses_use w old new c.pin_range.new.seat c.args.ioba c.args.len c.args.right pieces found region c.self.invariant.size c.in_ok-pieces.ensures.ok finds rel rose)

pub returns-in_err-pieces-clause-err : goal.returns-in_err-pieces-clause-err
returns-in_err-pieces-clause-err c =
    let same : c.from_residual.result ≡ Err c.in_err-pieces.field-0.0 = search rules in
    let w : SharedWindowValue = record { unit = c.self.inside.unit; pages = c.self.inside.pages; entries = c.self.inside.entries } in
    let new : WindowSeatValue = record { pages = c.seat.inside.pages; entries = c.pin_range.new.seat; region = c.seat.inside.region; in_use = c.seat.inside.in_use } in
    rw same
    (subst (λ (z : SharedWindowValue × WindowSeatValue). RefusesHold z.0 z.1 c.args.ioba c.args.len c.args.right new c.in_err-pieces.field-0.0) (λ i. (c.self.view_is i, c.seat.view_is i))
    (refuses_entry w c.seat.inside.pages c.seat.inside.entries c.pin_range.new.seat c.seat.inside.region c.seat.inside.in_use c.args.ioba c.args.len c.args.right c.in_err-pieces.field-0.0 c.self.invariant.size c.in_err-pieces.ensures.err))
