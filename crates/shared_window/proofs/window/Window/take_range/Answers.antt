-- The pages of a range inside the region are taken, or one is in use.
use Rattle.std.proofs.Common.{◌≡◌, ◌+◌, ◌<◌, All, List, true, length, subst, sym, ap, ◌∙◌, refl, arith}
use Rattle.vio_num.specs.Counts.{risen}
use Rattle.tce_window.specs.declared.piece.Piece.{Piece}
use Rattle.tce_window.specs.Pieces.{on_page}
use Rattle.tce_window.specs.Region.{in_region}
use Rattle.shared_window.specs.Hand.{TakesPages, FindsOneInUse}
use Rattle.shared_window.specs.Reading.{TakesRange, FindsPage}
use Rattle.shared_window.specs.SharedWindow.{SharedWindowValue, WindowSeatValue, IsSeatAt}
use Rattle.shared_window.proofs.ReadingHand.{end_in, takes_range, finds_page}
use Rattle.shared_window.proofs.ReadingOver.{over_inside}
use Rattle.shared_window.proofs.window.Window.take_range.Goals as goal

pub pieces_over-pieces-requires-clause-near : goal.pieces_over-pieces-requires-clause-near
pieces_over-pieces-requires-clause-near c =
    let end = end_in (length c.seat.inside.region) c.args.at c.args.len (sym c.if-not-contains.ensures.inside) in
    let size = c.size-size.ensures.size in
    let most = c.size-size.ensures.most in
    omega (arith, end, size, most)

pub take_pages-requires-clause-within : goal.take_pages-requires-clause-within
take_pages-requires-clause-within c =
    let pieces : List Piece = c.pieces_over-pieces.result.items in
    let w : SharedWindowValue = record { unit = c.self.inside.unit; pages = c.self.inside.pages; entries = c.self.inside.entries } in
    let old : WindowSeatValue = record { pages = c.seat.inside.pages; entries = c.seat.inside.entries; region = c.seat.inside.region; in_use = c.seat.inside.in_use } in
    let at : IsSeatAt w old = subst (λ (z : SharedWindowValue × WindowSeatValue). IsSeatAt z.0 z.1) (λ i. (sym c.self.view_is i, sym c.seat.view_is i)) c.requires.at in
    let end = end_in (length c.seat.inside.region) c.args.at c.args.len (sym c.if-not-contains.ensures.inside) in
    let size = at.empty.size in
    subst (All (λ piece. piece.page < w.pages.count)) (sym c.as_slice.ensures.value)
    (over_inside w.pages.count c.args.at (c.args.at + c.args.len) pieces c.pieces_over-pieces.ensures (omega (arith, end, size)))

pub returns-in-Ok-clause-ok : goal.returns-in-Ok-clause-ok
returns-in-Ok-clause-ok c =
    let pieces : List Piece = c.pieces_over-pieces.result.items in
    let w : SharedWindowValue = record { unit = c.self.inside.unit; pages = c.self.inside.pages; entries = c.self.inside.entries } in
    let old : WindowSeatValue = record { pages = c.seat.inside.pages; entries = c.seat.inside.entries; region = c.seat.inside.region; in_use = c.seat.inside.in_use } in
    let new : WindowSeatValue = record { pages = c.take_pages.new.seat; entries = c.seat.inside.entries; region = c.take_pages.new.region; in_use = c.seat.inside.in_use } in
    let at : IsSeatAt w old = subst (λ (z : SharedWindowValue × WindowSeatValue). IsSeatAt z.0 z.1) (λ i. (sym c.self.view_is i, sym c.seat.view_is i)) c.requires.at in
    let inside : in_region w.pages.count c.args.at c.args.len ≡ true = ap (λ n. in_region n c.args.at c.args.len) (sym at.empty.size) ∙ sym c.if-not-contains.ensures.inside in
    let end = end_in (length c.seat.inside.region) c.args.at c.args.len (sym c.if-not-contains.ensures.inside) in
    let size = c.size-size.ensures.size in
    let most = c.size-size.ensures.most in
    let took : TakesPages w.pages old.pages (on_page pieces) new.pages new.region = subst (λ l. TakesPages w.pages old.pages (on_page l) new.pages new.region) c.as_slice.ensures.value c.in-Ok.ensures.ok in
    subst (λ (z : SharedWindowValue × WindowSeatValue). TakesRange z.0 z.1 c.args.at c.args.len pieces new) (λ i. (c.self.view_is i, c.seat.view_is i))
    (takes_range w old new c.args.at c.args.len pieces inside (omega (arith, end, size, most)) c.pieces_over-pieces.ensures took refl refl)

pub returns-in-Err-clause-err : goal.returns-in-Err-clause-err
returns-in-Err-clause-err c =
    let pieces : List Piece = c.pieces_over-pieces.result.items in
    let w : SharedWindowValue = record { unit = c.self.inside.unit; pages = c.self.inside.pages; entries = c.self.inside.entries } in
    let old : WindowSeatValue = record { pages = c.seat.inside.pages; entries = c.seat.inside.entries; region = c.seat.inside.region; in_use = c.seat.inside.in_use } in
    let new : WindowSeatValue = record { pages = c.take_pages.new.seat; entries = c.seat.inside.entries; region = c.take_pages.new.region; in_use = c.one_more-seat-inside.result } in
    let at : IsSeatAt w old = subst (λ (z : SharedWindowValue × WindowSeatValue). IsSeatAt z.0 z.1) (λ i. (sym c.self.view_is i, sym c.seat.view_is i)) c.requires.at in
    let inside : in_region w.pages.count c.args.at c.args.len ≡ true = ap (λ n. in_region n c.args.at c.args.len) (sym at.empty.size) ∙ sym c.if-not-contains.ensures.inside in
    let found = c.in-Err.field-0 in
    let finds : FindsOneInUse w.pages old.pages pieces found new.pages new.region = subst (λ l. FindsOneInUse w.pages old.pages l found new.pages new.region) c.as_slice.ensures.value c.in-Err.ensures.err in
    let rose : new.in_use ≡ risen old.in_use = c.one_more-seat-inside.ensures in
    subst (λ (z : SharedWindowValue × WindowSeatValue). FindsPage z.0 z.1 c.args.at c.args.len new found.page found.word) (λ i. (c.self.view_is i, c.seat.view_is i))
    (finds_page w old new c.args.at c.args.len pieces found inside c.pieces_over-pieces.ensures finds refl rose)
