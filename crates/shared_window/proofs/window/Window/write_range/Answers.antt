-- The bytes are written on the pages in the hand, if there is memory, and the pages are given back.
use Rattle.std.proofs.Common.{rules, ◌≡◌, ℕ, ◌<◌, All, List, length, subst, sym, ap, ◌∙◌}
use Rattle.std.specs.Prelude.{Err}
use Rattle.tce_window.specs.declared.answers.OwnFault.TheVariants.{NoMemory}
use Rattle.tce_window.specs.declared.piece.Piece.{Piece}
use Rattle.tce_window.specs.Pieces.{on_page}
use Rattle.tce_window.specs.Region.{written}
use Rattle.tce_window.specs.Window.{strokes_at}
use Rattle.shared_window.specs.Reading.{TakesRange}
use Rattle.shared_window.specs.SharedWindow.{SharedWindowValue, WindowSeatValue}
use Rattle.shared_window.proofs.ReadingHand.{taken_within}
use Rattle.shared_window.proofs.WritingHand.{after_write, written_in_hand, written_there, lacks_memory, writes_own}
use Rattle.shared_window.proofs.window.Window.write_range.Goals as goal

pub give_taken-requires-clause-hand : goal.give_taken-requires-clause-hand
give_taken-requires-clause-hand c =
    let pieces : List Piece = c.in_ok-pieces.pieces.items in
    let mid : WindowSeatValue = record { pages = c.seat.inside.pages; entries = c.seat.inside.entries; region = c.seat.inside.region; in_use = c.seat.inside.in_use } in
    let t : TakesRange c.args.self.now c.args.seat.now c.args.at (length c.args.bytes.now) pieces mid = subst (TakesRange c.args.self.now c.args.seat.now c.args.at (length c.args.bytes.now) pieces) (sym c.seat.view_is) c.in_ok-pieces.ensures.ok in
    let e = c.write-answer.ensures in
    written_in_hand c.args.self.now c.args.seat.now mid c.args.at (length c.args.bytes.now) pieces t c.write-answer.new.self e.size
    (after_write c.write-answer.result (record { who = c.self.inside.unit; mark = c.args.mark }) c.args.at c.args.bytes.now mid.region c.write-answer.new.self e.strokes e.err)

pub give_taken-requires-clause-there : goal.give_taken-requires-clause-there
give_taken-requires-clause-there c p =
    let pieces : List Piece = c.in_ok-pieces.pieces.items in
    let mid : WindowSeatValue = record { pages = c.seat.inside.pages; entries = c.seat.inside.entries; region = c.seat.inside.region; in_use = c.seat.inside.in_use } in
    let t : TakesRange c.args.self.now c.args.seat.now c.args.at (length c.args.bytes.now) pieces mid = subst (TakesRange c.args.self.now c.args.seat.now c.args.at (length c.args.bytes.now) pieces) (sym c.seat.view_is) c.in_ok-pieces.ensures.ok in
    let e = c.write-answer.ensures in
    written_there c.args.self.now c.args.seat.now mid c.args.at (length c.args.bytes.now) pieces t c.write-answer.new.self e.size
    (after_write c.write-answer.result (record { who = c.self.inside.unit; mark = c.args.mark }) c.args.at c.args.bytes.now mid.region c.write-answer.new.self e.strokes e.err) p
    ∙ ap (λ l. on_page l p) (sym c.as_slice.ensures.value)

pub give_taken-requires-clause-within : goal.give_taken-requires-clause-within
give_taken-requires-clause-within c =
    let pieces : List Piece = c.in_ok-pieces.pieces.items in
    subst (All (λ piece. piece.page < c.args.self.now.pages.count)) (sym c.as_slice.ensures.value)
    (taken_within c.args.self.now c.args.seat.now c.take_range.new.seat c.args.at _ pieces c.in_ok-pieces.ensures.ok)

pub returns-in_err-answer-clause-err : goal.returns-in_err-answer-clause-err
returns-in_err-answer-clause-err c =
    let pieces : List Piece = c.in_ok-pieces.pieces.items in
    let mid : WindowSeatValue = record { pages = c.seat.inside.pages; entries = c.seat.inside.entries; region = c.seat.inside.region; in_use = c.seat.inside.in_use } in
    let t : TakesRange c.args.self.now c.args.seat.now c.args.at (length c.args.bytes.now) pieces mid = subst (TakesRange c.args.self.now c.args.seat.now c.args.at (length c.args.bytes.now) pieces) (sym c.seat.view_is) c.in_ok-pieces.ensures.ok in
    let rest = c.give_taken.ensures.rest in
    let lacks = lacks_memory c.args.self.now c.args.seat.now mid c.give_taken.new.seat c.args.at (length c.args.bytes.now) pieces t c.requires.at c.write-answer.new.self c.in_err-answer.ensures.err
    c.give_taken.ensures.given c.give_taken.ensures.empty (ap (λ (s : WindowSeatValue). s.entries) rest) (ap (λ (s : WindowSeatValue). s.in_use) rest) in
    let same : c.from_residual-in_err-answer.result ≡ Err NoMemory = search rules in
    rw same lacks

pub returns-clause-ok : goal.returns-clause-ok
returns-clause-ok c =
    let pieces : List Piece = c.in_ok-pieces.pieces.items in
    let mid : WindowSeatValue = record { pages = c.seat.inside.pages; entries = c.seat.inside.entries; region = c.seat.inside.region; in_use = c.seat.inside.in_use } in
    let t : TakesRange c.args.self.now c.args.seat.now c.args.at (length c.args.bytes.now) pieces mid = subst (TakesRange c.args.self.now c.args.seat.now c.args.at (length c.args.bytes.now) pieces) (sym c.seat.view_is) c.in_ok-pieces.ensures.ok in
    let rest = c.give_taken.ensures.rest in
    let wrote : (p : ℕ) → strokes_at c.write-answer.new.self p ≡ written (record { who = c.args.self.now.unit; mark = c.args.mark }) c.args.at c.args.bytes.now p (strokes_at mid.region p) =
    λ p. c.in_ok-answer.ensures.strokes p ∙ ap (λ (z : SharedWindowValue). written (record { who = z.unit; mark = c.args.mark }) c.args.at c.args.bytes.now p (strokes_at mid.region p)) c.self.view_is in
    writes_own c.args.self.now c.args.seat.now mid c.give_taken.new.seat c.args.at c.args.bytes.now c.args.mark pieces t c.requires.at c.write-answer.new.self wrote
    c.give_taken.ensures.given c.give_taken.ensures.empty (ap (λ (s : WindowSeatValue). s.entries) rest) (ap (λ (s : WindowSeatValue). s.in_use) rest)
