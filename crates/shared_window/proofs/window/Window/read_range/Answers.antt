-- The bytes of a range whose pages are in the hand are read, and the pages are given back.
use Rattle.std.proofs.Common.{◌≡◌, ℕ, ◌<◌, All, List, length, slice_index, ◌+◌, subst, sym, ap, ◌∙◌}
use Rattle.tce_window.specs.declared.piece.Piece.{Piece}
use Rattle.tce_window.specs.Pieces.{on_page}
use Rattle.tce_window.specs.Region.{touches, region_byte}
use Rattle.tce_window.specs.Window.{strokes_at}
use Rattle.shared_window.specs.SharedWindow.{WindowSeatValue}
use Rattle.shared_window.proofs.ReadingHand.{taken_there, taken_within, reads_own}
use Rattle.shared_window.proofs.Taking.{in_hand}
use Rattle.shared_window.proofs.window.Window.read_range.Goals as goal

pub give_taken-requires-clause-hand : goal.give_taken-requires-clause-hand
give_taken-requires-clause-hand c =
    let t = c.in_ok-pieces.ensures.ok in
    in_hand c.args.self.now.pages c.args.seat.now.pages c.take_range.new.seat.pages (touches c.args.at (length c.args.out.now)) c.take_range.new.seat.region t.takes

pub give_taken-requires-clause-there : goal.give_taken-requires-clause-there
give_taken-requires-clause-there c p =
    let pieces : List Piece = c.in_ok-pieces.pieces.items in
    taken_there c.args.self.now c.args.seat.now c.take_range.new.seat c.args.at _ pieces c.in_ok-pieces.ensures.ok p ∙ ap (λ l. on_page l p) (sym c.as_slice.ensures.value)

pub give_taken-requires-clause-within : goal.give_taken-requires-clause-within
give_taken-requires-clause-within c =
    let pieces : List Piece = c.in_ok-pieces.pieces.items in
    subst (All (λ piece. piece.page < c.args.self.now.pages.count)) (sym c.as_slice.ensures.value)
    (taken_within c.args.self.now c.args.seat.now c.take_range.new.seat c.args.at _ pieces c.in_ok-pieces.ensures.ok)

pub returns-clause-ok : goal.returns-clause-ok
returns-clause-ok c =
    let pieces : List Piece = c.in_ok-pieces.pieces.items in
    let rest = c.give_taken.ensures.rest in
    let bytes : (k : ℕ) → k < length c.read.new.out → slice_index c.read.new.out k ≡ region_byte (strokes_at c.take_range.new.seat.region) (c.args.at + k) =
    subst (λ n. (k : ℕ) → k < n → slice_index c.read.new.out k ≡ region_byte (strokes_at c.take_range.new.seat.region) (c.args.at + k)) (sym c.read.auto.out)
    (subst (λ (s : WindowSeatValue). (k : ℕ) → k < length c.args.out.now → slice_index c.read.new.out k ≡ region_byte (strokes_at s.region) (c.args.at + k)) c.seat.view_is c.read.ensures) in
    reads_own c.args.self.now c.args.seat.now c.take_range.new.seat c.args.at _ pieces c.in_ok-pieces.ensures.ok c.give_taken.new.seat c.requires.at c.give_taken.ensures.given c.give_taken.ensures.empty
    (ap (λ (s : WindowSeatValue). s.entries) rest) (ap (λ (s : WindowSeatValue). s.in_use) rest) c.read.new.out c.read.auto.out bytes
