-- The bytes of one name are read on the pages in the hand, and the pages are given back.
use Rattle.std.proofs.Common.{◌≡◌, ◌<◌, ◌+◌, ℕ, All, List, length, slice_index, subst, sym, ap, ◌∙◌}
use Rattle.std.specs.Prelude.{IfErr, OnOk}
use Rattle.tce_window.specs.declared.piece.Piece.{Piece}
use Rattle.tce_window.specs.Named.{AreFresh}
use Rattle.tce_window.specs.Pieces.{on_page}
use Rattle.tce_window.specs.Region.{touches, first_page, end_page, region_byte}
use Rattle.tce_window.specs.Window.{strokes_at}
use Rattle.shared_window.specs.Reading.{IsStaleIn}
use Rattle.shared_window.specs.SharedWindow.{WindowSeatValue}
use Rattle.shared_window.proofs.NamedHand.{named_own, named_fresh, named_stale}
use Rattle.shared_window.proofs.ReadingHand.{taken_there, taken_within}
use Rattle.shared_window.proofs.Taking.{in_hand}
use Rattle.shared_window.proofs.window.Window.read_named_range.Goals as goal

pub give_taken-requires-clause-hand : goal.give_taken-requires-clause-hand
give_taken-requires-clause-hand c =
    let t = c.in-Ok.ensures.ok in
    in_hand c.args.self.now.pages c.args.seat.now.pages c.take_range.new.seat.pages (touches c.args.at (length c.args.out.now)) c.take_range.new.seat.region t.takes

pub give_taken-requires-clause-there : goal.give_taken-requires-clause-there
give_taken-requires-clause-there c p =
    let pieces : List Piece = c.in-Ok.pieces.items in
    taken_there c.args.self.now c.args.seat.now c.take_range.new.seat c.args.at (length c.args.out.now) pieces c.in-Ok.ensures.ok p ∙ ap (λ l. on_page l p) (sym c.as_slice.ensures.value)

pub give_taken-requires-clause-within : goal.give_taken-requires-clause-within
give_taken-requires-clause-within c =
    let pieces : List Piece = c.in-Ok.pieces.items in
    subst (All (λ piece. piece.page < c.args.self.now.pages.count)) (sym c.as_slice.ensures.value)
    (taken_within c.args.self.now c.args.seat.now c.take_range.new.seat c.args.at (length c.args.out.now) pieces c.in-Ok.ensures.ok)

pub returns-clause-ok : goal.returns-clause-ok
returns-clause-ok c =
    let pieces : List Piece = c.in-Ok.pieces.items in
    let mid : WindowSeatValue = c.take_range.new.seat in
    let answer = c.read_fresh-answer.ensures in
    let rest = c.give_taken.ensures.rest in
    let bytes = subst (λ (s : WindowSeatValue). OnOk c.read_fresh-answer.result ((k : ℕ) → k < length c.read_fresh-answer.new.out → slice_index c.read_fresh-answer.new.out k ≡ region_byte (strokes_at s.region) (c.args.at + k))) c.seat.view_is answer.bytes in
    named_own c.args.self.now c.args.seat.now mid c.args.at (length c.args.out.now) pieces c.in-Ok.ensures.ok c.give_taken.new.seat c.requires.at c.give_taken.ensures.given c.give_taken.ensures.empty
    (ap (λ (s : WindowSeatValue). s.entries) rest) (ap (λ (s : WindowSeatValue). s.in_use) rest) c.args.name c.read_fresh-answer.result c.read_fresh-answer.new.out answer.len bytes

pub returns-clause-fresh : goal.returns-clause-fresh
returns-clause-fresh c =
    let pieces : List Piece = c.in-Ok.pieces.items in
    let mid : WindowSeatValue = c.take_range.new.seat in
    let answer = c.read_fresh-answer.ensures in
    let rest = c.give_taken.ensures.rest in
    let fresh = subst (λ (s : WindowSeatValue). OnOk c.read_fresh-answer.result (AreFresh c.args.name c.args.at (length c.args.out.now) (strokes_at s.region) (first_page c.args.at) (end_page c.args.at (length c.args.out.now)))) c.seat.view_is answer.fresh in
    named_fresh c.args.self.now c.args.seat.now mid c.args.at (length c.args.out.now) pieces c.in-Ok.ensures.ok c.give_taken.new.seat c.requires.at c.give_taken.ensures.given c.give_taken.ensures.empty
    (ap (λ (s : WindowSeatValue). s.entries) rest) (ap (λ (s : WindowSeatValue). s.in_use) rest) c.args.name c.read_fresh-answer.result fresh

pub returns-clause-err : goal.returns-clause-err
returns-clause-err c =
    let pieces : List Piece = c.in-Ok.pieces.items in
    let mid : WindowSeatValue = c.take_range.new.seat in
    let answer = c.read_fresh-answer.ensures in
    let rest = c.give_taken.ensures.rest in
    let stale = subst (λ (s : WindowSeatValue). IfErr c.read_fresh-answer.result (IsStaleIn c.args.name c.args.at (length c.args.out.now) (strokes_at s.region))) c.seat.view_is answer.stale in
    named_stale c.args.self.now c.args.seat.now mid c.args.at (length c.args.out.now) pieces c.in-Ok.ensures.ok c.give_taken.new.seat c.requires.at c.give_taken.ensures.given c.give_taken.ensures.empty
    (ap (λ (s : WindowSeatValue). s.entries) rest) (ap (λ (s : WindowSeatValue). s.in_use) rest) c.args.name c.read_fresh-answer.result stale
