-- There is a stroke for each piece, and a byte for each that is held.
use Rattle.std.proofs.Common.{◌≡◌, ℕ, ◌∙◌, ◌≤◌, List, OnOk, length, ap, subst, rules, arith}
use Rattle.page_slots.specs.Stroke.{StrokeValue}
use Rattle.tce_window.specs.Held.{held_strokes, held_len, joined}
use Rattle.tce_window.specs.Moved.{piece_strokes, strokes_on}
use Rattle.tce_window.proofs.Gathering.{joined_at_most, on_ok}
use Rattle.tce_window.specs.Strokes.{with_strokes}
use Rattle.tce_window.proofs.Growing.{length-piece_strokes}
use Rattle.tce_window.proofs.held.Held.copy_from.Goals as goal

pub lay-requires : goal.lay-requires
lay-requires c =
    let told : c.in_ok-strokes.strokes.items ≡ piece_strokes c.args.name (joined c.args.source.now.pages c.args.source.now.pieces) c.args.self.now.pieces = search rules in
    record { count = ap length told ∙ length-piece_strokes c.args.name (joined c.args.source.now.pages c.args.source.now.pieces) c.args.self.now.pieces }

pub returns-clause-strokes : goal.returns-clause-strokes
returns-clause-strokes c =
    let told : c.in_ok-strokes.strokes.items ≡ piece_strokes c.args.name (joined c.args.source.now.pages c.args.source.now.pieces) c.args.self.now.pieces = search rules in
    subst (λ (strokes : List StrokeValue). OnOk c.lay.result ((p : ℕ) → held_strokes c.lay.new.self.pages p ≡ with_strokes (held_strokes c.args.self.now.pages p) (strokes_on p c.args.self.now.pieces strokes)))
    told c.lay.ensures.strokes

pub returns-clause-bytes : goal.returns-clause-bytes
returns-clause-bytes c =
    let pages = c.args.source.now.pages in
    let pieces = c.args.source.now.pieces in
    let least : held_len c.args.self.now.pieces ≤ length (joined pages pieces) = search rules in
    on_ok c.lay.result (length (joined pages pieces) ≡ held_len pieces)
    (omega (arith, least, joined_at_most pages pieces, c.requires.len))
