-- The strokes of the pieces are those of a write on each page that the range touches.
use Rattle.std.proofs.Common.{◌≡◌, ℕ, ◌+◌, ◌*◌, ◌/◌, ◌<◌, ◌≤◌, ◌∙◌, IsSome, length, sym, ap, ap₂, arith, rules}
use Rattle.tce_window.specs.Moved.{piece_strokes, strokes_on}
use Rattle.tce_window.specs.Strokes.{with_strokes}
use Rattle.tce_window.specs.Window.{strokes_at}
use Rattle.tce_window.proofs.Gathering.{on_ok_map}
use Rattle.tce_window.proofs.Growing.{length-piece_strokes}
use Rattle.tce_window.proofs.Overlaying.{over_len, over_there, over_written}
use Rattle.tce_window.proofs.region.Region.write.Goals as goal

pub strokes_over-requires : goal.strokes_over-requires
strokes_over-requires c =
    let pieces = c.pieces_over-pieces.result.items in
    let lent : c.deref.result.now ≡ pieces = search rules in
    let size = over_len c.args.at (c.args.at + length c.args.bytes.now) pieces c.pieces_over-pieces.ensures in
    rw lent (omega (arith, size))

pub lay-requires-clause-there : goal.lay-requires-clause-there
lay-requires-clause-there c =
    let pieces = c.pieces_over-pieces.result.items in
    let end : ℕ = c.args.at + length c.args.bytes.now in
    let there : (p : ℕ) → c.args.at / 4096 ≤ p → p * 4096 < end → IsSome (strokes_at c.args.self.now p) = λ p low high. c.requires.there p low (omega (arith, high)) in
    rw c.as_mut_slice.ensures.value (over_there (strokes_at c.args.self.now) c.args.at end pieces c.pieces_over-pieces.ensures there)

pub lay-requires-clause-count : goal.lay-requires-clause-count
lay-requires-clause-count c =
    let pieces = c.pieces_over-pieces.result.items in
    let told : c.in_ok-strokes.strokes.items ≡ piece_strokes c.args.name c.args.bytes.now pieces = search rules in
    ap length told ∙ length-piece_strokes c.args.name c.args.bytes.now pieces ∙ sym (ap length c.as_mut_slice.ensures.value)

pub returns-clause-strokes : goal.returns-clause-strokes
returns-clause-strokes c =
    let pieces = c.pieces_over-pieces.result.items in
    let told : c.in_ok-strokes.strokes.items ≡ piece_strokes c.args.name c.args.bytes.now pieces = search rules in
    on_ok_map c.lay.result _ _
    (λ laid p. laid p
    ∙ ap₂ (λ ps ss. with_strokes (strokes_at c.args.self.now p) (strokes_on p ps ss)) c.as_mut_slice.ensures.value told
    ∙ over_written c.args.name c.args.at c.args.bytes.now pieces p (strokes_at c.args.self.now p) c.pieces_over-pieces.ensures c.requires.some)
    c.lay.ensures.strokes
