-- Each step copies the bytes of the next piece.
use Rattle.std.proofs.Common.{◌≡◌, ◌+◌, ◌<◌, ◌∙◌, length, get_or, drop, ap, sym, subst, rules}
use Rattle.tce_window.specs.declared.piece.Piece.{Piece}
use Rattle.tce_window.specs.Held.{held_len, piece_bytes}
use Rattle.tce_window.proofs.Reading.{len_more, read_more}
use Rattle.tce_window.proofs.held.read_pieces.Goals as goal

pub loop-piece-preserved : goal.loop-piece-preserved
loop-piece-preserved c =
    let d : Piece = c.piece-item.result in
    let less : c.loop-piece.piece-index < length c.args.pieces.now = search rules in
    let pieces = c.args.pieces.now in
    let i = c.loop-piece.piece-index in
    let item : d ≡ get_or pieces i d = search rules in
    let done = c.loop-piece.done in
    record {
      same = search rules;
      within =
          subst (λ (piece : Piece). done + piece.len + held_len (drop (i + 1) pieces) ≡ length c.args.out.now) (sym item)
          (len_more pieces i done d (length c.args.out.now) less c.loop-piece.invariant.within);
      bytes = read_more c.args.pages.now pieces c.loop-piece.out c.read_piece.new.out i done _ _ d less c.loop-piece.invariant.bytes (c.read_piece.ensures ∙ ap (piece_bytes c.args.pages.now) item) (search rules) (search rules);
    }
