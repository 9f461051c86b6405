use Rattle.std.proofs.Common.{◌≡◌, take, map}
use Rattle.lan_script.specs.Frames.{piece_row_of}
use Rattle.lan_script.proofs.frames.piece_rows.Given as goal

abbrev pub invariant-loop-piece : goal.invariant-loop-piece
invariant-loop-piece l = l.rows ≡ map piece_row_of (take l.piece-index l.pieces)
