-- The text grows by the lines of the pieces before the present one.
use Rattle.std.proofs.Common.{◌≡◌, ◌++◌, take}
use Rattle.std.specs.Prelude.{flat_map}
use Rattle.vio_trace.specs.Text.{piece_text}
use Rattle.vio_trace.proofs.window_lines.put_pieces.Given as goal

abbrev pub invariant-loop-piece : goal.invariant-loop-piece
invariant-loop-piece l = l.buffer.items ≡ l.initial.buffer.items ++ flat_map (piece_text l.word) (take l.piece-index l.pieces)
