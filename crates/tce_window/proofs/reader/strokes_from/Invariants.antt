use Rattle.std.proofs.Common.{◌≡◌, ◌+◌, ◌++◌, length, drop}
use Rattle.tce_window.specs.Held.{held_len}
use Rattle.tce_window.specs.Moved.{piece_strokes}
use Rattle.tce_window.proofs.reader.strokes_from.Given as goal

abbrev pub invariant-loop-piece : goal.invariant-loop-piece
invariant-loop-piece l = record {
  left : l.reader.len ≡ held_len (drop l.piece-index l.pieces);
  read : length l.fn.reader.bytes + held_len (drop l.piece-index l.pieces) ≡ held_len l.pieces + length l.reader.bytes;
  strokes : l.strokes.items ++ piece_strokes l.name l.reader.bytes (drop l.piece-index l.pieces) ≡ piece_strokes l.name l.fn.reader.bytes l.pieces;
}
