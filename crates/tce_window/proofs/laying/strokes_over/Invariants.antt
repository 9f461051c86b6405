use Rattle.std.proofs.Common.{◌≡◌, ◌+◌, ◌++◌, length, drop}
use Rattle.tce_window.specs.Held.{held_len}
use Rattle.tce_window.specs.Moved.{piece_strokes}
use Rattle.tce_window.proofs.laying.strokes_over.Given as goal

abbrev pub invariant-loop-piece : goal.invariant-loop-piece
invariant-loop-piece l = record {
  within : l.done + held_len (drop l.piece-index l.pieces) ≡ length l.bytes;
  strokes : l.strokes.items ++ piece_strokes l.name (drop l.done l.bytes) (drop l.piece-index l.pieces) ≡ piece_strokes l.name l.bytes l.pieces;
}
