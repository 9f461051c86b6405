use Rattle.std.proofs.Common.{◌≡◌, ◌+◌, ◌++◌, drop, take, length}
use Rattle.tce_window.specs.Held.{held_len, joined}
use Rattle.tce_window.proofs.held.read_pieces.Given as goal

abbrev pub invariant-loop-piece : goal.invariant-loop-piece
invariant-loop-piece l = record {
  same : length l.out ≡ length l.initial.out;
  within : l.done + held_len (drop l.piece-index l.pieces) ≡ length l.initial.out;
  bytes : take l.done l.out ++ joined l.pages (drop l.piece-index l.pieces) ≡ joined l.pages l.pieces;
}
