use Rattle.std.proofs.Common.{◌≡◌, length, map, take}
use Rattle.tce_window.specs.Moved.{unplaced}
use Rattle.shared_window.proofs.placing.unplaced_pieces.Given as goal

abbrev pub invariant-loop-piece : goal.invariant-loop-piece
invariant-loop-piece l = record {
  count : length l.list.items ≡ l.piece-index;
  rest : l.list.items ≡ map unplaced (take l.piece-index l.pieces);
}
