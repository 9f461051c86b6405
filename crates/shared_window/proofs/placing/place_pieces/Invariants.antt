use Rattle.std.proofs.Common.{◌≡◌, All, length, map, take}
use Rattle.tce_window.specs.Moved.{unplaced}
use Rattle.tce_window.specs.Pieces.{HasStrokes}
use Rattle.tce_window.specs.Window.{strokes_at}
use Rattle.shared_window.proofs.placing.place_pieces.Given as goal

abbrev pub invariant-loop-piece : goal.invariant-loop-piece
invariant-loop-piece l = record {
  count : length l.list.items ≡ l.piece-index;
  strokes : All (λ piece. HasStrokes piece (strokes_at l.region piece.page)) l.list.items;
  rest : map unplaced l.list.items ≡ map unplaced (take l.piece-index l.pieces);
}
