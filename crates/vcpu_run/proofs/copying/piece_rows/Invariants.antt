use Rattle.std.proofs.Common.{◌≡◌, map, take}
use Rattle.vcpu_run.specs.CopyRows.{piece_row}
use Rattle.vcpu_run.proofs.copying.piece_rows.Given as goal

abbrev pub invariant-loop-piece : goal.invariant-loop-piece
invariant-loop-piece l = l.rows ≡ map piece_row (take l.piece-index l.pieces)
