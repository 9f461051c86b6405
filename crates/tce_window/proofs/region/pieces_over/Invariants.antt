use Rattle.std.proofs.Common.{◌≡◌, ◌+◌, ◌-◌, ◌/◌, ◌%◌, ◌<◌, ◌≤◌, List, ◌++◌, length}
use Rattle.tce_window.specs.declared.piece.Piece.{Piece}
use Rattle.tce_window.specs.Laying.{LieOver}
use Rattle.tce_window.proofs.region.pieces_over.Given as goal

abbrev pub decreases-loop-done : goal.decreases-loop-done
decreases-loop-done l = l.len - l.done

abbrev pub invariant-loop-done : goal.invariant-loop-done
invariant-loop-done l = record {
  within : l.done ≤ l.len;
  aligned : 0 < l.done → l.done < l.len → (l.at + l.done) % 4096 ≡ 0;
  count : l.done < l.len → l.at / 4096 + length l.pieces.items ≡ (l.at + l.done) / 4096;
  over : (rest : List Piece) → LieOver (l.at + l.done) (l.at + l.len) rest → LieOver l.at (l.at + l.len) (l.pieces.items ++ rest);
}
