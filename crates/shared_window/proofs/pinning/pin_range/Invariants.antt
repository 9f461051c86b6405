use Rattle.std.proofs.Common.{◌≡◌, ℕ, ◌+◌, ◌-◌, ◌*◌, ◌/◌, ◌%◌, ◌<◌, ◌≤◌, List, ◌++◌, All, length}
use Rattle.tce_window.specs.declared.piece.Piece.{Piece}
use Rattle.tce_window.specs.Grant.{values_of}
use Rattle.tce_window.specs.Pieces.{Touches, IsGranted, IsLast, MayUse}
use Rattle.shared_window.specs.Pinning.{PinsUpTo}
use Rattle.shared_window.proofs.pinning.pin_range.Given as goal

abbrev pub decreases-loop-done : goal.decreases-loop-done
decreases-loop-done l = l.len - l.done

abbrev pub invariant-loop-done : goal.invariant-loop-done
invariant-loop-done l = record {
  within : l.done ≤ l.len;
  aligned : 0 < l.done → l.done < l.len → (l.ioba + l.done) % 4096 ≡ 0;
  count : l.done < l.len → l.ioba / 4096 + length l.pieces.items ≡ (l.ioba + l.done) / 4096;
  some : 0 < l.done → 1 ≤ length l.pieces.items;
  inside : 0 < l.done → l.ioba / 4096 + length l.pieces.items ≤ l.entries.count;
  pins : PinsUpTo l.fn.seat (l.ioba / 4096) (length l.pieces.items) l.seat;
  touched : (rest : List Piece) → Touches l.unit (l.ioba + l.done) (l.ioba + l.len) rest → Touches l.unit l.ioba (l.ioba + l.len) (l.pieces.items ++ rest);
  entries : All (λ piece. (l.ioba / 4096 ≤ piece.entry) × (piece.entry < l.ioba / 4096 + length l.pieces.items)) l.pieces.items;
  granted : All (IsGranted (values_of l.seat.rows) l.right) l.pieces.items;
  last : All (IsLast (values_of l.seat.rows)) l.pieces.items;
  pages : All (λ piece. piece.page < l.entries.count) l.pieces.items;
  usable : 0 < l.done → (e : ℕ) → l.ioba / 4096 ≤ e → e * 4096 < l.ioba + l.done → (e < l.entries.count) × MayUse (values_of l.seat.rows) l.right e;
}
