use Rattle.std.proofs.Common.{◌≡◌, ℕ, ◌+◌, ◌-◌, ◌*◌, ◌/◌, ◌%◌, ◌^◌, ◌<◌, ◌≤◌, List, ◌++◌, All, length}
use Rattle.tce_window.specs.declared.piece.Piece.{Piece}
use Rattle.tce_window.specs.Grant.{values_of}
use Rattle.tce_window.specs.Pieces.{Touches, IsGranted, IsLast, HasStrokes, MayUse}
use Rattle.tce_window.specs.Window.{strokes_at}
use Rattle.tce_window.proofs.window.PlainWindow.pieces.Given as goal

abbrev pub decreases-loop-done : goal.decreases-loop-done
decreases-loop-done l = l.len - l.done

abbrev pub invariant-loop-done : goal.invariant-loop-done
invariant-loop-done l = record {
  within : l.done ≤ l.len;
  near : 0 < l.done → l.ioba < 2 ^ 20;
  aligned : 0 < l.done → l.done < l.len → (l.ioba + l.done) % 4096 ≡ 0;
  count : l.done < l.len → l.ioba / 4096 + length l.pieces.items ≡ (l.ioba + l.done) / 4096;
  some : 0 < l.done → 1 ≤ length l.pieces.items;
  inside : 0 < l.done → l.ioba / 4096 + length l.pieces.items ≤ length l.self.pages;
  touched : (rest : List Piece) → Touches l.self.unit (l.ioba + l.done) (l.ioba + l.len) rest → Touches l.self.unit l.ioba (l.ioba + l.len) (l.pieces.items ++ rest);
  granted : All (IsGranted (values_of l.self.rows) l.right) l.pieces.items;
  last : All (IsLast (values_of l.self.rows)) l.pieces.items;
  strokes : All (λ piece. HasStrokes piece (strokes_at l.self.pages piece.page)) l.pieces.items;
  usable : 0 < l.done → (e : ℕ) → l.ioba / 4096 ≤ e → e * 4096 < l.ioba + l.done → (e < length l.self.pages) × MayUse (values_of l.self.rows) l.right e;
}
