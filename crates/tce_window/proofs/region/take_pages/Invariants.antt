use Rattle.std.proofs.Common.{◌≡◌, ℕ, ◌≤◌, None, length, take, if◌then◌else◌}
use Rattle.tce_window.specs.Held.{held_strokes}
use Rattle.tce_window.specs.Pieces.{on_page}
use Rattle.tce_window.specs.Window.{strokes_at}
use Rattle.tce_window.proofs.region.take_pages.Given as goal

abbrev pub invariant-loop-piece : goal.invariant-loop-piece
invariant-loop-piece l = record {
  away : (p : ℕ) → strokes_at l.pages.items p ≡ (if on_page (take l.piece-index l.pieces) p then None else strokes_at l.fn.pages.items p);
  taken : (p : ℕ) → held_strokes l.held.items p ≡ (if on_page (take l.piece-index l.pieces) p then strokes_at l.fn.pages.items p else None);
  few : length l.held.items ≤ l.piece-index;
  size : length l.pages.items ≡ length l.fn.pages.items;
}
