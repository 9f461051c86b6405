use Rattle.std.proofs.Common.{◌≡◌, ℕ, ◌≤◌, All, take}
use Rattle.tce_window.specs.Laying.{count_on}
use Rattle.tce_window.proofs.laying.make_room.Given as goal

abbrev pub invariant-loop-piece : goal.invariant-loop-piece
invariant-loop-piece g l = record {
  strokes : (p : ℕ) → g.P.PageSet.strokes l.pages p ≡ g.P.PageSet.strokes l.fn.pages p;
  places : g.P.PageSet.places l.pages ≡ g.P.PageSet.places l.fn.pages;
  room : All (λ piece. count_on piece.page l.pieces ≤ g.P.PageSet.room l.pages piece.page) (take l.piece-index l.pieces);
}
