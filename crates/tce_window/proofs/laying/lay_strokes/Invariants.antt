use Rattle.std.proofs.Common.{◌≡◌, ℕ, ◌+◌, ◌++◌, ◌≤◌, All, IsSome, length, take, drop}
use Rattle.std.specs.Vec.Iter.{into_iter_items}
use Rattle.tce_window.specs.Laying.{count_on}
use Rattle.tce_window.specs.Moved.{strokes_on, stroke_count, numbered}
use Rattle.tce_window.specs.Strokes.{with_strokes}
use Rattle.tce_window.proofs.laying.lay_strokes.Given as goal

abbrev pub invariant-loop-stroke : goal.invariant-loop-stroke
invariant-loop-stroke g l = record {
  steps : (goal.iterator-loop-stroke g).can_next l.stroke-iterator;
  ends : (goal.iterator-loop-stroke g).is_finite l.stroke-iterator;
  there : All (λ piece. IsSome (g.P.PageSet.strokes l.pages piece.page)) (drop l.place l.pieces);
  room : (p : ℕ) → count_on p (drop l.place l.pieces) ≤ g.P.PageSet.room l.pages p;
  count : l.place + length (into_iter_items l.stroke-iterator) ≡ length l.pieces;
  strokes : (p : ℕ) → with_strokes (g.P.PageSet.strokes l.pages p) (strokes_on p (drop l.place l.pieces) (into_iter_items l.stroke-iterator)) ≡ with_strokes (g.P.PageSet.strokes l.fn.pages p) (strokes_on p l.initial.pieces l.fn.strokes.items);
  pieces : take l.place l.pieces ++ numbered (λ p. stroke_count (g.P.PageSet.strokes l.pages p)) (drop l.place l.pieces) ≡ numbered (λ p. stroke_count (g.P.PageSet.strokes l.fn.pages p)) l.initial.pieces;
  places : g.P.PageSet.places l.pages ≡ g.P.PageSet.places l.fn.pages;
}
