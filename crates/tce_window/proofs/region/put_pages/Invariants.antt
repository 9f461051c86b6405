use Rattle.std.proofs.Common.{◌≡◌, ℕ, ◌<◌, IsSome, length}
use Rattle.tce_window.specs.Held.{held_strokes, either}
use Rattle.tce_window.specs.Window.{strokes_at}
use Rattle.tce_window.proofs.region.put_pages.Given as goal

abbrev pub invariant-loop-page : goal.invariant-loop-page
invariant-loop-page l = record {
  steps : (goal.iterator-loop-page).can_next l.page-iterator;
  ends : (goal.iterator-loop-page).is_finite l.page-iterator;
  strokes : (p : ℕ) → either (strokes_at l.pages.items p) (held_strokes l.page-iterator p) ≡ either (strokes_at l.fn.pages.items p) (held_strokes l.fn.held.items p);
  within : (p : ℕ) → IsSome (held_strokes l.page-iterator p) → p < length l.pages.items;
  size : length l.pages.items ≡ length l.fn.pages.items;
}
