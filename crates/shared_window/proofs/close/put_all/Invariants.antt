use Rattle.std.proofs.Common.{◌≡◌, length}
use Rattle.std.specs.Vec.Iter.{into_iter_items}
use Rattle.shared_window.proofs.Homing.{ArePlaced}
use Rattle.shared_window.proofs.close.put_all.Given as goal

abbrev pub invariant-loop-page : goal.invariant-loop-page
invariant-loop-page l = record {
  steps : (goal.iterator-loop-page).can_next l.page-iterator;
  ends : (goal.iterator-loop-page).is_finite l.page-iterator;
  put : ArePlaced l.fn.list.items (into_iter_items l.page-iterator) l.number l.region;
  size : length l.region ≡ length l.fn.region;
}
