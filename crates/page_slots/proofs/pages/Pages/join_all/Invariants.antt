use Rattle.std.proofs.Common.{◌≡◌, List, ◌++◌, length}
use Rattle.page_slots.specs.PageClosing.{StandsForAll}
use Rattle.page_slots.specs.Seats.{PageSeatValue}
use Rattle.page_slots.proofs.pages.Pages.join_all.Given as goal

abbrev pub invariant-loop-other : goal.invariant-loop-other
invariant-loop-other l = (back : List PageSeatValue) × (l.fn.seats.items ≡ l.seats.items ++ back) × StandsForAll l.self back l.seat

abbrev pub decreases-loop-other : goal.decreases-loop-other
decreases-loop-other l = length l.seats.items
