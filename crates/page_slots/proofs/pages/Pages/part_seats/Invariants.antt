use Rattle.std.proofs.Common.{◌-◌, ◌+◌, ◌≡◌, ◌≤◌, length}
use Rattle.std.specs.Prelude.{vec_capacity}
use Rattle.std.specs.List.{All}
use Rattle.page_slots.specs.PageRule.{IsUnused}
use Rattle.page_slots.specs.Turns.{IsFresh}
use Rattle.page_slots.proofs.pages.Pages.part_seats.Given as goal

abbrev pub invariant-loop-left : goal.invariant-loop-left
invariant-loop-left l = record {
  one : 1 ≤ l.left;
  unused : IsUnused l.self.id l.self.count l.left l.first;
  made : length l.list.items + l.left ≡ l.self.seats;
  fresh : All (IsFresh l.self) l.list.items;
  room : l.self.seats ≤ vec_capacity l.list;
}

abbrev pub decreases-loop-left : goal.decreases-loop-left
decreases-loop-left l = l.left - 1
