use Rattle.std.proofs.Common.{◌+◌, ◌≡◌, ◌≤◌, length}
use Rattle.std.specs.Prelude.{vec_capacity}
use Rattle.std.specs.List.{All}
use Rattle.entry_slots.specs.EntryCuts.{IsUnopened}
use Rattle.entry_slots.specs.Entries.{IsFreshAt}
use Rattle.entry_slots.proofs.entries.Entries.part_guests.Given as goal

abbrev pub invariant-loop-left : goal.invariant-loop-left
invariant-loop-left l = record {
  unopened : IsUnopened l.self.id l.self.count (l.left + 1) l.first;
  made : length l.list.items + l.left ≡ l.guests;
  fresh : All (IsFreshAt l.self) l.list.items;
  room : l.guests ≤ vec_capacity l.list;
}

abbrev pub decreases-loop-left : goal.decreases-loop-left
decreases-loop-left l = l.left
