use Rattle.std.proofs.Common.{◌≡◌, ◌+◌, ◌≤◌, All, length}
use Rattle.std.specs.Prelude.{vec_capacity}
use Rattle.page_slots.specs.Turns.{IsFresh}
use Rattle.entry_slots.specs.Entries.{IsFreshAt}
use Rattle.shared_window.specs.Opening.{IsNewSeat}
use Rattle.shared_window.proofs.window.Window.guests_of.Given as goal

abbrev pub decreases-loop-holder : goal.decreases-loop-holder
decreases-loop-holder l = length l.holders.items

abbrev pub invariant-loop-holder : goal.invariant-loop-holder
invariant-loop-holder l = record {
  made : length l.guests.items + length l.holders.items ≡ length l.fn.holders.items;
  pairs : length l.places.items ≡ length l.holders.items;
  room : length l.fn.holders.items ≤ vec_capacity l.guests;
  places : All (IsFresh l.self.pages) l.places.items;
  holders : All (IsFreshAt l.self.entries) l.holders.items;
  new : All (IsNewSeat l.self) l.guests.items;
}
