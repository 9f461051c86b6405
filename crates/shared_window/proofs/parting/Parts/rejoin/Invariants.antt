use Rattle.std.proofs.Common.{◌≡◌, ◌+◌, ◌≤◌, ◌++◌, length, map}
use Rattle.std.specs.Prelude.{reverse, vec_capacity}
use Rattle.shared_window.specs.Closing.{rest_of}
use Rattle.shared_window.proofs.parting.Parts.rejoin.Given as goal

abbrev pub decreases-loop-region : goal.decreases-loop-region
decreases-loop-region l = length l.rests.items

abbrev pub invariant-loop-region : goal.invariant-loop-region
invariant-loop-region l = record {
  places : l.places.items ++ map (λ seat. seat.pages) (reverse l.guests.items) ≡ l.fn.self.places.items;
  holders : l.holders.items ++ map (λ seat. seat.entries) (reverse l.guests.items) ≡ l.fn.self.holders.items;
  rests : l.rests.items ++ map rest_of (reverse l.guests.items) ≡ l.fn.self.rests.items;
  as_many : (length l.places.items ≡ length l.rests.items) × (length l.holders.items ≡ length l.rests.items);
  room : length l.rests.items + length l.guests.items ≤ vec_capacity l.guests;
}
