use Rattle.std.proofs.Common.{◌≡◌, ◌+◌, ◌≤◌, ◌++◌, length, map}
use Rattle.std.specs.Prelude.{reverse, vec_capacity}
use Rattle.shared_window.specs.Closing.{rest_of}
use Rattle.shared_window.proofs.parting.Parts.part.Given as goal

abbrev pub decreases-loop-guest : goal.decreases-loop-guest
decreases-loop-guest l = length l.guests.items

abbrev pub invariant-loop-guest : goal.invariant-loop-guest
invariant-loop-guest l = record {
  places : l.self.places.items ++ map (λ seat. seat.pages) (reverse l.guests.items) ≡ map (λ seat. seat.pages) l.fn.guests.items;
  holders : l.self.holders.items ++ map (λ seat. seat.entries) (reverse l.guests.items) ≡ map (λ seat. seat.entries) l.fn.guests.items;
  rests : l.self.rests.items ++ map rest_of (reverse l.guests.items) ≡ map rest_of l.fn.guests.items;
  room_places : length l.self.places.items + length l.guests.items + 1 ≤ vec_capacity l.self.places;
  room_holders : length l.self.holders.items + length l.guests.items ≤ vec_capacity l.self.holders;
  room_rests : length l.self.rests.items + length l.guests.items ≤ vec_capacity l.self.rests;
  all_places : length l.self.places.items + length l.guests.items ≡ length l.fn.guests.items;
  kept : vec_capacity l.guests ≡ vec_capacity l.fn.guests;
}
