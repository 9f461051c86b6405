use Rattle.std.proofs.Common.{◌≡◌, ◌≤◌, take, map, length, vec_capacity}
use Rattle.lan_script.specs.Opening.{window_of}
use Rattle.lan_script.proofs.lan.open_windows.Given as goal

abbrev pub invariant-loop-seat : goal.invariant-loop-seat
invariant-loop-seat l = record {
  made : l.places.items ≡ map window_of (take l.seat-index l.seats);
  room : length l.seats ≤ vec_capacity l.places;
}
