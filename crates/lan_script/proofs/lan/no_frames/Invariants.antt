use Rattle.std.proofs.Common.{◌≡◌, ◌≤◌, [], length, map, take, vec_capacity}
use Rattle.lan_script.proofs.lan.no_frames.Given as goal

abbrev pub invariant-loop-seat : goal.invariant-loop-seat
invariant-loop-seat l = record {
  made : map (λ rows. rows.items) l.frames.items ≡ map (λ _. []) (take l._seat-index l.seats);
  room : length l.seats ≤ vec_capacity l.frames;
}
