use Rattle.std.proofs.Common.{◌≡◌, drop}
use Rattle.lan_script.specs.Seats.{seat_at}
use Rattle.lan_script.proofs.lan.seat_of.Given as goal

abbrev pub invariant-loop-seat : goal.invariant-loop-seat
invariant-loop-seat l = seat_at (drop l.seat-index l.seats) l.unit ≡ seat_at l.seats l.unit
