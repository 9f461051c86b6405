use Rattle.std.proofs.Common.{◌≡◌, ◌+◌, drop}
use Rattle.lan_script.specs.Seats.{seat_place}
use Rattle.lan_script.proofs.lan.place_of.Given as goal

abbrev pub invariant-loop-place : goal.invariant-loop-place
invariant-loop-place l = l.place + seat_place l.unit (drop l.place l.seats) ≡ seat_place l.unit l.seats
