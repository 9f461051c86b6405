use Rattle.std.proofs.Common.{◌≡◌, ◌+◌, drop}
use Rattle.lan_switch.specs.Switch.{place_of}
use Rattle.lan_switch.proofs.station.place_of.Given as goal

abbrev pub invariant-loop-place : goal.invariant-loop-place
invariant-loop-place l = l.place + place_of l.unit (drop l.place l.stations) ≡ place_of l.unit l.stations
