use Rattle.std.proofs.Common.{◌≡◌, ◌+◌, drop}
use Rattle.lan_script.specs.Windows.{place_in}
use Rattle.lan_script.proofs.windows.place_of.Given as goal

abbrev pub invariant-loop-place : goal.invariant-loop-place
invariant-loop-place l = l.place + place_in l.unit (drop l.place l.places) ≡ place_in l.unit l.places
