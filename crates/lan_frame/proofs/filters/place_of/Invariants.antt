use Rattle.std.proofs.Common.{drop}
use Rattle.std.specs.List.{Contains}
use Rattle.lan_frame.proofs.filters.place_of.Given as goal

abbrev pub invariant-loop-place : goal.invariant-loop-place
invariant-loop-place l = Contains l.macs l.mac → Contains (drop l.place l.macs) l.mac
