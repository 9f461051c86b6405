use Rattle.std.proofs.Common.{◌≡◌, map, take}
use Rattle.vcpu_run.specs.Machines.{seat_of}
use Rattle.vcpu_run.proofs.making.make_seats.Given as goal

abbrev pub invariant-loop-unit : goal.invariant-loop-unit
invariant-loop-unit l = l.seats.items ≡ map seat_of (take l.unit-index l.units)
