use Rattle.std.proofs.Common.{◌≡◌, ◌++◌, take}
use Rattle.vcpu_run.specs.Numbered.{numbered}
use Rattle.vcpu_run.specs.Units.{unit_seat}
use Rattle.vcpu_run.proofs.units.put_units.Given as goal

abbrev pub invariant-loop-unit : goal.invariant-loop-unit
invariant-loop-unit l = l.seats.items ≡ l.initial.seats.items ++ numbered (unit_seat l.partition) 0 (take l.unit l.own)
