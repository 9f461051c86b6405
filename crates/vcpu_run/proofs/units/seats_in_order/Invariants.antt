use Rattle.std.proofs.Common.{◌≡◌, take}
use Rattle.std.specs.List.{flat_map}
use Rattle.vcpu_run.specs.Units.{seats_by}
use Rattle.vcpu_run.proofs.units.seats_in_order.Given as goal

abbrev pub invariant-loop-script : goal.invariant-loop-script
invariant-loop-script l = l.seats.items ≡ flat_map seats_by (take l.script-index l.scripts)
