use Rattle.std.proofs.Common.{◌≡◌, ◌++◌, take}
use Rattle.vcpu_run.specs.Ports.{ports_in}
use Rattle.vcpu_run.proofs.making.put_ports.Given as goal

abbrev pub invariant-loop-place : goal.invariant-loop-place
invariant-loop-place l = l.ports.items ≡ l.initial.ports.items ++ ports_in l.partition 0 (take l.place l.units)
