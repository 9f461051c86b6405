use Rattle.std.proofs.Common.{◌≡◌, take}
use Rattle.vcpu_run.specs.Ports.{ports_from}
use Rattle.vcpu_run.proofs.making.ports_of.Given as goal

abbrev pub invariant-loop-number : goal.invariant-loop-number
invariant-loop-number l = l.ports.items ≡ ports_from 0 (take l.number l.partitions)
