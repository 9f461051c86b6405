use Rattle.std.proofs.Common.{◌≡◌, ◌+◌, drop}
use Rattle.vcpu_run.specs.Machines.{home_of}
use Rattle.vcpu_run.proofs.making.home_of.Given as goal

abbrev pub invariant-loop-number : goal.invariant-loop-number
invariant-loop-number l = home_of l.partitions ≡ l.number + home_of (drop l.number l.partitions)
