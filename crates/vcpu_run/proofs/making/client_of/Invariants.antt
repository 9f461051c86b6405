use Rattle.vcpu_run.specs.Making.{HaveNoneBefore}
use Rattle.vcpu_run.proofs.making.client_of.Given as goal

abbrev pub invariant-loop-number : goal.invariant-loop-number
invariant-loop-number l = HaveNoneBefore l.number l.partitions l.server
