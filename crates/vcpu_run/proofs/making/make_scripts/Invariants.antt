use Rattle.vcpu_run.specs.Making.{AreMadeTo}
use Rattle.vcpu_run.proofs.making.make_scripts.Given as goal

abbrev pub invariant-loop-number : goal.invariant-loop-number
invariant-loop-number l = AreMadeTo l.number l.partitions l.scripts.items
