use Rattle.vcpu_run.specs.Making.{HasNoneBefore}
use Rattle.vcpu_run.proofs.making.client_in.Given as goal

abbrev pub invariant-loop-place : goal.invariant-loop-place
invariant-loop-place l = HasNoneBefore l.place l.units l.server
