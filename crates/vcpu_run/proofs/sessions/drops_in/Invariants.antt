use Rattle.std.proofs.Common.{◌≡◌, take}
use Rattle.vcpu_run.specs.Sessions.{drops_of}
use Rattle.vcpu_run.proofs.sessions.drops_in.Given as goal

abbrev pub invariant-loop-row : goal.invariant-loop-row
invariant-loop-row l = l.drops ≡ drops_of l.session (take l.row-index l.rows)
