use Rattle.std.proofs.Common.{◌≡◌, take}
use Rattle.vcpu_run.specs.Sessions.{entries_of}
use Rattle.vcpu_run.proofs.sessions.entries_in.Given as goal

abbrev pub invariant-loop-row : goal.invariant-loop-row
invariant-loop-row l = l.entries ≡ entries_of l.session (take l.row-index l.rows)
