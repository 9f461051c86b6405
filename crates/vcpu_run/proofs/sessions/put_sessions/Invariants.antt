use Rattle.std.proofs.Common.{◌≡◌, ◌++◌}
use Rattle.vcpu_run.specs.Sessions.{sessions_from}
use Rattle.vcpu_run.proofs.Following.{Follows}
use Rattle.vcpu_run.proofs.sessions.put_sessions.Given as goal

abbrev pub invariant-loop-before : goal.invariant-loop-before
invariant-loop-before l =
    (l.rows.items ≡ l.initial.rows.items ++ sessions_from l.unit l.pipe 1 l.before)
    × (Follows (λ row. row.session) l.before l.pipe.sent l.sent
    × (Follows (λ row. row.session) l.before l.pipe.taken l.taken
    × Follows (λ row. row.session) l.before l.pipe.drops l.drops))
