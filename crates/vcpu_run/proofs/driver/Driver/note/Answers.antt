use Rattle.std.proofs.Common.{refl, rules}
use Rattle.vcpu_run.proofs.driver.Driver.note.Goals as goal

pub returns-clause-notes : goal.returns-clause-notes
returns-clause-notes c = record {
  noted = record { row = _; rows = c.in_ok-push.ensures.items; tag_is = refl; canonical = search rules };
  session_is = refl;
}
