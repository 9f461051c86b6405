use Rattle.std.proofs.Common.{◌∙◌, sym}
use Rattle.vcpu_run.proofs.Lined.{over_from}
use Rattle.vcpu_run.proofs.rounds.is_end.Goals as goal

pub returns-in-Quiet-clause-over : goal.returns-in-Quiet-clause-over
returns-in-Quiet-clause-over c = λ is. over_from c.args.scripts.now (sym c.are_over.ensures ∙ is)
