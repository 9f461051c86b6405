use Rattle.std.proofs.Common.{◌≡◌, List, ℕ, IfOk, rules, subst}
use Rattle.paprvio.specs.Answer.{BootTask}
use Rattle.paprvio.specs.Generated.{generated}
use Rattle.paprvio.specs.declared.telling.Telling.TheVariants.{Summary}
use Rattle.paprvio.proofs.answering.summary_task.Goals as goal

pub returns : goal.returns
returns c =
    let is : c.deref.result.now ≡ generated c.args.seed = search rules in
    subst (λ (boot : List ℕ). IfOk c.boot_task.result (BootTask boot Summary)) is c.boot_task.ensures
