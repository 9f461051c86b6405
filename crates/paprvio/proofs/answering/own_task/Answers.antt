use Rattle.std.proofs.Common.{◌≡◌, ℕ, Result, Ok, Err, IfOk, Option, Some, sym, subst, rules}
use Rattle.vio_num.specs.declared.memory.NoMemory.{NoMemory}
use Rattle.paprvio.specs.Answer.{BootTask, OwnTask}
use Rattle.paprvio.specs.Generated.{generated}
use Rattle.paprvio.specs.declared.request.Request.{Request}
use Rattle.paprvio.specs.declared.request.Request.TheVariants.{Summarize}
use Rattle.paprvio.specs.declared.task.Task.{Task}
use Rattle.paprvio.specs.declared.telling.Telling.TheVariants.{Summary}
use Rattle.paprvio.proofs.Tasks.{own_of_boot}
use Rattle.paprvio.proofs.answering.own_task.Goals as goal

own : (seed workers : ℕ) (result : Result Task NoMemory) → IfOk result (BootTask (generated seed) Summary) → IfOk result (OwnTask (Some (Summarize seed workers)))
own seed workers (Ok task) boot = own_of_boot seed workers task boot
own seed workers (Err memory) boot = boot

pub returns-in-Some-Summarize : goal.returns-in-Some-Summarize
returns-in-Some-Summarize c =
    let is : c.args.request ≡ Some (Summarize c.in-Some-Summarize.seed c.in-Some-Summarize.field-0-1) = search rules in
    subst (λ (request : Option Request). IfOk c.summary_task.result (OwnTask request)) (sym is)
    (own c.in-Some-Summarize.seed c.in-Some-Summarize.field-0-1 c.summary_task.result c.summary_task.ensures)
