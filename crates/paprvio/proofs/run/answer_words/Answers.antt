use Rattle.std.proofs.Common.{map, string_bytes, subst}
use Rattle.paprvio.specs.Answer.{WordsTask}
use Rattle.paprvio.specs.declared.task.Task.{Task}
use Rattle.paprvio.proofs.Tasks.{ran, sound_of}
use Rattle.paprvio.proofs.run.answer_words.Goals as goal

pub run_plan-requires : goal.run_plan-requires
run_plan-requires g c =
    let words = map string_bytes c.args.words.now in
    let old = g.So.Source.left c.args.source.now in
    let new = g.So.Source.left c.words_task.new.source in
    sound_of words old new c.in-Ok-Run.plan c.in-Ok-Run.telling
    (subst (λ (task : Task). WordsTask words old new task) c.in-Ok-Run.field-0-is c.in-Ok-Run.ensures.task)

pub returns-in-Ok-Run-clause-answer : goal.returns-in-Ok-Run-clause-answer
returns-in-Ok-Run-clause-answer g c =
    let words = map string_bytes c.args.words.now in
    let old = g.So.Source.left c.args.source.now in
    let new = g.So.Source.left c.words_task.new.source in
    ran words old new (g.Di.Blocks.state c.args.image) (g.Di.Blocks.state c.run_plan.result.image) c.in-Ok-Run.plan c.in-Ok-Run.telling c.run_plan.result.answer
    (subst (λ (task : Task). WordsTask words old new task) c.in-Ok-Run.field-0-is c.in-Ok-Run.ensures.task) c.run_plan.ensures.counted c.run_plan.ensures.told
