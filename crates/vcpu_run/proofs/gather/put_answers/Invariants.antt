use Rattle.std.proofs.Common.{◌≡◌, ◌++◌, map, take}
use Rattle.vcpu_run.specs.Gathered.{answer_by}
use Rattle.vcpu_run.proofs.gather.put_answers.Given as goal

abbrev pub invariant-loop-answer : goal.invariant-loop-answer
invariant-loop-answer l = l.rows.items ≡ l.initial.rows.items ++ map (answer_by l.unit) (take l.answer-index l.answers)
