use Rattle.std.proofs.Common.{◌≡◌, Result, Ok, IfOk, subst}
use Rattle.paprvio.proofs.Endings.{written_end, not_unwritten, unrun_is_not_done}
use Rattle.paprvio.proofs.run.run_words.Goals as goal

if_ok : {A E : Type 0} (P : A → Type 0) (result : Result A E) (value : A) → result ≡ Ok value → IfOk result P → P value
if_ok P result value is holds = subst (λ r. IfOk r P) is holds

pub returns-in-Ok-clause-ends : goal.returns-in-Ok-clause-ends
returns-in-Ok-clause-ends g c =
    let answered = c.answer_words-image.ensures in
    written_end _ _ _ (g.Di.Blocks.state c.args.image) _ _ c.finish.result _ _ _ (if_ok _ _ c.in-Ok.answer c.in-Ok.is answered.answer)
    (answered.same (λ e. cc (c.in-Ok.is, e))) c.finish.ensures

pub returns-in-Ok-clause-unwritten : goal.returns-in-Ok-clause-unwritten
returns-in-Ok-clause-unwritten g c e =
    absurd (not_unwritten _ _ _ (g.Di.Blocks.state c.args.image) _ _ c.finish.result _ _ _ _ _
    (if_ok _ _ c.in-Ok.answer c.in-Ok.is c.answer_words-image.ensures.answer) c.finish.ensures e)

pub returns-in-Ok-clause-untouched : goal.returns-in-Ok-clause-untouched
returns-in-Ok-clause-untouched g c e =
    if_ok _ _ c.in-Ok.answer c.in-Ok.is c.answer_words-image.ensures.told (unrun_is_not_done _ c.finish.result _ _ _ _ _ c.finish.ensures e)
