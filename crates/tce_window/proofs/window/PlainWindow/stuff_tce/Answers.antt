-- The list that is put is `count` copies of the value.
use Rattle.std.proofs.Common.{◌≡◌, replicate, take, arith}
use Rattle.std.proofs.lemmas.List.{take-replicate}
use Rattle.tce_window.proofs.window.PlainWindow.stuff_tce.Goals as goal

pub returns-clause-parameter : goal.returns-clause-parameter
returns-clause-parameter c =
    let copies : take c.args.count (replicate 512 c.args.tce) ≡ replicate c.args.count c.args.tce = take-replicate c.args.count 512 c.args.tce (omega arith) in
    rw copies at c.put_tce_indirect.ensures.parameter

pub returns-clause-answer : goal.returns-clause-answer
returns-clause-answer c =
    let copies : take c.args.count (replicate 512 c.args.tce) ≡ replicate c.args.count c.args.tce = take-replicate c.args.count 512 c.args.tce (omega arith) in
    rw copies at c.put_tce_indirect.ensures.answer

pub returns-clause-rows : goal.returns-clause-rows
returns-clause-rows c =
    let copies : take c.args.count (replicate 512 c.args.tce) ≡ replicate c.args.count c.args.tce = take-replicate c.args.count 512 c.args.tce (omega arith) in
    rw copies at c.put_tce_indirect.ensures.rows
