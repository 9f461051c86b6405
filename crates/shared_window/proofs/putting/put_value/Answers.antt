use Rattle.std.proofs.Common.{arith}
use Rattle.shared_window.proofs.PuttingValues.{few_values}
use Rattle.shared_window.proofs.putting.put_value.Goals as goal

pub overflow_add-row : goal.overflow_add-row
overflow_add-row c =
    let few = c.current-last.ensures.few in
    let last = c.current-last.ensures.current.last in
    let all = few_values c.args.table.now.rows c.args.entry in
    let some = c.requires.spare in
    omega (arith, few, last, all, some)

pub put-put-requires-clause-version : goal.put-put-requires-clause-version
put-put-requires-clause-version c =
    let few = c.current-last.ensures.few in
    let last = c.current-last.ensures.current.last in
    let all = few_values c.args.table.now.rows c.args.entry in
    let some = c.requires.spare in
    (omega arith, omega (arith, few, last, all, some))
