-- Where the list has a value, the first one shows that the address is that of an entry.
use Rattle.std.proofs.Common.{rules, ◌≡◌, ◌*◌, ◌/◌, ◌<◌, true, length, subst}
use Rattle.tce_window.specs.Puts.{takes_each}
use Rattle.tce_window.proofs.Laws.{entry_address}
use Rattle.shared_window.proofs.window.Window.put_tce_indirect.Goals as goal

pub put_each-answer-requires-clause-good : goal.put_each-answer-requires-clause-good
put_each-answer-requires-clause-good c =
    let some : 0 < length c.args.list.now = search rules in
    let good : takes_each c.owner.inside.table.size c.args.ioba c.args.list.now ≡ true = search rules in
    let size : c.owner.inside.table.size ≡ c.self.inside.entries.count = search rules in
    subst (λ n. takes_each n (c.args.ioba / 4096 * 4096) c.args.list.now ≡ true) size (entry_address c.owner.inside.table.size c.args.ioba c.args.list.now some good)
