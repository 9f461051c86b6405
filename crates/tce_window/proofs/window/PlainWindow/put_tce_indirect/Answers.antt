-- Where the list has a value, the first one shows that the address is that of an entry.
use Rattle.std.proofs.Common.{◌<◌, length, rules}
use Rattle.tce_window.proofs.Putting.{first_entry, entry_address}
use Rattle.tce_window.proofs.window.PlainWindow.put_tce_indirect.Goals as goal

pub put_each-requires-clause-entry : goal.put_each-requires-clause-entry
put_each-requires-clause-entry c =
    let some : 0 < length c.args.list.now = search rules in
    first_entry (length c.args.self.now.pages) c.args.ioba c.args.list.now some (search rules)

pub put_each-requires-clause-good : goal.put_each-requires-clause-good
put_each-requires-clause-good c =
    let some : 0 < length c.args.list.now = search rules in
    entry_address (length c.args.self.now.pages) c.args.ioba c.args.list.now some (search rules)
