-- The new value is the last of its entry.
use Rattle.std.proofs.Common.{◌≡◌, ◌+◌, ◌<◌, refl, length, get_or, rules}
use Rattle.tce_window.proofs.Values.{kept-put}
use Rattle.tce_window.proofs.table.TceTable.put.Goals as goal

pub invariant_of-self : goal.invariant_of-self
invariant_of-self c =
    let inside : c.args.entry < length c.self.inside.current.items = search rules in
    let last : c.index.result.now ≡ get_or c.self.inside.current.items c.args.entry c.index.result.now = search rules in
    record {
      kept = rw c.push_reserved.ensures.items (kept-put c.self.inside.current.items c.self.inside.rows.items c.args.entry c.index.result.now (record { version = c.index.result.now.version + 1; value = c.args.tce }) c.args.tce c.self.invariant.kept inside last refl (search rules));
      sized = search rules;
      room = search rules;
      few = search rules;
    }
