-- Each entry holds the page of its own number.
use Rattle.std.proofs.Common.{rules, arith}
use Rattle.tce_window.proofs.Values.{entries-push}
use Rattle.tce_window.proofs.table.TceTable.open.Goals as goal

pub loop-entry-preserved : goal.loop-entry-preserved
loop-entry-preserved c = record {
  number = search rules;
  room = search rules;
  each = rw c.push_reserved.ensures.items (entries-push c.args.entries c.loop-entry.entry c.loop-entry.current.items c.first_of.result (omega arith) (omega arith) c.loop-entry.invariant.number c.first_of.ensures.version c.first_of.ensures.value c.loop-entry.invariant.each);
}
