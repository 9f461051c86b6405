use Rattle.std.proofs.Common.{◌≡◌, drop}
use Rattle.tce_window.specs.Puts.{takes_each}
use Rattle.tce_window.proofs.table.TceTable.takes_each.Given as goal

abbrev pub invariant-loop-tce : goal.invariant-loop-tce
invariant-loop-tce l = takes_each (l.self.size) l.at (drop l.tce-index l.list) ≡ takes_each (l.self.size) l.ioba l.list
