use Rattle.std.proofs.Common.{◌≡◌, ◌+◌, ◌*◌, drop, take, true}
use Rattle.tce_window.specs.Puts.{takes_each}
use Rattle.shared_window.specs.Putting.{IsTableOf, PutsUpTo}
use Rattle.shared_window.proofs.putting.put_each.Given as goal

abbrev pub invariant-loop-done : goal.invariant-loop-done
invariant-loop-done l = record {
  table : IsTableOf l.entries l.seat l.table;
  good : takes_each l.entries.count ((l.first + l.done) * 4096) (drop l.done l.list) ≡ true;
  puts : PutsUpTo l.fn.seat l.fn.table l.first (take l.done l.list) l.seat l.table;
}
