use Rattle.std.proofs.Common.{◌≡◌, ◌+◌, ◌*◌, length, drop, take, true}
use Rattle.tce_window.specs.Puts.{takes_each, put_answer, put_rows}
use Rattle.tce_window.specs.Window.{holds}
use Rattle.tce_window.proofs.window.PlainWindow.put_each.Given as goal

abbrev pub invariant-loop-done : goal.invariant-loop-done
invariant-loop-done l = record {
  good : takes_each (length l.fn.self.pages) ((l.first + l.done) * 4096) (drop l.done l.list) ≡ true;
  answer : put_answer (holds l.fn.self) (l.first + l.done) l.done (drop l.done l.list) ≡ put_answer (holds l.fn.self) l.first 0 l.list;
  rows : l.self.rows ≡ put_rows l.fn.self.rows l.first (take l.done l.list);
  spare : l.self.spare + l.done ≡ l.fn.self.spare;
  others : l.self ≡ record l.fn.self { rows = l.self.rows; spare = l.self.spare };
}
