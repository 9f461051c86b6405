use Rattle.std.proofs.Common.{◌≡◌, ◌+◌, ◌++◌, ◌-◌, ◌≤◌, length}
use Rattle.tce_window.proofs.reader.Reader.gather.Given as goal

abbrev pub invariant-loop-self : goal.invariant-loop-self
invariant-loop-self l = record {
  bytes : l.bytes.items ++ l.self.bytes ≡ l.fn.self.bytes;
  left : length l.bytes.items + l.self.len ≡ l.fn.self.len;
  within : length l.bytes.items ≤ l.len;
}

abbrev pub decreases-loop-self : goal.decreases-loop-self
decreases-loop-self l = l.len - length l.bytes.items
