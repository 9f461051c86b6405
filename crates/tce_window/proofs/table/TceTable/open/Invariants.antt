use Rattle.std.proofs.Common.{◌≡◌, ℕ, ◌≤◌, ◌<◌, [], length, get_or}
use Rattle.std.specs.Prelude.{vec_capacity}
use Rattle.tce_window.specs.declared.table.Current.{Current}
use Rattle.tce_window.specs.Kept.{IsEntry}
use Rattle.tce_window.proofs.table.TceTable.open.Given as goal

abbrev pub invariant-loop-entry : goal.invariant-loop-entry
invariant-loop-entry l = record {
  number : length l.current.items ≡ l.entry;
  room : l.entries ≤ vec_capacity l.current;
  each : (e : ℕ) → e < l.entry → (d : Current) → IsEntry [] l.entries e (get_or l.current.items e d);
}
