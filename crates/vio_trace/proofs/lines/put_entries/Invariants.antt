-- The text grows by the lines of the entries before the present one.
use Rattle.std.proofs.Common.{◌≡◌, ◌++◌, take}
use Rattle.std.specs.Prelude.{flat_map}
use Rattle.vio_trace.specs.Text.{entry_text}
use Rattle.vio_trace.proofs.lines.put_entries.Given as goal

abbrev pub invariant-loop-entry : goal.invariant-loop-entry
invariant-loop-entry l = l.buffer.items ≡ l.initial.buffer.items ++ flat_map (entry_text l.word) (take l.entry-index l.entries)
