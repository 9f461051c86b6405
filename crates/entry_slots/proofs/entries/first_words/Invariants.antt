use Rattle.std.proofs.Common.{◌-◌, ◌≤◌}
use Rattle.std.specs.Prelude.{vec_capacity}
use Rattle.entry_slots.specs.EntryCuts.{AreFirst}
use Rattle.entry_slots.proofs.entries.first_words.Given as goal

abbrev pub invariant-loop-entry : goal.invariant-loop-entry
invariant-loop-entry l = record {
  first : AreFirst l.entry l.words.items;
  within : l.entry ≤ l.count;
  room : l.count ≤ vec_capacity l.words;
}

abbrev pub decreases-loop-entry : goal.decreases-loop-entry
decreases-loop-entry l = l.count - l.entry
