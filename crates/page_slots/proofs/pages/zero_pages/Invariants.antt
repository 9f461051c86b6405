use Rattle.std.proofs.Common.{◌-◌, ◌≡◌, ◌≤◌}
use Rattle.std.specs.Prelude.{vec_capacity}
use Rattle.page_slots.specs.PageRule.{blank_slots}
use Rattle.page_slots.proofs.pages.zero_pages.Given as goal

abbrev pub invariant-loop-k : goal.invariant-loop-k
invariant-loop-k l = record {
  items : l.slots.items ≡ blank_slots l.k;
  within : l.k ≤ l.count;
  room : l.count ≤ vec_capacity l.slots;
}

abbrev pub decreases-loop-k : goal.decreases-loop-k
decreases-loop-k l = l.count - l.k
