use Rattle.std.proofs.Common.{◌≡◌, ℕ, ◌-◌, ◌<◌, ◌≤◌, false, length, get_or}
use Rattle.std.specs.Prelude.{vec_capacity}
use Rattle.std.specs.Mem.Slots.{slots_items, slots_filled, slots_len}
use Rattle.std.specs.Mem.Slots.Ownership.{Filled}
use Rattle.page_slots.specs.PageClosing.{ArePages}
use Rattle.page_slots.proofs.pages.pages_of.Given as goal

abbrev pub invariant-loop-k : goal.invariant-loop-k
invariant-loop-k l = record {
  within : l.k ≤ l.count;
  made : length l.list.items ≡ l.k;
  room : l.count ≤ vec_capacity l.list;
  size : slots_len l.closed.slots ≡ l.count;
  items : slots_items l.closed.slots ≡ slots_items l.fn.closed.slots;
  filled : Filled (slots_filled l.closed.slots) l.k l.count;
  emptied : (j : ℕ) → j < l.k → get_or (slots_filled l.closed.slots) j false ≡ false;
  pages : ArePages (slots_items l.fn.closed.slots) l.k l.list.items;
}

abbrev pub decreases-loop-k : goal.decreases-loop-k
decreases-loop-k l = l.count - l.k
