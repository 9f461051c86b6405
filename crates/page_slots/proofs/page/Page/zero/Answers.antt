use Rattle.std.proofs.Common.{rules}
use Rattle.std.proofs.Common.{arith}
use Rattle.page_slots.proofs.page.Page.zero.Goals as goal
use Rattle.page_slots.proofs.Strokes.{zeros-is}

pub invariant_of-result : goal.invariant_of-result
invariant_of-result c = record {
  kept = rw c.new.ensures.items (zeros-is _ (c.in_ok-vec.ensures.items_if_clones_equal (λ y e. search rules)));
  size = c.in_ok-vec.ensures.len;
  room = omega (arith, c.new.ensures.len, c.new.ensures.capacity);
  few = omega (arith, c.new.ensures.len);
  within = rw c.new.ensures.items tt;
}
