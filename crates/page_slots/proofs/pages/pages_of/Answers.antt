use Rattle.std.proofs.Common.{rules, ◌≡◌, ℕ, ◌+◌, ◌<◌, false, get_or, sym, ap, ◌∙◌, subst, arith}
use Rattle.std.specs.Mem.Slots.{slots_items, slots_filled}
use Rattle.std.specs.Mem.Slots.Ownership.{Filled}
use mathlib.Core.Option.{some}
use lib.ListN.{get_elem?}
use Rattle.page_slots.specs.PageClosing.{ArePages}
use Rattle.page_slots.proofs.PageLeaves.{not_empty, still_filled, one_emptied, one_page}
use Rattle.page_slots.proofs.pages.pages_of.Goals as goal

pub unreachable-requires : goal.unreachable-requires
unreachable-requires c =
    let there = c.requires.there c.loop-k.k c.loop-k-test.true in
    not_empty (slots_items c.loop-k.closed.slots) (slots_items c.args.closed.slots) c.loop-k.k c.take.result there.0 c.loop-k.invariant.items c.take.ensures.value there.1 c.in_default.is

pub loop-k-preserved : goal.loop-k-preserved
loop-k-preserved c =
    let inv = c.loop-k.invariant in
    let k : ℕ = c.loop-k.k in
    let more = c.loop-k-test.true in
    let after = c.take.ensures.others in
    let here = ap (λ l. get_elem? l k) (sym inv.items) ∙ (c.take.ensures.value ∙ ap some c.in-Some.is) in
    record {
      within = omega (arith, more);
      made = search rules;
      room = search rules;
      size = after.2 ∙ inv.size;
      items = after.0 ∙ inv.items;
      filled = subst (λ fs. Filled fs (k + 1) c.args.count) (sym after.1) (still_filled (slots_filled c.loop-k.closed.slots) k c.args.count inv.filled);
      emptied = subst (λ fs. (j : ℕ) → j < k + 1 → get_or fs j false ≡ false) (sym after.1) (one_emptied (slots_filled c.loop-k.closed.slots) k inv.emptied);
      pages = subst (λ l. ArePages (slots_items c.args.closed.slots) (k + 1) l) (sym c.push_reserved.ensures.items) (one_page (slots_items c.args.closed.slots) k c.loop-k.list.items c.in-Some.page inv.made inv.pages here);
    }
