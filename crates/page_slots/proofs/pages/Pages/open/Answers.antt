use Rattle.std.proofs.Common.{rules, ◌≡◌, ℕ, List, replicate, sym, subst}
use Rattle.atomic_table.specs.Table.{opening}
use Rattle.page_slots.specs.PageRule.{Slot, opened, blank_slots, InTurn}
use Rattle.page_slots.proofs.PageEnds.{opens}
use Rattle.page_slots.proofs.pages.Pages.open.Goals as goal

pub new-requires : goal.new-requires
new-requires c =
    let n : ℕ = c.args.count in
    let words : c.as_slice.result.now ≡ replicate n 0 = search rules in
    let slots : c.in_ok-slots.slots.items ≡ blank_slots n = search rules in
    subst (λ (z : List ℕ × List Slot). InTurn n c.args.seats (opening z.0 z.1 (opened record { pages = n; seats = c.args.seats }))) (λ i. (sym words i, sym slots i)) (opens n c.args.seats)
