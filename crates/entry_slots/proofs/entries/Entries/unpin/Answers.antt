use Rattle.std.proofs.Common.{◌≡◌, ◌+◌, ◌-◌, ◌%◌, ◌<◌, sym, ap, ◌∙◌, subst}
use Rattle.atomic_table.specs.Table.{step, Allows}
use mathlib.Core.Option.{none}
use Rattle.entry_slots.specs.EntryRule.{InEntries}
use Rattle.entry_slots.specs.EntrySteps.{unpinned}
use Rattle.entry_slots.proofs.EntryAllows.{unpins_it}
use Rattle.entry_slots.proofs.entries.Entries.unpin.Goals as goal

pub fetch_sub-bits-requires : goal.fetch_sub-bits-requires
fetch_sub-bits-requires c =
    let entries = c.self.inside in
    let seat = c.seat.inside.seat in
    let key = entries.table.shared.key in
    let slots = entries.table.shared.table_id.slots in
    let within : c.args.entry < entries.count = subst (λ n. c.args.entry < n) (sym (ap (λ v. v.count) c.self.view_is)) c.requires.within in
    let first : seat.me.0.held_from ≡ c.args.entry = ap (λ v. v.held_from) c.seat.view_is ∙ c.requires.first.0 in (
      ap (λ v. v.entries) c.seat.view_is ∙ c.requires.ours ∙ sym (ap (λ v. v.id) c.self.view_is),
      subst (λ n. c.args.entry < n) (sym c.self.invariant.words) within,
      subst (λ e. Allows (InEntries key.entries key.seats) slots seat.id seat.me e (λ x. (x + (18446744073709551616 - 1)) % 18446744073709551616) (unpinned (step slots e 1 0 none) seat.me)) first
          (unpins_it key.entries key.seats seat.id seat.me.0
          (subst (λ n. seat.me.0.held_from < n) (sym (ap (λ z. z.entries) c.self.invariant.key)) (subst (λ e. e < entries.count) (sym first) within))
          (subst (λ v. 0 < v.held_count) (sym c.seat.view_is) c.requires.first.1)
          slots seat.me.1),
    )
