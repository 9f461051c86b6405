use Rattle.std.proofs.Common.{◌≡◌, ◌+◌, ◌<◌, sym, ap, ◌∙◌, subst, arith}
use Rattle.entry_slots.specs.EntrySteps.{Seated}
use Rattle.entry_slots.proofs.EntrySeats.{parts}
use Rattle.entry_slots.proofs.entries.Entries.part_guests.Goals as goal

pub split_seat-seat-requires : goal.split_seat-seat-requires
split_seat-seat-requires c =
    let entries = c.self.inside in
    let first = c.loop-left.first in
    let key = entries.table.shared.key in
    let unopened = c.loop-left.invariant.unopened in
    let several = c.loop-left-test.true in
    let share : first.me.0.share ≡ c.loop-left.left + 1 = ap (λ (m : Seated). m.0.share) unopened.me in (
      unopened.table_is ∙ sym (ap (λ v. v.id) c.self.view_is),
      subst (λ n. 0 < n) (sym c.self.invariant.words) c.self.invariant.some,
      parts key.entries key.seats first.id first.me.0 (omega (arith, share, several)),
    )
