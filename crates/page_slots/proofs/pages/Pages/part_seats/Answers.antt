use Rattle.std.proofs.Common.{◌≡◌, ◌<◌, sym, ap, ◌∙◌, subst, arith}
use Rattle.page_slots.specs.PageSteps.{Seated}
use Rattle.page_slots.proofs.PageSeats.{parts}
use Rattle.page_slots.proofs.pages.Pages.part_seats.Goals as goal

pub split_seat-seat-requires : goal.split_seat-seat-requires
split_seat-seat-requires c =
    let pages = c.self.inside in
    let first = c.loop-left.first in
    let key = pages.table.shared.key in
    let unused = c.loop-left.invariant.unused in
    let several = c.loop-left-test.true in
    let share : first.me.0.share ≡ c.loop-left.left = ap (λ (m : Seated). m.0.share) unused.me in (
      unused.table_is ∙ sym (ap (λ v. v.id) c.self.view_is),
      subst (λ n. 0 < n) (sym c.self.invariant.words) c.self.invariant.some,
      parts key.pages key.seats first.id first.me.0 (omega (arith, share, several)),
    )
