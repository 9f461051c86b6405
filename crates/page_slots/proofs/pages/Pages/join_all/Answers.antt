use Rattle.std.proofs.Common.{rules, ◌≡◌, ℕ, ◌<◌, false, List, [], ◌∷◌, ◌++◌, sym, ap, ◌∙◌, subst, arith}
use Rattle.page_slots.specs.Seats.{PageSeatValue, holds}
use Rattle.page_slots.specs.PageRule.{held_of}
use Rattle.page_slots.proofs.PageJoins.{member, cut_off, none_out, stands_for_more}
use Rattle.page_slots.proofs.PageSeats.{joins}
use Rattle.page_slots.proofs.pages.Pages.join_all.Goals as goal

pub join_seat-requires : goal.join_seat-requires
join_seat-requires c =
    let pages = c.self.inside in
    let key = pages.table.shared.key in
    let inv = c.loop-other.invariant in
    let back : List PageSeatValue = inv.0 in
    let st = inv.2 in
    let all : List PageSeatValue = c.args.seats.items in
    let items : List PageSeatValue = c.loop-other.seats.items in
    let rest : List PageSeatValue = c.pop-in-loop-other.new.self.items in
    let other : PageSeatValue = c.in-Some-pop.other in
    let popped : items ≡ rest ++ other ∷ [] = search rules in
    let seat = c.other.inside.seat in
    let id = sym (ap (λ v. v.id) c.self.view_is) in
    let table : seat.table_id ≡ pages.table.shared.table_id = ap (λ v. v.pages) c.other.view_is ∙ (member (λ s. s.pages ≡ c.args.self.now.id) all items rest other back inv.1 popped c.requires.all.ours ∙ id) in
    let count : c.args.self.now.count ≡ pages.count = sym (ap (λ v. v.count) c.self.view_is) in
    let none : (k : ℕ) → k < pages.count → held_of seat.me.0 k ≡ false = λ k l. ap (λ v. holds v k) c.other.view_is
    ∙ member (λ s. (k : ℕ) → k < c.args.self.now.count → holds s k ≡ false) all items rest other back inv.1 popped c.requires.all.none_held k (subst (λ n. k < n) (sym count) l) in
    let slots : seat.table_id.slots ≡ pages.count = ap (λ z. z.slots) table ∙ c.self.invariant.slots in
    let share : c.loop-other.seat.me.0.share ≡ _ = st.share in
    let some_share = st.some_share in
    let one = c.other.invariant.share in (
      st.table_is ∙ id,
      table,
      none_out seat.table_id.slots seat.me c.other.invariant.out c.other.invariant.sized (λ k l. none k (subst (λ n. k < n) slots l)),
      subst (λ n. 0 < n) (sym c.self.invariant.words) c.self.invariant.some,
      joins key.pages key.seats c.loop-other.seat.id c.loop-other.seat.me.0 seat.id seat.me.0 (subst (λ n. 0 < n) (sym share) some_share) (subst (λ n. 0 < n) (sym one) (omega arith))
          (λ k l. none k (subst (λ n. k < n) (ap (λ z. z.pages) c.self.invariant.key) l)),
    )

pub loop-other-preserved : goal.loop-other-preserved
loop-other-preserved c =
    let pages = c.self.inside in
    let inv = c.loop-other.invariant in
    let back : List PageSeatValue = inv.0 in
    let st = inv.2 in
    let all : List PageSeatValue = c.args.seats.items in
    let items : List PageSeatValue = c.loop-other.seats.items in
    let rest : List PageSeatValue = c.pop-in-loop-other.new.self.items in
    let other : PageSeatValue = c.in-Some-pop.other in
    let popped : items ≡ rest ++ other ∷ [] = search rules in
    let seat = c.other.inside.seat in
    let table : seat.table_id ≡ c.args.self.now.id = ap (λ v. v.pages) c.other.view_is ∙ member (λ s. s.pages ≡ c.args.self.now.id) all items rest other back inv.1 popped c.requires.all.ours in (
      other ∷ back,
      cut_off (λ _. Unit {0}) all items rest other back inv.1 popped,
      stands_for_more c.args.self.now back c.loop-other.seat c.join_seat.new.seat other seat.me.0 st c.join_seat.ensures.0 c.join_seat.ensures.2 record {
        share = c.other.invariant.share;
        told = c.other.invariant.told;
        seen = ap (λ v. v.seen) c.other.view_is;
        laid = ap (λ v. v.laid) c.other.view_is;
        size = c.other.invariant.sized.laid ∙ ap (λ z. z.slots) (table ∙ sym st.table_is);
      },
    )
