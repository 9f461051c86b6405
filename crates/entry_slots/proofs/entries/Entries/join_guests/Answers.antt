use Rattle.std.proofs.Common.{rules, ◌≡◌, ◌<◌, List, [], ◌∷◌, ◌++◌, sym, ap, ◌∙◌, subst, arith}
use Rattle.entry_slots.specs.Entries.{EntrySeatValue}
use Rattle.entry_slots.specs.EntrySteps.{Seated}
use Rattle.entry_slots.proofs.EntrySeats.{joins, member, cut_off}
use Rattle.entry_slots.proofs.entries.Entries.join_guests.Goals as goal

pub join_seat-requires : goal.join_seat-requires
join_seat-requires c =
    let entries = c.self.inside in
    let key = entries.table.shared.key in
    let inv = c.loop-other.invariant in
    let back : List EntrySeatValue = inv.0 in
    let all : List EntrySeatValue = c.args.guests.items in
    let items : List EntrySeatValue = c.loop-other.guests.items in
    let rest : List EntrySeatValue = c.pop.new.self.items in
    let other : EntrySeatValue = c.in-Some.other in
    let popped : items ≡ rest ++ other ∷ [] = search rules in
    let seat = c.other.inside.seat in
    let id = sym (ap (λ v. v.id) c.self.view_is) in
    let none : seat.me.0.held_count ≡ 0 = ap (λ v. v.held_count) c.other.view_is ∙ member (λ s. s.held_count ≡ 0) all items rest other back inv.1 popped c.requires.guests.none_held in (
      inv.2.table_is ∙ id,
      ap (λ v. v.entries) c.other.view_is ∙ (member (λ s. s.entries ≡ c.args.self.now.id) all items rest other back inv.1 popped c.requires.guests.ours ∙ id),
      c.other.invariant.out,
      subst (λ n. 0 < n) (sym c.self.invariant.words) c.self.invariant.some,
      joins key.entries key.seats c.loop-other.seat.id c.loop-other.seat.me.0 seat.id seat.me.0 none inv.2.some_share,
    )

pub loop-other-preserved : goal.loop-other-preserved
loop-other-preserved c =
    let inv = c.loop-other.invariant in
    let back : List EntrySeatValue = inv.0 in
    let st = inv.2 in
    let all : List EntrySeatValue = c.args.guests.items in
    let items : List EntrySeatValue = c.loop-other.guests.items in
    let rest : List EntrySeatValue = c.pop.new.self.items in
    let other : EntrySeatValue = c.in-Some.other in
    let popped : items ≡ rest ++ other ∷ [] = search rules in
    let seat = c.other.inside.seat in
    let after = c.join_seat.ensures.2 in
    let some_share = st.some_share in (
      other ∷ back,
      cut_off (λ _. Unit {0}) all items rest other back inv.1 popped,
      record {
        table_is = c.join_seat.ensures.0 ∙ st.table_is;
        some_share = subst (λ (m : Seated). 0 < m.0.share) (sym after) (omega (arith, some_share));
        rows = ap (λ (m : Seated). m.0.rows) after ∙ st.rows;
        owns = ap (λ (m : Seated). m.0.owns) after ∙ st.owns;
        told = ap (λ (m : Seated). m.0.told) after ∙ ((λ i. ap (λ v. v.rows) c.other.view_is i ∷ (c.other.invariant.told i ++ st.told i)));
        none_out = ap (λ (m : Seated). m.1) after ∙ st.none_out;
      },
    )
