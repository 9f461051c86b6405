use Rattle.std.proofs.Common.{List, ◌∙◌, subst, arith}
use Rattle.std.specs.List.{All}
use Rattle.vio_num.specs.Words.{Begins}
use Rattle.tce_window.specs.declared.answers.TceRow.{TceRow}
use Rattle.entry_slots.proofs.EntrySeats.{ends, all_fronts}
use Rattle.entry_slots.proofs.entries.Entries.close.Goals as goal

pub free-requires : goal.free-requires
free-requires c k less =
    let count = c.close_with.ensures.counts.1 in
    let none = c.self.invariant.slots in
    absurd (omega (arith, less, count, none))

pub returns : goal.returns
returns c =
    let entries = c.self.inside in
    let key = entries.table.shared.key in
    let st = c.join_guests-seat.ensures in
    let seat = c.join_guests-seat.result in
    let last = c.close_with.ensures.values.2 in
    let told : All (λ known. Begins known seat.me.0.rows) seat.me.0.told = ends key.entries key.seats seat.id seat.me.0 last.0 last.1.0 last.1.1 (st.owns ∙ c.requires.owner.1) in
    all_fronts c.args.guests.items c.args.owner.rows (subst (λ (z : List TceRow × List (List TceRow)). All (λ known. Begins known z.0) z.1) (λ i. (st.rows i, st.told i)) told)
