use Rattle.std.proofs.Common.{◌≡◌, ◌<◌, sym, ap, ◌∙◌, subst, arith}
use Rattle.entry_slots.specs.Entries.{IsNext}
use Rattle.entry_slots.specs.EntryRule.{ArePages}
use Rattle.entry_slots.specs.EntrySteps.{Pins}
use Rattle.entry_slots.proofs.EntryAllows.{pins_it}
use Rattle.entry_slots.proofs.EntryPages.{shown_page}
use Rattle.entry_slots.proofs.entries.Entries.pin.Goals as goal

pub fetch_add-bits-requires : goal.fetch_add-bits-requires
fetch_add-bits-requires c =
    let entries = c.self.inside in
    let seat = c.seat.inside.seat in
    let key = entries.table.shared.key in
    let within : c.args.entry < entries.count = subst (λ n. c.args.entry < n) (sym (ap (λ v. v.count) c.self.view_is)) c.requires.within in (
      ap (λ v. v.entries) c.seat.view_is ∙ c.requires.ours ∙ sym (ap (λ v. v.id) c.self.view_is),
      subst (λ n. c.args.entry < n) (sym c.self.invariant.words) within,
      pins_it key.entries key.seats seat.id seat.me.0 c.args.entry
          (subst (λ n. c.args.entry < n) (sym (ap (λ z. z.entries) c.self.invariant.key)) within)
          (subst (λ n. 0 < n) (sym c.seat.invariant.share) (omega arith))
          (subst (λ v. IsNext v c.args.entry) (sym c.seat.view_is) c.requires.next)
          entries.table.shared.table_id.slots seat.me.1,
    )

pub returns-clause-page : goal.returns-clause-page
returns-clause-page c right =
    let seat = c.seat.inside.seat in
    let entries = c.self.inside in
    let count : entries.count ≡ c.args.self.now.count = ap (λ v. v.count) c.self.view_is in
    let p : Pins c.args.entry seat.me c.fetch_add-bits.result c.fetch_add-bits.new.seat.me = c.fetch_add-bits.ensures.2 in
    let ours : seat.table_id ≡ entries.table.shared.table_id = ap (λ v. v.entries) c.seat.view_is ∙ c.requires.ours ∙ sym (ap (λ v. v.id) c.self.view_is) in
    let size : seat.me.0.entries ≡ c.args.self.now.count = c.seat.invariant.size ∙ (ap (λ t. t.words) ours ∙ (c.self.invariant.words ∙ count)) in
    shown_page c.args.self.now.count c.args.entry c.fetch_add-bits.result p.rows c.requires.within (subst (λ n. ArePages n p.rows) size p.pages) p.shows right
