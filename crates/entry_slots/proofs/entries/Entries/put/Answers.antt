use Rattle.std.proofs.Common.{◌≡◌, ℕ, ◌+◌, ◌-◌, ◌/◌, ◌<◌, ◌≤◌, true, eqb, refl, sym, ap, ◌∙◌, subst, arith}
use mathlib.Core.Option.{some}
use prog.Atomic.{either}
use Rattle.atomic_table.specs.Table.{step, Allows}
use Rattle.entry_slots.specs.EntryRule.{InEntries}
use Rattle.entry_slots.specs.Words.{code_of, entry_word}
use Rattle.entry_slots.specs.EntrySteps.{exchanged}
use Rattle.entry_slots.proofs.EntryAllows.{puts_it}
use Rattle.entry_slots.proofs.EntryWords.{fits}
use Rattle.entry_slots.proofs.entries.Entries.put.Goals as goal

pub compare_exchange_with-bits-requires : goal.compare_exchange_with-bits-requires
compare_exchange_with-bits-requires c =
    let entries = c.self.inside in
    let seat = c.seat.inside.seat in
    let key = entries.table.shared.key in
    let slots = entries.table.shared.table_id.slots in
    let row = c.args.row in
    let within : row.entry < entries.count = subst (λ n. row.entry < n) (sym (ap (λ v. v.count) c.self.view_is)) c.requires.within in
    let same : c.args.self.now.count ≡ key.entries = sym (ap (λ v. v.count) c.self.view_is) ∙ sym (ap (λ z. z.entries) c.self.invariant.key) in
    let most : c.args.self.now.count ≤ 256 = subst (λ n. n ≤ 256) (ap (λ v. v.count) c.self.view_is) c.self.invariant.few in
    let last : ℕ = row.version - 1 in
    let some_version = c.requires.version.0 in
    let few = c.requires.version.1 in
    let up : last + 1 ≡ row.version = omega (arith, some_version) in
    let after : c.word_of-after.result ≡ entry_word 0 (code_of row.value) (last + 1) = c.word_of-after.ensures ∙ ap (λ x. entry_word 0 (code_of row.value) x) (sym up) in (
      ap (λ v. v.entries) c.seat.view_is ∙ c.requires.owner.0 ∙ sym (ap (λ v. v.id) c.self.view_is),
      subst (λ n. row.entry < n) (sym c.self.invariant.words) within,
      subst (λ (z : ℕ × ℕ). Allows (InEntries key.entries key.seats) slots seat.id seat.me row.entry (λ x. either (eqb x z.0) z.1 x) (exchanged (step slots row.entry z.0 z.1 (some row)) seat.me)) (λ i. (sym c.word_of-before.ensures i, sym after i))
          (puts_it key.entries key.seats seat.id seat.me.0 row.entry last c.args.last row
          (subst (λ n. row.entry < n) (sym (ap (λ z. z.entries) c.self.invariant.key)) within)
          (subst (λ v. v.owns ≡ true) (sym c.seat.view_is) c.requires.owner.1)
          refl
          up
          (fits c.args.last c.requires.last)
          (fits row.value (λ right. let less = c.requires.page right in omega (arith, less, most)))
          (omega (arith, up, few))
          (λ right. subst (λ n. row.value / 4096 < n) same (c.requires.page right))
          slots seat.me.1),
    )

pub word_of-after-requires-clause-page : goal.word_of-after-requires-clause-page
word_of-after-requires-clause-page c right =
    let most : c.args.self.now.count ≤ 256 = subst (λ n. n ≤ 256) (ap (λ v. v.count) c.self.view_is) c.self.invariant.few in
    let less = c.requires.page right in omega (arith, less, most)
