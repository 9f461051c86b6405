-- Each release shows the version that was known as the last.
use Rattle.std.proofs.Common.{arith, ◌≡◌, ℕ, ◌+◌, ◌-◌, [], ◌∷◌, ◌++◌, length, sym, ap, ◌∙◌}
use Rattle.std.proofs.lemmas.List.{append_assoc, map-append}
use Rattle.tce_window.specs.Grant.{values_of}
use Rattle.entry_slots.specs.Words.{version_in}
use Rattle.shared_window.proofs.Pins.{counts_more}
use Rattle.shared_window.proofs.pinning.unpin_all.Goals as goal

pub loop-k-preserved : goal.loop-k-preserved
loop-k-preserved c =
    let old = c.args.seat.now in
    let i = c.loop-k.invariant in
    let r = c.unpin-word.ensures in
    let word : ℕ = c.unpin-word.result.bits in
    let k : ℕ = c.loop-k.k in
    let less = c.loop-k-test.true in
    let held = c.requires.held in
    let left = i.left in
    let from = i.from in
    let count : c.unpin-word.new.seat.held_count ≡ c.loop-k.seat.held_count - 1 = ap (λ z. z.held_count) r.rest in
    let next : c.unpin-word.new.seat.held_from ≡ c.loop-k.seat.held_from + 1 = ap (λ z. z.held_from) r.rest in
    let shown : version_in word + 1 ≡ length (values_of old.rows (old.held_from + k)) = sym r.shows.current.last ∙ (λ j. length (values_of (i.rows j) (i.from j))) in
    record {
      words = i.words ++ word ∷ [];
      released = ap (λ z. z.released) r.rest ∙ (ap (λ l. l ++ word ∷ []) i.released ∙ append_assoc old.released i.words (word ∷ []));
      versions = map-append (λ w. version_in w + 1) i.words (word ∷ []) ∙ ((λ j. i.versions j ++ shown j ∷ []) ∙ sym (counts_more old.rows old.held_from k));
      rows = ap (λ z. z.rows) r.rest ∙ i.rows;
      from = omega (arith, next, from);
      left = omega (arith, count, left, less, held);
      last = ap (λ z. z.last) r.rest ∙ i.last;
      table = ap (λ z. z.entries) r.rest ∙ i.table;
      owns = ap (λ z. z.owns) r.rest ∙ i.owns;
    }
