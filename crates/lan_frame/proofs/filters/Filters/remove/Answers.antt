use Rattle.std.proofs.Common.{arith, ◌≡◌, Some}
use Rattle.std.specs.List.{Contains, slice_get}
use Rattle.std.proofs.lemmas.List.Edits.{length-remove}
use Rattle.std.proofs.lemmas.List.Quantifiers.{all_pairs_remove}
use Rattle.std.proofs.lemmas.Option.{slice_get_within}
use Rattle.lan_frame.proofs.Placing.{shown_is_contained}
use Rattle.lan_frame.proofs.filters.Filters.remove.Goals as goal

-- src/filters.rt:101:17
pub invariant_of-self : goal.invariant_of-self
invariant_of-self c =
    let shown : slice_get c.self.inside.macs.items c.in-Some.place ≡ Some c.args.mac = rw (← c.as_slice.ensures.value) (c.in-Some.ensures.found)
    in let inside = slice_get_within c.self.inside.macs.items c.in-Some.place c.args.mac shown
    in rw c.remove.ensures.items (record {
      few = omega (arith, length-remove c.self.inside.macs.items c.in-Some.place inside);
      distinct = all_pairs_remove (λ one other. ¬ (one ≡ other)) _ _ inside c.self.invariant.distinct;
    })

-- src/filters.rt:92:5
pub returns-in-Some-clause-absent : goal.returns-in-Some-clause-absent
returns-in-Some-clause-absent c =
    let shown : slice_get c.self.inside.macs.items c.in-Some.place ≡ Some c.args.mac = rw (← c.as_slice.ensures.value) (c.in-Some.ensures.found)
    in let stands : Contains c.args.self.now c.args.mac = rw (← c.self.view_is) (shown_is_contained c.self.inside.macs.items c.in-Some.place c.args.mac shown)
    in ((λ e. cc e), λ none. absurd (none stands))
