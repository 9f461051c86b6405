use Rattle.std.proofs.Common.{◌≡◌, [], ◌∷◌, ◌++◌, ap, Some, slice_get, length, refl, sym, subst}
use Rattle.crq_ring.specs.declared.rows.PipeRow.{PipeRow}
use Rattle.crq_ring.specs.Pipe.{sent_now, taken_now, row_now}
use Rattle.crq_ring.proofs.Values.{yielded}
use Rattle.crq_ring.proofs.Sessions.{HandsOver-take, Present-push}
use Rattle.crq_ring.proofs.pipe.PlainPipe.poll.Goals as goal

pub invariant_of-self-2 : goal.invariant_of-self-2
invariant_of-self-2 c =
    let pipe = c.self.inside in
    let kept = c.self.invariant in
    let row : PipeRow = record { session = pipe.session; entry = c.entry_of-entry.result } in
    let found = subst (λ v. slice_get (sent_now v) (length (taken_now v)) ≡ Some c.entry_of-entry.result) (sym c.self.view_is)
    (subst (λ k. slice_get (sent_now c.args.self.now) k ≡ Some c.entry_of-entry.result) c.number_taken-number.ensures c.entry_of-entry.ensures) in
    record {
      sized = kept.sized;
      counted = kept.counted;
      hands_over = rw c.push_reserved.ensures.items (HandsOver-take pipe.sent.items pipe.taken.items pipe.slots row found kept.hands_over);
      sending = kept.sending;
      taking = rw c.push_reserved.ensures.items (Present-push pipe.session pipe.taken_from pipe.taken.items row refl kept.taking);
      dropping = kept.dropping;
    }

pub returns-clause-got : goal.returns-clause-got
returns-clause-got c =
    yielded c.args.self.now _ c.number_taken-number.result c.entry_of-entry.result c.number_taken-number.ensures c.entry_of-entry.ensures
    (subst (λ v. c.push_reserved.new.self.items ≡ v.taken ++ row_now v c.entry_of-entry.result ∷ []) c.self.view_is c.push_reserved.ensures.items)
    (ap (λ v. v.session) c.self.view_is) (ap (λ v. v.counts.empty) c.self.view_is)
