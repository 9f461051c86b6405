use Rattle.std.proofs.Common.{refl, sym, subst, length, ◌+◌, ◌<◌, ◌≡◌, [], ◌∷◌, ◌++◌, ap}
use Rattle.crq_ring.specs.declared.rows.PipeRow.{PipeRow}
use Rattle.crq_ring.specs.Pipe.{sent_now, taken_now, row_now}
use Rattle.crq_ring.proofs.Values.{received}
use Rattle.crq_ring.proofs.Sessions.{HandsOver-put, Present-push}
use Rattle.crq_ring.proofs.Dropping.{Drops-put}
use Rattle.crq_ring.proofs.pipe.PlainPipe.keep_entry.Goals as goal

pub invariant_of-self : goal.invariant_of-self
invariant_of-self c =
    let pipe = c.self.inside in
    let kept = c.self.invariant in
    let row : PipeRow = record { session = pipe.session; entry = c.args.entry } in
    let free = subst (λ v. length (sent_now v) < length (taken_now v) + v.slots) (sym c.self.view_is) c.requires.empty_slot in
    record {
      sized = kept.sized;
      counted = kept.counted;
      hands_over = rw c.push_reserved.ensures.items (HandsOver-put pipe.sent.items pipe.taken.items pipe.slots row free kept.hands_over);
      sending = rw c.push_reserved.ensures.items (Present-push pipe.session pipe.sent_from pipe.sent.items row refl kept.sending);
      taking = kept.taking;
      dropping = rw c.push_reserved.ensures.items (Drops-put pipe.sent.items pipe.drops.items pipe.session pipe.slots row kept.dropping);
    }

pub returns-clause-done : goal.returns-clause-done
returns-clause-done c =
    received c.args.self.now _ c.number_sent-number.result c.args.entry c.requires.empty_slot c.number_sent-number.ensures
    (subst (λ v. c.push_reserved.new.self.items ≡ v.sent ++ row_now v c.args.entry ∷ []) c.self.view_is c.push_reserved.ensures.items)
    (ap (λ v. v.session) c.self.view_is) (ap (λ v. v.drops) c.self.view_is) (ap (λ v. v.counts.full) c.self.view_is)
