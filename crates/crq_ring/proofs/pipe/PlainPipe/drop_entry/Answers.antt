use Rattle.std.proofs.Common.{arith, ap, ◌≡◌, ◌-◌, Some, slice_get, sym, subst}
use Rattle.vio_num.specs.Counts.{Rose}
use Rattle.vio_num.specs.Queue.{LawfulDrop}
use Rattle.crq_ring.specs.declared.rows.DropRow.{DropRow}
use Rattle.crq_ring.specs.Pipe.{sent_now, taken_now}
use Rattle.crq_ring.specs.Sessions.{recorded}
use Rattle.crq_ring.proofs.Values.{overflowed}
use Rattle.crq_ring.proofs.Dropping.{lawful_at, Drops-record}
use Rattle.crq_ring.proofs.pipe.PlainPipe.drop_entry.Goals as goal

pub invariant_of-self : goal.invariant_of-self
invariant_of-self c =
    let pipe = c.self.inside in
    let kept = c.self.invariant in
    let number = c.number_sent-number.result in
    let held = c.entry_of-held.result in
    let row : DropRow = record { session = pipe.session; number = number; held = held.high } in
    let value = c.args.self.now in
    let lawful = subst (λ v. LawfulDrop (sent_now v) v.slots number held.high) (sym c.self.view_is)
    (lawful_at (sent_now value) (taken_now value) value.slots number held c.number_sent-number.ensures c.requires.full_slot
    (subst (λ v. slice_get (sent_now value) (number - v.slots) ≡ Some held) c.self.view_is c.entry_of-held.ensures)) in
    record {
      sized = kept.sized;
      counted = kept.counted;
      hands_over = kept.hands_over;
      sending = kept.sending;
      taking = kept.taking;
      dropping = rw c.add_record.ensures.items (Drops-record pipe.sent.items pipe.drops.items pipe.slots row lawful
          (rw (sym c.add_record.ensures.items) c.add_record.ensures.in_order) kept.dropping);
    }

pub returns-clause-dropped : goal.returns-clause-dropped
returns-clause-dropped c =
    let value = c.args.self.now in
    let number = c.number_sent-number.result in
    let held = c.entry_of-held.result in
    overflowed value _ number held c.requires.full_slot c.number_sent-number.ensures
    (subst (λ v. slice_get (sent_now value) (number - v.slots) ≡ Some held) c.self.view_is c.entry_of-held.ensures)
    (ap (λ v. v.sent) c.self.view_is)
    (subst (λ v. c.add_record.new.drops.items ≡ recorded v.drops (record { session = v.session; number = number; held = held.high })) c.self.view_is c.add_record.ensures.items)
    (subst (λ v. Rose v.counts.full c.saturating_add-self-inside.result) c.self.view_is (omega (arith, c.saturating_add-self-inside.ensures)))
