use Rattle.std.proofs.Common.{ap, sym, ◌∙◌, arith}
use Rattle.crq_ring.proofs.ControlActs.{zeroes_slot}
use Rattle.crq_ring.proofs.ring.Ring.zero_slots.Goals as goal

pub store-requires : goal.store-requires
store-requires c =
    let ring = c.self.inside in
    let swept = c.loop-slot.invariant.1 in
    let slots = ap (λ v. v.slots) c.self.view_is in (
      c.loop-slot.invariant.0 ∙ (c.requires.ours ∙ sym (ap (λ v. v.id) c.self.view_is)),
      omega (arith, c.loop-slot-test.true, c.self.invariant.words),
      zeroes_slot ring.table.shared.key.slots ring.slots c.loop-slot.slot _ _ c.loop-slot.seat.me c.self.invariant.key (sym swept.swept)
          record { role_is = swept.role ∙ c.requires.closed.role; slots = swept.slots ∙ (c.requires.closed.slots ∙ sym slots) }
          (swept.is_open ∙ c.requires.closed.is_open) c.loop-slot-test.true,
    )
