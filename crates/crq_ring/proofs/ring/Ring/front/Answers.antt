use Rattle.std.proofs.Common.{ap, sym, ◌∙◌}
use Rattle.crq_ring.proofs.RingActs.{some_words}
use Rattle.crq_ring.proofs.RingSeats.{fronts}
use Rattle.crq_ring.proofs.ring.Ring.front.Goals as goal

pub split_seat-requires : goal.split_seat-requires
split_seat-requires c = (
  ap (λ v. v.ring) c.send.view_is ∙ c.requires.ours ∙ sym (ap (λ v. v.id) c.self.view_is),
  some_words _ _ c.self.invariant.words,
  fronts c.self.inside.table.shared.key.slots c.send.inside.seat.id c.send.inside.seat.me.0 c.send.invariant.ours.role_is,
)
