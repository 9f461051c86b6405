use Rattle.std.proofs.Common.{ap, sym, ◌∙◌}
use Rattle.crq_ring.proofs.RingActs.{some_words}
use Rattle.crq_ring.proofs.RingSeats.{rooms}
use Rattle.crq_ring.proofs.ring.Ring.room.Goals as goal

pub split_seat-requires : goal.split_seat-requires
split_seat-requires c = (
  ap (λ v. v.ring) c.recv.view_is ∙ c.requires.ours ∙ sym (ap (λ v. v.id) c.self.view_is),
  some_words _ _ c.self.invariant.words,
  rooms c.self.inside.table.shared.key.slots c.recv.inside.seat.id c.recv.inside.seat.me.0 c.recv.invariant.ours.role_is,
)
