use Rattle.std.proofs.Common.{ap, sym, refl, ◌∙◌}
use Rattle.crq_ring.specs.RingSteps.{Seated}
use Rattle.crq_ring.proofs.RingActs.{some_words}
use Rattle.crq_ring.proofs.RingAllows.{hears_room}
use Rattle.crq_ring.proofs.RingValues.{told, SendShows, known_room}
use Rattle.crq_ring.proofs.RingSeats.{knows_room}
use Rattle.crq_ring.proofs.ring.Ring.know.Goals as goal

pub join_seat-requires : goal.join_seat-requires
join_seat-requires c =
    let id = sym (ap (λ v. v.id) c.self.view_is) in (
      ap (λ v. v.ring) c.send.view_is ∙ c.requires.ours.0 ∙ id,
      ap (λ v. v.ring) c.room.view_is ∙ c.requires.ours.1 ∙ id,
      c.room.invariant.carries_none,
      some_words _ _ c.self.invariant.words,
      knows_room c.self.inside.table.shared.key.slots c.send.inside.seat.id c.send.inside.seat.me.0 c.room.inside.seat.id c.room.inside.seat.me.0 c.send.invariant.ours.role_is c.room.invariant.role_is,
    )

pub load-requires : goal.load-requires
load-requires c =
    let me : Seated = c.join_seat.new.seat.me in (
      c.join_seat.ensures.0 ∙ (ap (λ v. v.ring) c.send.view_is ∙ c.requires.ours.0 ∙ sym (ap (λ v. v.id) c.self.view_is)),
      some_words _ _ c.self.invariant.words,
      hears_room c.self.inside.table.shared.key.slots c.self.inside.table.shared.table_id.slots c.join_seat.new.seat.id me (ap (λ (m : Seated). m.0.role) c.join_seat.ensures.2 ∙ c.send.invariant.ours.role_is),
    )

pub returns-clause-knows : goal.returns-clause-knows
returns-clause-knows c =
    let me : Seated = c.load.new.seat.me in
    let note = c.room.inside.seat.me.0 in
    let known = told c.join_seat.new.seat.me me c.send.inside.seat.me.0 note (ap (λ (m : Seated). m.0) c.join_seat.ensures.2) c.load.ensures.2.0 in
    let is : SendShows _ me = record {
      session = c.send.invariant.ours.session_is ∙ (sym (ap (λ (m : Seated). m.0.session) c.join_seat.ensures.2) ∙ sym c.load.ensures.2.0.keeps.session);
      inside = refl;
      sent = c.send.invariant.ours.rows_are ∙ (sym (ap (λ (m : Seated). m.0.own) c.join_seat.ensures.2) ∙ sym c.load.ensures.2.0.own);
      known = refl;
      last = refl;
    } in
    rw (← c.room.view_is) (known_room _ me is note known.0 known.1 c.load.ensures.2.1 _ _)
