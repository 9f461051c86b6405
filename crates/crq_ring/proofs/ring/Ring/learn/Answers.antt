use Rattle.std.proofs.Common.{ap, sym, refl, ◌∙◌}
use Rattle.crq_ring.specs.RingSteps.{Seated}
use Rattle.crq_ring.proofs.RingActs.{some_words}
use Rattle.crq_ring.proofs.RingAllows.{hears_front}
use Rattle.crq_ring.proofs.RingValues.{told, RecvShows, learnt_front}
use Rattle.crq_ring.proofs.RingSeats.{learns}
use Rattle.crq_ring.proofs.ring.Ring.learn.Goals as goal

pub join_seat-requires : goal.join_seat-requires
join_seat-requires c =
    let id = sym (ap (λ v. v.id) c.self.view_is) in (
      ap (λ v. v.ring) c.recv.view_is ∙ c.requires.ours.0 ∙ id,
      ap (λ v. v.ring) c.front.view_is ∙ c.requires.ours.1 ∙ id,
      c.front.invariant.carries_none,
      some_words _ _ c.self.invariant.words,
      learns c.self.inside.table.shared.key.slots c.recv.inside.seat.id c.recv.inside.seat.me.0 c.front.inside.seat.id c.front.inside.seat.me.0 c.recv.invariant.ours.role_is c.front.invariant.role_is,
    )

pub load-requires : goal.load-requires
load-requires c =
    let me : Seated = c.join_seat.new.seat.me in (
      c.join_seat.ensures.0 ∙ (ap (λ v. v.ring) c.recv.view_is ∙ c.requires.ours.0 ∙ sym (ap (λ v. v.id) c.self.view_is)),
      some_words _ _ c.self.invariant.words,
      hears_front c.self.inside.table.shared.key.slots c.self.inside.table.shared.table_id.slots c.join_seat.new.seat.id me (ap (λ (m : Seated). m.0.role) c.join_seat.ensures.2 ∙ c.recv.invariant.ours.role_is),
    )

pub returns-clause-learns : goal.returns-clause-learns
returns-clause-learns c =
    let me : Seated = c.load.new.seat.me in
    let note = c.front.inside.seat.me.0 in
    let known = told c.join_seat.new.seat.me me c.recv.inside.seat.me.0 note (ap (λ (m : Seated). m.0) c.join_seat.ensures.2) c.load.ensures.2.0 in
    let is : RecvShows _ me = record {
      session = c.recv.invariant.ours.session_is ∙ (sym (ap (λ (m : Seated). m.0.session) c.join_seat.ensures.2) ∙ sym c.load.ensures.2.0.keeps.session);
      is_open = c.recv.invariant.session.open_is ∙ (sym (ap (λ (m : Seated). m.0.is_open) c.join_seat.ensures.2) ∙ sym c.load.ensures.2.0.keeps.is_open);
      taken = c.recv.invariant.ours.rows_are ∙ (sym (ap (λ (m : Seated). m.0.own) c.join_seat.ensures.2) ∙ sym c.load.ensures.2.0.own);
      heard = refl;
      last = refl;
    } in
    rw (← c.front.view_is) (learnt_front _ me is note known.0 known.1 c.load.ensures.2.1 _ _)
