use Rattle.std.proofs.Common.{rules, true, false, sym, refl, ap, ◌∙◌, subst, arith, true≢false}
use Rattle.crq_ring.specs.RingSessions.{EndsSession}
use Rattle.crq_ring.proofs.SessionLaws.{later_ended}
use Rattle.crq_ring.specs.Later.{IsLater}
use Rattle.crq_session.specs.Answers.{OnNothing, OnPut, IfKept}
use Rattle.crq_session.specs.Answered.{Puts, Loses, FindsFull}
use Rattle.crq_session.specs.SeatState.{end_at, seat_spare_of}
use Rattle.crq_session.proofs.Events.{told}
use Rattle.crq_session.proofs.Seats.{closed_end}
use Rattle.crq_session.proofs.seat.LinkSeat.free.Goals as goal

pub returns : goal.returns
returns c =
    let old = c.args.self.now in
    let new = c.put_event.new.self in
    let did = c.put_event.ensures in
    let ends : EndsSession old.recv c.end.new.recv = search rules in
    let mid = record old { recv = c.end.new.recv; idle = λ still. absurd (true≢false (sym still ∙ ends.is_open)) } in
    record {
      parameter = search rules;
      success = λ place n.
          let was = closed_end place old mid ends refl refl refl refl in
          record {
            registered = search rules;
            freed = ap (λ v. v.is_open) did.recv ∙ ends.is_open;
            tells = told true c.put_event.result c.args.event (end_at place old) (end_at place new) false (seat_spare_of mid)
                (subst (λ x. OnNothing c.put_event.result (Loses true x (end_at place new))) was (did.nothing place n))
                (subst (λ x. OnPut c.put_event.result (Puts true x c.args.event (end_at place new))) was (did.put place n))
                (subst (λ x. IfKept c.put_event.result (FindsFull true x (end_at place new))) was (did.still place n)) did.kept;
          };
      ended = subst (λ v. EndsSession old.recv v) (sym did.recv) ends;
      busy = λ place n. tt;
      busy_read = tt;
      refused = λ place n. tt;
      rest = λ place n.
          let rest = did.rest place n in
          record {
            place = refl;
            last_session = rest.last_session ∙ ends.session;
            taken = rest.taken ∙ ends.taken;
            counts = record {
              partner_session = rest.counts.partner_session;
              same_session = rest.counts.same_session;
              full = rest.counts.full;
              empty = omega (arith, rest.empty, ends.empty);
              closed = rest.counts.closed;
              in_use = rest.counts.in_use;
            };
            empty = rest.empty ∙ ends.empty;
          };
      room = record { puts = did.room.puts; polls = omega (arith, did.room.polls, ends.spare); renewals = omega (arith, did.room.renewals, ends.renewals) };
      keeps = record {
        first = did.keeps.first;
        send_ring = did.keeps.send_ring;
        outside = did.keeps.outside;
        later = subst (λ v. IsLater old.recv v) (sym did.recv) (later_ended old.recv c.end.new.recv ends);
      };
    }
