use Rattle.std.proofs.Common.{refl, None, Some}
use Rattle.crq_session.specs.SeatState.{end_at}
use Rattle.crq_session.proofs.Seats.{sends_puts, turns_loses, full_keeps, pushes}
use Rattle.crq_session.proofs.seat.LinkSeat.put_event.Goals as goal

pub returns-in-Put : goal.returns-in-Put
returns-in-Put c =
    let old = c.args.self.now in
    let new = c.pass.new.self in
    let did = c.pass.ensures in
    record {
      nothing = λ place n. tt;
      put = λ place n. sends_puts (end_at place old) (end_at place new) None None c.args.event c.in-Put.number (c.in-Put.ensures.put place n);
      still = λ place n. tt;
      still_read = tt;
      reads = did.reads;
      kept = did.kept;
      rest = λ place n. pushes (end_at place old) (end_at place new) None new.kept (did.rest place n);
      recv = did.recv;
      room = record { puts = did.room.puts; polls = did.room.polls; renewals = did.room.renewals };
      keeps = record { first = did.keeps.first; send_ring = did.keeps.send_ring; outside = did.keeps.outside; later = did.keeps.later };
    }

pub returns-in-Closed : goal.returns-in-Closed
returns-in-Closed c =
    let old = c.args.self.now in
    let new = c.pass.new.self in
    let did = c.pass.ensures in
    record {
      nothing = λ place n. turns_loses (end_at place old) (end_at place new) None None c.in-Closed.control (c.in-Closed.ensures.closed place n);
      put = λ place n. tt;
      still = λ place n. tt;
      still_read = tt;
      reads = did.reads;
      kept = did.kept;
      rest = λ place n. pushes (end_at place old) (end_at place new) None new.kept (did.rest place n);
      recv = did.recv;
      room = record { puts = did.room.puts; polls = did.room.polls; renewals = did.room.renewals };
      keeps = record { first = did.keeps.first; send_ring = did.keeps.send_ring; outside = did.keeps.outside; later = did.keeps.later };
    }

pub returns-in-Full : goal.returns-in-Full
returns-in-Full c =
    let old = c.args.self.now in
    let new = c.pass.new.self in
    let did = c.pass.ensures in
    record {
      nothing = λ place n. tt;
      put = λ place n. tt;
      still = λ place n. full_keeps (end_at place old) (end_at place new) None (Some c.args.event) c.in-Full.number c.in-Full.held (c.in-Full.ensures.full place n);
      still_read = c.in-Full.ensures.full_read;
      reads = did.reads;
      kept = refl;
      rest = λ place n. pushes (end_at place old) (end_at place new) None (Some c.args.event) (did.rest place n);
      recv = did.recv;
      room = record { puts = did.room.puts; polls = did.room.polls; renewals = did.room.renewals };
      keeps = record { first = did.keeps.first; send_ring = did.keeps.send_ring; outside = did.keeps.outside; later = did.keeps.later };
    }
