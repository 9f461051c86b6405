use Rattle.std.proofs.Common.{true}
use Rattle.crq_session.specs.SeatState.{end_at}
use Rattle.crq_session.proofs.Events.{still, settled, lost, pushed, none_kept}
use Rattle.crq_session.proofs.seat.LinkSeat.push_event.Goals as goal

pub returns-in-Some : goal.returns-in-Some
returns-in-Some c =
    let old = c.args.self.now in
    let new = c.put_event.new.self in
    let did = c.put_event.ensures in
    let answer = c.put_event.result in
    let event = c.in-Some.event in
    record {
      nothing = λ place n. lost true answer event (end_at place old) (end_at place new) c.in-Some.is (did.nothing place n) did.kept;
      put = λ place n. pushed true answer event (end_at place old) (end_at place new) c.in-Some.is (did.put place n) did.kept;
      still = λ place n. still true answer event (end_at place old) (end_at place new) c.in-Some.is (did.still place n) did.kept;
      still_read = did.still_read;
      reads = did.reads;
      settles = λ place n. settled true answer event (end_at place old) (end_at place new) old.kept c.in-Some.is (did.nothing place n) (did.put place n);
      none = none_kept answer event new.kept did.kept;
      rest = did.rest;
      recv = did.recv;
      room = did.room;
      keeps = did.keeps;
    }
