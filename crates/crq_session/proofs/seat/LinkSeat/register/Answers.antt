use Rattle.std.proofs.Common.{rules, refl, ap, arith}
use Rattle.crq_session.specs.SeatCalls.{SeesWord}
use Rattle.crq_session.proofs.Events.{not_kept}
use Rattle.crq_session.proofs.Seats.{opens_seat, registers_seat, closed_seat, spends_seat, keeps_seat, read_last}
use Rattle.crq_session.proofs.seat.LinkSeat.register.Goals as goal

pub returns-in-Kept : goal.returns-in-Kept
returns-in-Kept c =
    let pushed = c.push_event.ensures in
    record {
      parameter = search rules;
      resource = search rules;
      opened = λ place n. tt;
      closed = λ place n. tt;
      closed_read = tt;
      busy = λ place n. record {
        unregistered = search rules;
        still = search rules;
        session = ap (λ v. v.session) pushed.recv;
        kept = c.in-Kept.ensures.still place n;
      };
      busy_read = c.in-Kept.ensures.still_read;
      refused = λ place n. tt;
      rest = λ place n.
          let rest = pushed.rest place n in
          record {
            place = refl;
            last_session = omega (arith, rest.last_session);
            taken = rest.taken;
            counts = rest.counts;
            empty = rest.empty;
            in_use = rest.in_use;
          };
      room = pushed.room;
      keeps = pushed.keeps;
    }

pub returns-in-Some : goal.returns-in-Some
returns-in-Some c =
    let old = c.args.self.now in
    let mid = c.push_event.new.self in
    let pushed = c.push_event.ensures in
    let none = not_kept c.push_event.result _ c.in_default.not-Kept pushed.none in
    let begun = record mid { recv = c.begin.new.recv; idle = λ still. search (rules, none) } in
    let new = c.closed_word.new.self in
    let sees = c.closed_word.ensures.rest in
    let read : SeesWord begun new = record { send = sees.send; recv = sees.recv; first = sees.first; kept = sees.kept; closed = sees.closed; in_use = sees.in_use } in
    record {
      parameter = search rules;
      resource = search rules;
      opened = λ place n. opens_seat place old mid begun new _ pushed.recv c.begin.ensures refl refl refl refl read (search rules) none
          (not_kept c.push_event.result _ c.in_default.not-Kept (pushed.settles place n));
      closed = λ place n. closed_seat place old mid begun new _ pushed.recv c.begin.ensures refl refl refl refl read c.in-Some.control
          (pushed.rest place n).counts.closed (c.in-Some.ensures.word place);
      closed_read = read_last old mid begun new _ pushed.recv c.begin.ensures refl read c.in-Some.control pushed.reads c.in-Some.ensures.read;
      busy = λ place n. tt;
      busy_read = tt;
      refused = λ place n. tt;
      rest = λ place n. registers_seat place old mid begun new _ pushed.recv c.begin.ensures refl refl refl refl read (pushed.rest place n);
      room = spends_seat old mid begun new _ pushed.recv c.begin.ensures refl read pushed.room;
      keeps = keeps_seat old mid begun new _ pushed.recv c.begin.ensures refl read refl pushed.keeps;
    }

pub returns-in-None : goal.returns-in-None
returns-in-None c =
    let old = c.args.self.now in
    let mid = c.push_event.new.self in
    let pushed = c.push_event.ensures in
    let none = not_kept c.push_event.result _ c.in_default.not-Kept pushed.none in
    let begun = record mid { recv = c.begin.new.recv; idle = λ still. search (rules, none) } in
    let new = c.closed_word.new.self in
    let sees = c.closed_word.ensures.rest in
    let read : SeesWord begun new = record { send = sees.send; recv = sees.recv; first = sees.first; kept = sees.kept; closed = sees.closed; in_use = sees.in_use } in
    record {
      parameter = search rules;
      resource = search rules;
      opened = λ place n. opens_seat place old mid begun new _ pushed.recv c.begin.ensures refl refl refl refl read (search rules) none
          (not_kept c.push_event.result _ c.in_default.not-Kept (pushed.settles place n));
      closed = λ place n. tt;
      closed_read = tt;
      busy = λ place n. tt;
      busy_read = tt;
      refused = λ place n. tt;
      rest = λ place n. registers_seat place old mid begun new _ pushed.recv c.begin.ensures refl refl refl refl read (pushed.rest place n);
      room = spends_seat old mid begun new _ pushed.recv c.begin.ensures refl read pushed.room;
      keeps = keeps_seat old mid begun new _ pushed.recv c.begin.ensures refl read refl pushed.keeps;
    }
