use Rattle.std.proofs.Common.{rules, false}
use Rattle.crq_session.specs.Side.{end_over}
use Rattle.crq_session.proofs.Events.{told}
use Rattle.crq_session.proofs.side.PlainSide.free.Goals as goal

pub returns : goal.returns
returns c =
    let did = c.put_event.ensures in
    record {
      parameter = search rules;
      success = λ l f. record {
        registered = search rules;
        freed = did.unregistered;
        tells = told false c.put_event.result c.args.event (end_over l f c.args.self.now c.args.partner.now) (end_over l f c.put_event.new.self c.put_event.new.partner)
            false _ (did.nothing l f) (did.put l f) (did.still l f) did.kept;
      };
      busy = tt;
      refused = λ l f. tt;
      rest = λ l f.
          let rest = did.rest l f in
          record { place = rest.place; last_session = rest.last_session; taken = rest.taken; counts = rest.counts; empty = rest.empty };
      room = record { puts = did.room.puts; polls = did.room.polls; renewals = did.room.renewals };
      keeps = record {
        full = did.keeps.full;
        empty = did.keeps.empty;
        closed = did.keeps.closed;
        puts = did.keeps.puts;
        polls = did.keeps.polls;
        renewals = did.keeps.renewals;
      };
    }
