use Rattle.std.proofs.Common.{rules, [], false, arith, ap, ◌∙◌, sym}
use Rattle.crq_session.proofs.Events.{not_kept}
use Rattle.crq_session.proofs.Registration.{begins, opens, only_registers}
use Rattle.crq_session.proofs.side.PlainSide.register.Goals as goal

pub returns-in-Kept : goal.returns-in-Kept
returns-in-Kept c =
    let pushed = c.push_event.ensures in
    record {
      parameter = search rules;
      resource = search rules;
      opened = λ l f. tt;
      success = tt;
      closed = λ l f. tt;
      busy = λ l f. record {
        unregistered = search rules;
        still = search rules;
        session = ap (λ q. q.session) pushed.own;
        kept = c.in-Kept.ensures.still l f;
      };
      refused = λ l f. tt;
      rest = λ l f.
          let rest = pushed.rest l f in
          record {
            place = rest.place;
            last_session = search rules;
            taken = rest.taken;
            counts = rest.counts;
            empty = rest.empty;
            in_use = rest.in_use;
          };
      room = search (rules, pushed.room);
      keeps = search (rules, pushed.keeps);
    }

pub returns-in-Some : goal.returns-in-Some
returns-in-Some c =
    let pushed = c.push_event.ensures in
    let opened = c.open_session.ensures in
    let read = c.closed_word.ensures in
    let begun = begins c.push_event.new.self c.open_session.new.self c.closed_word.new.self opened.queue opened.registered opened.kept opened.closed
    read.queue read.registered read.kept read.later in
    record {
      parameter = search rules;
      resource = search rules;
      opened = λ l f. opens c.args.self.now c.push_event.new.self c.closed_word.new.self c.args.partner.now c.push_event.new.partner l f
          (search rules) pushed.own begun (not_kept c.push_event.result _ c.in_default.not-Kept (pushed.settles l f));
      success = tt;
      closed = λ l f.
          let rest = pushed.rest l f in
          record {
            meets = record {
              closed = omega (arith, rest.counts.closed, opened.closed, c.in-Some.ensures.closed);
              partner = λ _. sym (ap (λ p. p.partner_registered) rest.place) ∙ c.in-Some.ensures.partner;
            };
            shows = search (rules, c.in-Some.ensures.word);
            word_is = λ _. c.in-Some.ensures.word;
          };
      busy = λ l f. tt;
      refused = λ l f. tt;
      rest = λ l f. only_registers c.args.self.now c.push_event.new.self c.closed_word.new.self c.args.partner.now c.push_event.new.partner l f
          pushed.own begun (pushed.rest l f);
      room = search (rules, pushed.room, pushed.own, begun.queue);
      keeps = search (rules, pushed.keeps, pushed.own, begun.queue);
    }

pub returns-in-None : goal.returns-in-None
returns-in-None c =
    let pushed = c.push_event.ensures in
    let opened = c.open_session.ensures in
    let read = c.closed_word.ensures in
    let begun = begins c.push_event.new.self c.open_session.new.self c.closed_word.new.self opened.queue opened.registered opened.kept opened.closed
    read.queue read.registered read.kept read.later in
    record {
      parameter = search rules;
      resource = search rules;
      opened = λ l f. opens c.args.self.now c.push_event.new.self c.closed_word.new.self c.args.partner.now c.push_event.new.partner l f
          (search rules) pushed.own begun (not_kept c.push_event.result _ c.in_default.not-Kept (pushed.settles l f));
      success = sym (ap (λ p. p.partner_registered) (pushed.rest [] false).place) ∙ c.in-None.ensures.none.0;
      closed = λ l f. tt;
      busy = λ l f. tt;
      refused = λ l f. tt;
      rest = λ l f. only_registers c.args.self.now c.push_event.new.self c.closed_word.new.self c.args.partner.now c.push_event.new.partner l f
          pushed.own begun (pushed.rest l f);
      room = search (rules, pushed.room, pushed.own, begun.queue);
      keeps = search (rules, pushed.keeps, pushed.own, begun.queue);
    }
