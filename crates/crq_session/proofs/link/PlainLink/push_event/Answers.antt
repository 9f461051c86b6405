use Rattle.crq_session.proofs.link.PlainLink.push_event.Goals as goal

pub returns-then-first : goal.returns-then-first
returns-then-first c = rw c.if-first.true record {
  nothing = c.push_event.ensures.nothing;
  put = c.push_event.ensures.put;
  still = c.push_event.ensures.still;
  rest = c.push_event.ensures.rest;
  room = c.push_event.ensures.room;
  keeps = c.push_event.ensures.keeps;
}

pub returns-else-first : goal.returns-else-first
returns-else-first c = rw c.if-first.false record {
  nothing = c.push_event-else-first.ensures.nothing;
  put = c.push_event-else-first.ensures.put;
  still = c.push_event-else-first.ensures.still;
  rest = c.push_event-else-first.ensures.rest;
  room = c.push_event-else-first.ensures.room;
  keeps = c.push_event-else-first.ensures.keeps;
}
