-- What a registration comes to, once the kept event was put or lost and the next session opened.
use Rattle.std.proofs.Common.{rules, ◌≡◌, refl, sym, ap, subst, ◌∙◌, ◌+◌, ◌≤◌, Bool, true, false, List, None, arith}
use Rattle.std.specs.Borrow.{GName}
use Rattle.crq_ring.specs.Pipe.{Renews}
use Rattle.crq_session.specs.declared.side.PlainSide.{PlainSide}
use Rattle.crq_session.specs.Answered.{Opens, Settles}
use Rattle.crq_session.specs.EndState.{OnlyPushes, OnlyRegisters}
use Rattle.crq_session.specs.Side.{end_over}
use Rattle.crq_session.proofs.Events.{settles_on}

-- A side opened its next session, and read the partner's control word.
pub record Begins (old new : PlainSide) : Type 0 where
  pub queue : Renews old.queue new.queue
  pub registered : new.registered ≡ true
  pub kept : new.kept ≡ None
  pub closed : old.closed ≤ new.closed

pub begins : (old mid new : PlainSide) → Renews old.queue mid.queue → mid.registered ≡ true → mid.kept ≡ None → mid.closed ≡ old.closed
    → new.queue ≡ mid.queue → new.registered ≡ mid.registered → new.kept ≡ mid.kept → mid.closed ≤ new.closed → Begins old new
begins old mid new renews registered kept same queue registered' kept' closed = record {
  queue = subst (λ q. Renews old.queue q) (sym queue) renews;
  registered = registered' ∙ registered;
  kept = kept' ∙ kept;
  closed = omega (arith, closed, same);
}

-- the end before the registration, after the kept event was settled, and after the session began
pub opens : (own pushed new partner partner' : PlainSide) (l : List GName) (f : Bool) → own.registered ≡ false → pushed.queue ≡ own.queue
    → Begins pushed new → Settles false own.kept (end_over l f own partner) (end_over l f pushed partner')
    → Opens false (end_over l f own partner) (end_over l f new partner')
opens own pushed new partner partner' l f unregistered same begun settles = record {
  unregistered = unregistered;
  registered = begun.registered;
  session = begun.queue.session ∙ ap (λ q. q.session + 1) same;
  none_taken = begun.queue.taken_now;
  none_received = λ _. begun.queue.sent_now;
  kept = begun.kept;
  settles = settles_on false own.kept (end_over l f own partner) (end_over l f pushed partner') (end_over l f new partner') refl refl refl begun.closed settles;
}

pub only_registers : (own pushed new partner partner' : PlainSide) (l : List GName) (f : Bool) → pushed.queue ≡ own.queue → Begins pushed new
    → OnlyPushes false (end_over l f own partner) (end_over l f pushed partner')
    → OnlyRegisters false (end_over l f own partner) (end_over l f new partner')
only_registers own pushed new partner partner' l f same begun rest = record {
  place = search (rules, rest.place, same, begun.queue.slots, begun.queue.sent, begun.queue.drops, begun.queue.counts);
  last_session = omega (arith, begun.queue.session, ap (λ q. q.session) same);
  taken = begun.queue.taken ∙ ap (λ q. q.taken) same;
  counts = record {
    partner_session = rest.counts.partner_session;
    same_session = rest.counts.same_session;
    full = rest.counts.full;
    empty = search (rules, same, begun.queue.counts);
    closed = omega (arith, rest.counts.closed, begun.closed);
    in_use = rest.counts.in_use;
  };
  empty = search (rules, same, begun.queue.counts);
  in_use = rest.in_use;
}
