-- Between two entries that a client takes in one step of a line: the server unit's end, as it sees there what the client took so far.
use Rattle.std.proofs.Common.{◌≡◌, ◌∙◌, ℕ, ◌+◌, List, arith, length, length-append, refl, sym, ap, ap₂}
use Rattle.crq_ring.specs.Sessions.{of_session}
use Rattle.crq_ring.specs.declared.rows.PipeRow.{PipeRow}
use Rattle.crq_ring.proofs.SessionLaws.{of_session-append}
use Rattle.crq_session.specs.Answered.{received_now, taken_now}
use Rattle.crq_session.specs.EndState.{EndPlace, EndState}
use Rattle.block_server.specs.declared.unit.Unit.{Unit}
use Rattle.vcpu_run.specs.PlainSteps.{Own, TakesEntries, beside}
use Rattle.vcpu_run.specs.PlainTalk.{AreEnds, ServerStays, TookNoMore}

-- the server unit's end, as it sees what this end took
abbrev pub seeing : (server own : EndState) → EndState
seeing server own = record server { place = record server.place { partner_taken = own.taken } }

took_before : (old new : EndState) → TakesEntries old new → TookNoMore new → TookNoMore old
took_before old new takes most = omega (arith, most, more, received)
  where
    more : length (taken_now new) ≡ length (taken_now old) + length (of_session old.last_session takes.rows)
    more =
        ap length (ap₂ (λ (q : ℕ) (rows : List PipeRow). of_session q rows) takes.rest.last_session takes.more ∙ of_session-append old.last_session old.taken takes.rows)
        ∙ length-append (taken_now old) (of_session old.last_session takes.rows)

    received : length (received_now new) ≡ length (received_now old)
    received = ap length (ap₂ (λ (q : ℕ) (rows : List PipeRow). of_session q rows) takes.rest.last_session (ap (λ (p : EndPlace). p.received) takes.rest.place))

-- these are the ends there
ends_before : (server old new : EndState) → AreEnds server new → TakesEntries old new → AreEnds (seeing server old) old
ends_before server old new ends takes = record {
  server_sees = record {
    partner = ends.server_sees.partner ∙ takes.rest.registered;
    session = ends.server_sees.session ∙ takes.rest.last_session;
    received = sym (ap (λ (p : EndPlace). p.received) takes.rest.place) ∙ ends.server_sees.received;
    taken = refl;
    slots = ends.server_sees.slots ∙ ap (λ (p : EndPlace). p.own_slots) takes.rest.place;
  };
  own_sees = record {
    partner = sym (ap (λ (p : EndPlace). p.partner_registered) takes.rest.place) ∙ ends.own_sees.partner;
    session = sym (takes.rest.counts.same_session refl) ∙ ends.own_sees.session;
    received = ends.own_sees.received ∙ takes.rest.sent;
    taken = sym (ap (λ (p : EndPlace). p.partner_taken) takes.rest.place) ∙ ends.own_sees.taken;
    slots = sym (ap (λ (p : EndPlace). p.partner_slots) takes.rest.place) ∙ ends.own_sees.slots;
  };
  server_took = ends.server_took;
  own_took = took_before old new takes ends.own_took;
}

-- What the server unit's end keeps over a step it keeps up to there, and from there on.
pub record KeptThere (unit : Unit) (server server' : EndState) (old middle new : Own) : Type 0 where
  pub before : ServerStays (beside unit server old) (beside unit (seeing server' middle.end) middle)
  pub behind : ServerStays (beside unit (seeing server' middle.end) middle) (beside unit server' new)

pub kept_there : (unit : Unit) (server server' : EndState) (old middle new : Own) → TakesEntries middle.end new.end → ServerStays (beside unit server old) (beside unit server' new)
    → KeptThere unit server server' old middle new
kept_there unit server server' old middle new takes stays = record {
  before = record {
    unit = refl;
    session = stays.session;
    registered = stays.registered;
    kept = stays.kept;
    taken = stays.taken;
    slots = stays.slots;
    ends = ends_before server' middle.end new.end stays.ends takes;
  };
  behind = record { unit = refl; session = refl; registered = refl; kept = refl; taken = refl; slots = refl; ends = stays.ends };
}
