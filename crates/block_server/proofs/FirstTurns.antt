-- The first turn of a unit: its queue is registered, and nothing is put.
use Rattle.std.proofs.Common.{◌≡◌, ◌≢◌, ◌+◌, ◌++◌, ℕ, suc, zero, Bool, true, false, cond, true≢false, List, [], ◌∷◌, Option, Some, None, IsSome, IfSome, Result, Ok, Err, OnOk, drop, length, slice_get, slice_set, refl, sym, ◌∙◌, ap, subst, append-nil}
use Rattle.crq_ring.specs.Sessions.{of_session}
use Rattle.crq_ring.specs.declared.rows.PipeRow.{PipeRow}
use Rattle.crq_session.specs.Answered.{HoldsUp, Opens, Settles, taken_now}
use Rattle.crq_session.specs.Answers.{IfHeldUp, OnNotRegistered}
use Rattle.crq_session.specs.EndState.{EndState, OnlyRegisters, OnlyReserves}
use Rattle.crq_session.specs.declared.answers.RegAnswer.{RegAnswer}
use Rattle.crq_session.specs.declared.answers.RegAnswer.TheVariants as registering
use Rattle.vio_num.specs.declared.entry.Entry.{Entry}
use Rattle.vio_num.specs.declared.history.Grant.{Grant}
use Rattle.vio_num.specs.declared.history.Served.{Served}
use Rattle.vio_num.specs.declared.memory.NoMemory.{NoMemory}
use Rattle.block_server.specs.Talk.{AreNewUnits, BeginsAlone, AwaitsPartner, IsNewThere, IsNewUnit, IsReplied, OpensOn, OpensUnit, PutsReplies, Reach, Replies, StaysQuiet, UnitOpensOn, session_rows, to_come}
use Rattle.block_server.specs.declared.intake.Next.{Next}
use Rattle.block_server.specs.declared.intake.Next.TheVariants.{End}
use Rattle.block_server.specs.declared.unit.Unit.{Unit}
use Rattle.block_server.proofs.Units.{get_set_same}

-- NEW UNITS --------------------------------------------------------------------------------------

pub none_new : (units : List Unit) → units ≡ [] → AreNewUnits units
none_new units none = subst AreNewUnits (sym none) (λ number. tt)

new_at : (units : List Unit) (unit : Unit) → IsNewUnit unit → (number : ℕ) → IfSome (slice_get units number) IsNewUnit → IfSome (slice_get (units ++ unit ∷ []) number) IsNewUnit
new_at [] unit made zero is = made
new_at [] unit made (suc number) is = tt
new_at (first ∷ units) unit made zero is = is
new_at (first ∷ units) unit made (suc number) is = new_at units unit made number is

pub more_new : (units : List Unit) (unit : Unit) → AreNewUnits units → IsNewUnit unit → AreNewUnits (units ++ unit ∷ [])
more_new units unit all made number = new_at units unit made number (all number)

-- THE QUEUE --------------------------------------------------------------------------------------

-- nothing is put into a queue that is not registered
none_there : (b : Bool) (q : ℕ) (entries : List Entry) → b ≡ false → cond b (session_rows q entries) [] ≡ []
none_there true q entries off = absurd (true≢false off)
none_there false q entries off = refl

-- nothing is put for no reply
none_put : (b : Bool) (q : ℕ) → cond b (session_rows q []) [] ≡ []
none_put true q = refl
none_put false q = refl

sent_by : (old new : EndState) (entries : List Entry) → cond old.place.partner_registered (session_rows old.counts.partner_session entries) [] ≡ [] → PutsReplies old new entries → new.sent ≡ old.sent
sent_by old new entries none put = put ∙ ap (λ (more : List PipeRow). old.sent ++ more) none ∙ append-nil old.sent

quiet_by : (old new : EndState) (entries : List Entry) → cond old.place.partner_registered (session_rows old.counts.partner_session entries) [] ≡ [] → new.kept ≡ old.kept → Replies old new entries
    → StaysQuiet old new
quiet_by old new entries none kept is = record {
  place = is.place;
  last_session = is.last_session;
  registered = is.registered;
  kept = kept;
  sent = sent_by old new entries none is.put;
  taken = is.taken;
}

come_quiet : (old new : EndState) → StaysQuiet old new → to_come new ≡ to_come old
come_quiet old new is =
    ap (λ (z : ℕ × List PipeRow × List PipeRow). drop (length (of_session z.0 z.1)) (of_session z.0 z.2)) (λ i. (is.last_session i, is.taken i, (is.place i).received))

taken_quiet : (old new : EndState) → StaysQuiet old new → taken_now new ≡ taken_now old
taken_quiet old new is = ap (λ (z : ℕ × List PipeRow). of_session z.0 z.1) (λ i. (is.last_session i, is.taken i))

-- A session begins in which the reply is turned back, since the partner's queue is closed.
pub begins_alone : (unit unit1 unit' : Unit) (old new : Reach) (reply : Entry) → IsReplied unit1 unit' old new reply → new.queue.kept ≡ old.queue.kept
    → old.queue.place.partner_registered ≡ false → AwaitsPartner unit unit1 → BeginsAlone unit unit' old new
begins_alone unit unit1 unit' old new reply is kept off begun = record {
  unit_is = record {
    id = ap (λ (u : Unit). u.id) is.same ∙ begun.id;
    handshake = ap (λ (u : Unit). u.line.handshake) is.same ∙ begun.handshake;
    closing = ap (λ (u : Unit). u.line.closing) is.same ∙ begun.closing;
    kept = ap (λ (u : Unit). u.line.kept) is.same ∙ begun.kept;
    waiting = ap (λ (u : Unit). u.waiting) is.same ∙ begun.waiting;
    stage = ap (λ (u : Unit). u.service.stage) is.same ∙ begun.stage;
    logins = ap (λ (u : Unit). u.logins) is.same ∙ begun.logins;
    pending = ap (λ (u : Unit). u.pending.items) is.same ∙ begun.pending;
  };
  queue = quiet_by old.queue new.queue (reply ∷ []) (none_there old.queue.place.partner_registered old.queue.counts.partner_session (reply ∷ []) off) kept is.put;
  window = is.window;
}

pub stays_alone : (unit unit' : Unit) (old : Reach) → AwaitsPartner unit unit' → BeginsAlone unit unit' old old
stays_alone unit unit' old begun = record {
  unit_is = begun;
  queue = record { place = refl; last_session = refl; registered = refl; kept = refl; sent = refl; taken = refl };
  window = refl;
}

-- THE UNIT ---------------------------------------------------------------------------------------

no_event : (event : Option Entry) → event ≡ None → IsSome event → ⊥
no_event None none some = cc (some)
no_event (Some event) none some = cc (none)

-- The queue is registered.
pub opens_unit : (link : Bool) (unit unit' : Unit) (r0 r1 r2 : Reach) → IsNewThere unit r0 link → Opens link r0.queue r1.queue → OnlyRegisters link r0.queue r1.queue → r1.client ≡ r0.client
    → (link ≡ false → r1.queue.place.partner_registered ≡ false → BeginsAlone unit unit' r1 r2) → OpensUnit unit unit' r0 r2
opens_unit link unit unit' r0 r1 r2 is opens rest client begins = record {
  registered = begun.queue.registered ∙ opens.registered;
  event = begun.queue.kept ∙ opens.kept;
  place = begun.queue.place ∙ rest.place;
  session = begun.queue.last_session ∙ opens.session;
  sent = begun.queue.sent ∙ by r0.queue.kept is.event opens.settles;
  taken = begun.queue.taken ∙ rest.taken;
  none_taken = taken_quiet r1.queue r2.queue begun.queue ∙ opens.none_taken;
  none = come_quiet r1.queue r2.queue begun.queue
      ∙ ap (λ (z : List Entry × List Entry). drop (length z.0) z.1) (λ i. (opens.none_taken i, opens.none_received is.alone i));
  id = begun.unit_is.id;
  handshake = begun.unit_is.handshake;
  closing = begun.unit_is.closing ∙ is.made.closing;
  kept = begun.unit_is.kept ∙ is.made.kept;
  waiting = begun.unit_is.waiting ∙ is.made.waiting;
  stage = begun.unit_is.stage ∙ is.made.stage;
  logins = begun.unit_is.logins;
  pending = begun.unit_is.pending ∙ is.made.pending;
  window = begun.window ∙ client;
}
  where
    begun : BeginsAlone unit unit' r1 r2
    begun = begins is.alone (ap (λ p. p.partner_registered) rest.place ∙ is.partner)

    by : (event : Option Entry) → event ≡ None → Settles link event r0.queue r1.queue → r1.queue.sent ≡ r0.queue.sent
    by None none settles = settles.sent
    by (Some event) none settles = absurd (cc (none))

-- No other answer comes.
pub opens_not : (link : Bool) (old new : EndState) (answer : RegAnswer) → (answer ≡ registering.Success → ⊥) → ((control : ℕ) → answer ≡ registering.Closed control → ⊥)
    → IfHeldUp answer (HoldsUp link old new) → OnNotRegistered answer (old.registered ≡ true) → old.registered ≡ false → old.kept ≡ None → ⊥
opens_not link old new registering.Success success closed held stands off none = success refl
opens_not link old new (registering.Closed control) success closed held stands off none = closed control refl
opens_not link old new (registering.Busy number word) success closed held stands off none = no_event old.kept none held.kept.some
opens_not link old new registering.Parameter success closed held stands off none = true≢false (sym stands ∙ off)
opens_not link old new registering.Resource success closed held stands off none = true≢false (sym stands ∙ off)

-- THE TURN ---------------------------------------------------------------------------------------

-- the turn goes on, or is over
pub over_not : (next : Next) → next ≢ End → next ≡ End → ⊥
over_not next apart is = apart is

-- the room that is reserved, and an event that is not there, leave the queue as it was
pub quiet_first : (old mid new : EndState) → OnlyReserves old mid → old.kept ≡ None → new.kept ≡ None → Replies mid new [] → StaysQuiet old new
quiet_first old mid new reserves none none' is = record {
  place = is.place ∙ reserves.place;
  last_session = is.last_session ∙ reserves.last_session;
  registered = is.registered ∙ reserves.registered;
  kept = none' ∙ sym none;
  sent = sent_by mid new [] (none_put mid.place.partner_registered mid.counts.partner_session) is.put ∙ reserves.sent;
  taken = is.taken ∙ reserves.taken;
}

-- so the unit is new there still
pub new_still : (link : Bool) (unit u1 : Unit) (r0 r1 : Reach) → IsNewThere unit r0 link → u1 ≡ unit → StaysQuiet r0.queue r1.queue → r1.shared ≡ r0.shared → IsNewThere u1 r1 link
new_still link unit u1 r0 r1 is same quiet shared = record {
  alone = is.alone;
  apart = shared ∙ is.apart;
  unregistered = quiet.registered ∙ is.unregistered;
  partner = ap (λ p. p.partner_registered) quiet.place ∙ is.partner;
  event = quiet.kept ∙ is.event;
  made = subst IsNewUnit (sym same) is.made;
}

-- and what it leaves is the same, seen from before
pub opens_from : (unit u1 unit' : Unit) (r0 r1 r2 : Reach) → u1.id ≡ unit.id → u1.logins ≡ unit.logins → StaysQuiet r0.queue r1.queue → r1.client ≡ r0.client → OpensUnit u1 unit' r1 r2 → OpensUnit unit unit' r0 r2
opens_from unit u1 unit' r0 r1 r2 id logins quiet client is = record {
  registered = is.registered;
  event = is.event;
  place = is.place ∙ quiet.place;
  session = is.session ∙ ap (λ (n : ℕ). n + 1) quiet.last_session;
  sent = is.sent ∙ quiet.sent;
  taken = is.taken ∙ quiet.taken;
  none_taken = is.none_taken;
  none = is.none;
  id = is.id ∙ id;
  handshake = is.handshake;
  closing = is.closing;
  kept = is.kept;
  waiting = is.waiting;
  stage = is.stage;
  logins = is.logins ∙ logins;
  pending = is.pending;
  window = is.window ∙ client;
}

-- a turn begins by noting that nothing moved yet
pub new_unmoved : (link : Bool) (unit u1 : Unit) (r : Reach) → u1.line ≡ unit.line → u1.waiting ≡ unit.waiting → u1.service.stage ≡ unit.service.stage → u1.logins ≡ unit.logins → u1.pending.items ≡ unit.pending.items
    → IsNewThere unit r link → IsNewThere u1 r link
new_unmoved link unit u1 r line waiting stage logins pending is = record {
  alone = is.alone;
  apart = is.apart;
  unregistered = is.unregistered;
  partner = is.partner;
  event = is.event;
  made = record {
    handshake = ap (λ l. l.handshake) line ∙ is.made.handshake;
    closing = ap (λ l. l.closing) line ∙ is.made.closing;
    kept = ap (λ l. l.kept) line ∙ is.made.kept;
    waiting = waiting ∙ is.made.waiting;
    stage = stage ∙ is.made.stage;
    current = ap (λ l. l.current) logins ∙ is.made.current;
    taking = ap (λ l. l.taking) logins ∙ is.made.taking;
    pending = pending ∙ is.made.pending;
  };
}

quiet_same : (q : EndState) → StaysQuiet q q
quiet_same q = record { place = refl; last_session = refl; registered = refl; kept = refl; sent = refl; taken = refl }

pub opens_unmoved : (unit u1 unit' : Unit) (r0 r2 : Reach) (lines lines' : List Grant) (rows rows' : List Served) → u1.id ≡ unit.id → u1.logins ≡ unit.logins
    → OpensOn u1 unit' r0 r2 lines lines' rows rows' → OpensOn unit unit' r0 r2 lines lines' rows rows'
opens_unmoved unit u1 unit' r0 r2 lines lines' rows rows' id logins is = record {
  opens = opens_from unit u1 unit' r0 r0 r2 id logins (quiet_same r0.queue) refl is.opens;
  lines_are = is.lines_are;
  rows_are = is.rows_are;
}

pub some_unit : (found unit : Unit) → Some found ≡ Some unit → found ≡ unit
some_unit found unit same = cc (same)

-- of the unit of a number
pub unit_opens : {A : Type 0} (link : Bool) (units : List Unit) (n : ℕ) (unit found unit' : Unit) (r r' : Reach) (lines lines' : List Grant) (rows rows' : List Served) (result : Result A NoMemory)
    → slice_get units n ≡ Some found → slice_get units n ≡ Some unit → (IsNewThere found r link → OnOk result (OpensOn found unit' r r' lines lines' rows rows')) → IsNewThere unit r link
    → OnOk result (UnitOpensOn (slice_set units n unit') n unit r r' lines lines' rows rows')
unit_opens link units n unit found unit' r r' lines lines' rows rows' (Err memory) there at opens is = tt
unit_opens link units n unit found unit' r r' lines lines' rows rows' (Ok done) there at opens is = record {
  unit' = unit';
  there = get_set_same units n found unit' there;
  opens = subst (λ (u : Unit). OpensOn u unit' r r' lines lines' rows rows') same (opens (subst (λ (u : Unit). IsNewThere u r link) (sym same) is));
}
  where
    same : found ≡ unit
    same = some_unit found unit (sym there ∙ at)
