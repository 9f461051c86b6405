-- What the calls of a turn do before an entry is heard: the kept event is put, a session is freed, and the queue registered.
use Rattle.std.proofs.Common.{◌≡◌, ◌⊎◌, inl, inr, ◌++◌, ◌&&◌, Bool, true, false, List, [], ◌∷◌, ℕ, Option, Some, None, IfSome, IsSome, Result, Ok, Err, OnOk, slice_get, slice_set, drop, length, cond, refl, sym, ◌∙◌, ap, subst, append-nil}
use Rattle.vio_num.specs.Entry.{initialize, partner_freed}
use Rattle.vio_num.specs.declared.entry.Entry.{Entry}
use Rattle.vio_num.specs.declared.history.Grant.{Grant}
use Rattle.vio_num.specs.declared.history.Served.{Served}
use Rattle.vio_num.specs.declared.memory.NoMemory.{NoMemory}
use Rattle.vio_num.specs.declared.names.UnitId.{UnitId}
use Rattle.crq_session.specs.Answered.{HoldsUp, Keeps, Loses, LosesKept, Opens, Puts, Settles, TellsFreed, received_now, taken_now}
use Rattle.crq_session.specs.Answers.{IfHeldUp, OnNotRegistered}
use Rattle.crq_session.specs.declared.answers.RegAnswer.{RegAnswer}
use Rattle.crq_session.specs.declared.answers.RegAnswer.TheVariants as registering
use Rattle.crq_session.specs.EndState.{EndState, OnlyFrees, OnlyPushes, OnlyRegisters, OnlyReserves}
use Rattle.crq_session.specs.Handshake.{step_entry}
use Rattle.crq_session.specs.declared.handshake.Handshake.{Handshake}
use Rattle.crq_session.specs.declared.handshake.Handshake.TheVariants.{Down, Waiting}
use Rattle.crq_session.specs.declared.handshake.Step.{Step}
use Rattle.crq_session.specs.declared.handshake.Step.TheVariants.{SendInitialize}
use Rattle.tce_window.specs.PortState.{PortState}
use Rattle.block_server.specs.Doings.{CallsOnly, Doing, DoesFreely, DoesTurn, FreesLine, IsAtRest, IsFree, KeepsNoAnswer, OpensLine, SendsOrKeeps, SendsReply, SettlesEvent, StaysAside, StaysUnit, TellsNobody, TellsPartner, UnitDoes, begun, doing, doing_at, entry_for, event_put, rows_to}
use Rattle.block_server.specs.Receipts.{is_ended}
use Rattle.block_server.specs.SiteState.{SameWindows, SiteState}
use Rattle.block_server.specs.Talk.{to_come}
use Rattle.block_server.specs.declared.line.Kept.TheVariants as keeps
use Rattle.block_server.specs.declared.line.Line.{Line}
use Rattle.block_server.specs.declared.records.Records.{Records}
use Rattle.block_server.specs.declared.unit.Unit.{Unit}
use Rattle.block_server.proofs.DoingReplies.{come_same, reach_off, reach_off_own, reach_on, reaches_of}
use Rattle.block_server.proofs.Doings.{does_one, does_then}
use Rattle.block_server.proofs.FirstTurns.{some_unit}
use Rattle.block_server.proofs.GoingOn.{begun_ended, down_ended}
use Rattle.block_server.proofs.Units.{get_set_same}

-- A CALL OF THE QUEUE -----------------------------------------------------------------------------

-- Of the unit no more changed than its line, and whether it moved.
aside_call : (unit : Unit) (line : Line) (moved : Bool) (old new : SiteState) (records : Records) → SameWindows old new
    → StaysAside (doing unit old records) (doing (record unit { line = line; moved = moved }) new records)
aside_call unit line moved old new records windows = record {
  served = record { stage = refl; answer = refl; pending = refl };
  logins = refl;
  taking = refl;
  outstanding = refl;
  waiting = refl;
  client = record { place = λ i. (windows.client i).place; strokes = λ i. (windows.client i).strokes; values = λ i. (windows.client i).values };
  rows = refl;
  lines = refl;
}

unit_call : (unit : Unit) (line : Line) (moved : Bool) (old new : SiteState) (records : Records) → SameWindows old new → new.queue.place ≡ old.queue.place
    → new.queue.counts.partner_session ≡ old.queue.counts.partner_session → StaysUnit (doing unit old records) (doing (record unit { line = line; moved = moved }) new records)
unit_call unit line moved old new records windows place to =
    record { name = λ i. (windows.own i).place.unit; id = refl; granted = refl; partner = λ i. (place i).partner_registered; to = to }

-- Nothing was put or taken, and what is kept and registered is as it was.
pub calls_only : (unit : Unit) (old new : SiteState) (records : Records) → SameWindows old new → new.queue.place ≡ old.queue.place → new.queue.last_session ≡ old.queue.last_session
    → new.queue.taken ≡ old.queue.taken → new.queue.registered ≡ old.queue.registered → new.queue.kept ≡ old.queue.kept → new.queue.sent ≡ old.queue.sent
    → new.queue.counts.partner_session ≡ old.queue.counts.partner_session → CallsOnly (doing unit old records) (doing unit new records)
calls_only unit old new records windows place session taken registered kept sent to = record {
  stays = unit_call unit unit.line unit.moved old new records windows place to;
  aside = aside_call unit unit.line unit.moved old new records windows;
  line = record { ended = refl; handshake = refl; event = kept; reaches = λ i. reaches_of (record old.queue { place = place i; registered = registered i }) };
  kept = refl;
  coming = come_same old.queue new.queue place session taken;
  sent = sent;
}

-- nothing was called
pub calls_none : (unit : Unit) (site : SiteState) (records : Records) → CallsOnly (doing unit site records) (doing unit site records)
calls_none unit site records = calls_only unit site site records (record { reached = refl; copies = refl; own = refl; client = refl }) refl refl refl refl refl refl refl

-- room was made, and no more
pub calls_reserved : (unit : Unit) (old new : SiteState) (records : Records) → SameWindows old new → OnlyReserves old.queue new.queue → CallsOnly (doing unit old records) (doing unit new records)
calls_reserved unit old new records windows rest =
    calls_only unit old new records windows rest.place rest.last_session rest.taken rest.registered rest.kept rest.sent (λ i. (rest.counts i).partner_session)

-- THE KEPT EVENT ----------------------------------------------------------------------------------

-- in the partner's session of before
put_now : (link : Bool) (old new : EndState) (entry : Entry) → new.counts.partner_session ≡ old.counts.partner_session → Puts link old entry new
    → new.sent ≡ old.sent ++ rows_to old.counts.partner_session (entry ∷ [])
put_now link old new entry to puts = puts.sent ∙ ap (λ (q : ℕ). old.sent ++ rows_to q (entry ∷ [])) to

abbrev PutsEvent : Option Entry → EndState → EndState → Type 0
PutsEvent kept old new = new.sent ≡ old.sent ++ rows_to old.counts.partner_session (event_put old.place.partner_registered kept)

-- It was put where the partner is registered, and lost where it is not.
event_settled : (link : Bool) (old new : EndState) (kept : Option Entry) → link ≡ false → new.counts.partner_session ≡ old.counts.partner_session → Settles link kept old new → PutsEvent kept old new
event_settled link old new None alone to none = none.sent ∙ sym (append-nil old.sent)
event_settled link old new (Some event) alone to (inl puts) =
    put_now link old new event to puts ∙ ap (λ (b : Bool). old.sent ++ rows_to old.counts.partner_session (cond b (event ∷ []) [])) (sym (puts.partner alone))
event_settled link old new (Some event) alone to (inr loses) =
    loses.none.sent ∙ sym (append-nil old.sent) ∙ ap (λ (b : Bool). old.sent ++ rows_to old.counts.partner_session (cond b (event ∷ []) [])) (sym (loses.meets.partner alone))

pub lost_settles : (link : Bool) (old new : EndState) (kept : Option Entry) → LosesKept link kept old new → Settles link kept old new
lost_settles link old new None none = none
lost_settles link old new (Some event) loses = inr loses

pub put_settles : (link : Bool) (old new : EndState) (kept : Option Entry) → IsSome kept → IfSome kept (λ event. Puts link old event new) → Settles link kept old new
put_settles link old new None some puts = absurd (cc (some))
put_settles link old new (Some event) some puts = inl puts

-- It was put, or lost.
pub settles_event : (link : Bool) (unit : Unit) (moved : Bool) (old new : SiteState) (records : Records) → link ≡ false → SameWindows old new → OnlyPushes link old.queue new.queue → new.queue.kept ≡ None
    → Settles link old.queue.kept old.queue new.queue → SettlesEvent (doing unit old records) (doing (record unit { moved = moved }) new records)
settles_event link unit moved old new records alone windows rest none settles = record {
  stays = unit_call unit unit.line moved old new records windows rest.place (rest.counts.same_session alone);
  aside = aside_call unit unit.line moved old new records windows;
  kept = refl;
  coming = come_same old.queue new.queue rest.place rest.last_session rest.taken;
  ended = refl;
  handshake = refl;
  reaches = λ i. reaches_of (record old.queue { place = rest.place i; registered = rest.registered i });
  event = none;
  sent = event_settled link old.queue new.queue old.queue.kept alone (rest.counts.same_session alone) settles;
}

-- A SESSION IS FREED ------------------------------------------------------------------------------

pub frees_line : (link : Bool) (unit : Unit) (line : Line) (moved : Bool) (old new : SiteState) (records : Records) → link ≡ false → SameWindows old new → OnlyFrees link old.queue new.queue
    → unit.line.closing ≡ true → line.handshake ≡ Down → line.kept ≡ unit.line.kept → new.queue.registered ≡ false
    → TellsPartner (doing unit old records) (doing (record unit { line = line; moved = moved }) new records) ⊎ TellsNobody (doing unit old records) (doing (record unit { line = line; moved = moved }) new records)
    → FreesLine (doing unit old records) (doing (record unit { line = line; moved = moved }) new records)
frees_line link unit line moved old new records alone windows rest closing down kept shut tells = record {
  stays = unit_call unit line moved old new records windows rest.place (rest.counts.same_session alone);
  aside = aside_call unit line moved old new records windows;
  kept = kept;
  coming = come_same old.queue new.queue rest.place rest.last_session rest.taken;
  over = ap (λ (b : Bool). is_ended (record unit.line { closing = b })) closing;
  ended = down_ended line.closing line.handshake down;
  handshake = down;
  shut = reach_off_own new.queue.registered new.queue.place.partner_registered shut;
  tells = tells;
}

-- whom an event tells so, where it was registered
pub tells_freed : (link : Bool) (unit unit' : Unit) (old new : SiteState) (records records' : Records) → link ≡ false → OnlyFrees link old.queue new.queue → TellsFreed link old.queue new.queue
    → TellsPartner (doing unit old records) (doing unit' new records') ⊎ TellsNobody (doing unit old records) (doing unit' new records')
tells_freed link unit unit' old new records records' alone rest frees = by frees.tells
  where
    by : (Puts link old.queue partner_freed new.queue × (new.queue.kept ≡ None))
        ⊎ (Keeps link old.queue partner_freed new.queue ⊎ (Loses link old.queue new.queue × (new.queue.kept ≡ None)))
        → TellsPartner (doing unit old records) (doing unit' new records') ⊎ TellsNobody (doing unit old records) (doing unit' new records')
    by (inl put) = inl (record {
      reaches = reach_on old.queue.registered old.queue.place.partner_registered frees.registered (put.0.partner alone);
      told = inl (put_now link old.queue new.queue partner_freed (rest.counts.same_session alone) put.0, put.1);
    })
    by (inr (inl keeps)) = inl (record {
      reaches = reach_on old.queue.registered old.queue.place.partner_registered frees.registered (keeps.full.partner alone);
      told = inr (keeps.full.sent, keeps.kept);
    })
    by (inr (inr lost)) = inr (record {
      reaches = reach_off old.queue.registered old.queue.place.partner_registered (lost.0.meets.partner alone);
      sent = lost.0.none.sent;
      event = inr (lost.0.meets.partner alone, lost.1);
    })

-- It was not registered, and nobody is told.
pub tells_none : (unit unit' : Unit) (old new : SiteState) (records records' : Records) → old.queue.registered ≡ false → OnlyReserves old.queue new.queue
    → TellsNobody (doing unit old records) (doing unit' new records')
tells_none unit unit' old new records records' off rest =
    record { reaches = reach_off_own old.queue.registered old.queue.place.partner_registered off; sent = rest.sent; event = inl rest.kept }

-- THE QUEUE IS REGISTERED -------------------------------------------------------------------------

-- It was not: the kept event found its slot full, or it was refused.
pub calls_unregistered : (link : Bool) (unit : Unit) (old new : SiteState) (records : Records) (answer : RegAnswer) → link ≡ false → (answer ≡ registering.Success → ⊥) → ((control : ℕ) → answer ≡ registering.Closed control → ⊥)
    → IfHeldUp answer (HoldsUp link old.queue new.queue) → OnNotRegistered answer (OnlyReserves old.queue new.queue) → SameWindows old new → OnlyRegisters link old.queue new.queue
    → CallsOnly (doing unit old records) (doing unit new records)
calls_unregistered link unit old new records registering.Success alone success closed held refused windows rest = absurd (success refl)
calls_unregistered link unit old new records (registering.Closed control) alone success closed held refused windows rest = absurd (closed control refl)
calls_unregistered link unit old new records (registering.Busy number word) alone success closed held refused windows rest =
    calls_only unit old new records windows rest.place held.session rest.taken (held.still ∙ sym held.unregistered) held.kept.kept held.kept.full.sent (rest.counts.same_session alone)
calls_unregistered link unit old new records registering.Parameter alone success closed held refused windows rest = calls_reserved unit old new records windows refused
calls_unregistered link unit old new records registering.Resource alone success closed held refused windows rest = calls_reserved unit old new records windows refused

come_none : (new : EndState) → taken_now new ≡ [] → received_now new ≡ [] → to_come new ≡ []
come_none new taken received = λ i. drop (length (taken i)) (received i)

-- the unit in that session
begun_now : (unit : Unit) (h : Handshake) (site : SiteState) (records : Records) → unit.line.closing ≡ false → h ≡ Waiting
    → doing (record unit { line = record unit.line { handshake = h }; moved = true }) site records ≡ begun (doing unit site records)
begun_now unit h site records still waits = λ i. record (doing unit site records) { ended = begun_ended unit.line.closing h still waits i; handshake = waits i }

same_some : (a b : Entry) → Some a ≡ Some b → a ≡ b
same_some a b same = cc (same)

pub is_initialize : (found : Option Entry) (step : Step) (entry : Entry) → found ≡ Some entry → found ≡ step_entry step → step ≡ SendInitialize → entry ≡ initialize
is_initialize found step entry is of sends = same_some entry initialize (sym is ∙ of ∙ ap step_entry sends)

pub not_initialize : (found : Option Entry) (step : Step) → ((entry : Entry) → found ≡ Some entry → ⊥) → found ≡ step_entry step → step ≡ SendInitialize → ⊥
not_initialize found step none of sends = none initialize (of ∙ ap step_entry sends)

-- Initialize was sent.
pub begun_reply : (unit : Unit) (h : Handshake) (site : SiteState) (records : Records) (new : Doing) (entry : Entry) → unit.line.closing ≡ false → h ≡ Waiting → entry ≡ initialize
    → SendsReply (doing (record unit { line = record unit.line { handshake = h }; moved = true }) site records) new entry → SendsReply (begun (doing unit site records)) new initialize
begun_reply unit h site records new entry still waits is reply =
    subst (λ (d : Doing). SendsReply d new initialize) (begun_now unit h site records still waits) (subst (SendsReply (doing (record unit { line = record unit.line { handshake = h }; moved = true }) site records) new) is reply)

-- It was registered, and Initialize was sent.
pub opens_line : (link : Bool) (unit : Unit) (old mid : SiteState) (records : Records) (new : Doing) → link ≡ false → unit.line.handshake ≡ Down → SameWindows old mid → OnlyRegisters link old.queue mid.queue
    → Opens link old.queue mid.queue → SendsReply (begun (doing unit mid records)) new initialize → OpensLine (doing unit old records) new
opens_line link unit old mid records new alone down windows rest opened reply = record {
  stays = record {
    name = reply.stays.name ∙ (λ i. (windows.own i).place.unit);
    id = reply.stays.id;
    granted = reply.stays.granted;
    partner = reply.stays.partner ∙ (λ i. (rest.place i).partner_registered);
    to = reply.stays.to ∙ to;
  };
  aside = record {
    served = record { stage = reply.aside.served.stage; answer = reply.aside.served.answer; pending = reply.aside.served.pending };
    logins = reply.aside.logins;
    taking = reply.aside.taking;
    outstanding = reply.aside.outstanding;
    waiting = reply.aside.waiting;
    client = record {
      place = reply.aside.client.place ∙ (λ i. (windows.client i).place);
      strokes = reply.aside.client.strokes ∙ (λ i. (windows.client i).strokes);
      values = reply.aside.client.values ∙ (λ i. (windows.client i).values);
    };
    rows = reply.aside.rows;
    lines = reply.aside.lines;
  };
  was = down;
  coming = reply.coming ∙ come_none mid.queue opened.none_taken (opened.none_received alone);
  ended = reply.line.ended;
  handshake = reply.line.handshake;
  reached = reply.line.reaches ∙ ap (λ (b : Bool). b && mid.queue.place.partner_registered) opened.registered ∙ sym reply.stays.partner;
  event = reply.line.event ∙ opened.kept;
  sent = by reply.sent;
}
  where
    to : mid.queue.counts.partner_session ≡ old.queue.counts.partner_session
    to = rest.counts.same_session alone

    told : PutsEvent old.queue.kept old.queue mid.queue
    told = event_settled link old.queue mid.queue old.queue.kept alone to opened.settles

    by : SendsOrKeeps (begun (doing unit mid records)) new initialize
        → ((new.sent ≡ (old.queue.sent ++ rows_to old.queue.counts.partner_session (event_put old.queue.place.partner_registered old.queue.kept)) ++ cond new.reaches (rows_to old.queue.counts.partner_session (initialize ∷ [])) []) × (new.kept ≡ unit.line.kept))
        ⊎ ((new.reaches ≡ true) × (new.sent ≡ old.queue.sent ++ rows_to old.queue.counts.partner_session (event_put old.queue.place.partner_registered old.queue.kept)) × (new.kept ≡ Some (keeps.Reply initialize)))
    by (inl (sent, kept)) = inl (sent ∙ (λ i. told i ++ cond (sym reply.line.reaches i) (rows_to (to i) (initialize ∷ [])) []), kept)
    by (inr (reach, same, kept)) = inr (reply.line.reaches ∙ reach, same ∙ told, kept)

-- REST --------------------------------------------------------------------------------------------

-- a step that leaves what is kept and in service
rests_aside : (a b : Doing) → StaysAside a b → b.kept ≡ a.kept → (a.ended ≡ false → b.ended ≡ false) → IsAtRest a → IsAtRest b
rests_aside a b aside kept going (inl free) = inl (record {
  waiting = aside.waiting ∙ free.waiting;
  stage = aside.served.stage ∙ free.stage;
  kept = subst KeepsNoAnswer (sym kept) free.kept;
})
rests_aside a b aside kept going (inr awaits) = inr (record {
  waiting = aside.waiting ∙ awaits.waiting;
  outcome = awaits.outcome;
  stage = aside.served.stage ∙ awaits.stage;
  request = awaits.request;
  rest = awaits.rest;
  pending = aside.served.pending ∙ awaits.pending;
  kept = kept ∙ awaits.kept ∙ ap (λ answer. Some (keeps.Answer (entry_for awaits.request answer) awaits.outcome)) (sym aside.served.answer);
  going = going awaits.going;
})

rests_opened : (a b : Doing) → OpensLine a b → IsFree a → IsFree b
rests_opened a b opens free = record {
  waiting = opens.aside.waiting ∙ free.waiting;
  stage = opens.aside.served.stage ∙ free.stage;
  kept = none opens.sent;
}
  where
    none : {P Q R : Type 0} → (P × (b.kept ≡ a.kept)) ⊎ (R × Q × (b.kept ≡ Some (keeps.Reply initialize))) → KeepsNoAnswer b.kept
    none (inl same) = subst KeepsNoAnswer (sym same.1) free.kept
    none (inr reply) = subst KeepsNoAnswer (sym reply.2) refl

-- where nothing more is taken in the session, and where nothing is kept
free_ended : (at : Doing) → at.ended ≡ true → IsAtRest at → IsFree at
free_ended at ended (inl free) = free
free_ended at ended (inr awaits) = absurd (cc (ended, awaits.going))

pub free_unkept : (at : Doing) → at.kept ≡ None → IsAtRest at → IsFree at
free_unkept at none (inl free) = free
free_unkept at none (inr awaits) = absurd (cc (none, awaits.kept))

-- A TURN ------------------------------------------------------------------------------------------

turn_calls : (a b : Doing) → CallsOnly a b → IsAtRest a → DoesTurn a b
turn_calls a b calls rests = record {
  does = does_one a b (inl calls);
  rests = rests_aside a b calls.aside calls.kept (λ going. calls.line.ended ∙ going) rests;
}

-- The event was put, or not.
pub turn_event : (a b : Doing) → CallsOnly a b ⊎ SettlesEvent a b → IsAtRest a → DoesTurn a b
turn_event a b (inl calls) rests = turn_calls a b calls rests
turn_event a b (inr settles) rests = record {
  does = does_one a b (inr (inl settles));
  rests = rests_aside a b settles.aside settles.kept (λ going. settles.ended ∙ going) rests;
}

-- A session was freed, or none was to be.
pub turn_freed : (a b : Doing) → CallsOnly a b ⊎ FreesLine a b → IsAtRest a → DoesTurn a b
turn_freed a b (inl calls) rests = turn_calls a b calls rests
turn_freed a b (inr frees) rests = record {
  does = does_one a b (inr (inr (inl frees)));
  rests = rests_aside a b frees.aside frees.kept (λ going. absurd (cc (frees.over, going))) rests;
}

-- The queue was registered, or not.
pub turn_opened : (a b : Doing) → OpensLine a b ⊎ CallsOnly a b → a.ended ≡ true → IsAtRest a → DoesTurn a b
turn_opened a b (inl opens) ended rests = record {
  does = does_one a b (inr (inr (inr (inl opens))));
  rests = inl (rests_opened a b opens (free_ended a ended rests));
}
turn_opened a b (inr calls) ended rests = turn_calls a b calls rests

pub turn_then : (a b c : Doing) → DoesTurn a b → DoesTurn b c → DoesTurn a c
turn_then a b c first next = record { does = does_then a b c first.does next.does; rests = next.rests }

-- one that ends where nothing is in service
pub turn_freely : (a b c : Doing) → DoesTurn a b → DoesFreely b c → DoesTurn a c
turn_freely a b c first next = record { does = does_then a b c first.does next.does; rests = inl next.free }

-- of the unit of a number
pub unit_does : {A : Type 0} (units : List Unit) (n : ℕ) (unit found unit' : Unit) (name name' : UnitId) (queue queue' : EndState) (client client' : PortState) (rows rows' : List Served)
    (lines lines' : List Grant) (result : Result A NoMemory) → slice_get units n ≡ Some found → slice_get units n ≡ Some unit → name' ≡ name
    → (IsAtRest (doing_at found name queue client rows lines) → OnOk result (DoesTurn (doing_at found name queue client rows lines) (doing_at unit' name' queue' client' rows' lines')))
    → IsAtRest (doing_at unit name queue client rows lines) → OnOk result (UnitDoes (slice_set units n unit') n unit name queue queue' client client' rows rows' lines lines')
unit_does units n unit found unit' name name' queue queue' client client' rows rows' lines lines' (Err memory) there at named does rests = tt
unit_does units n unit found unit' name name' queue queue' client client' rows rows' lines lines' (Ok done) there at named does rests = record {
  unit' = unit';
  there = get_set_same units n found unit' there;
  does = subst (λ (u : Unit). DoesTurn (doing_at u name queue client rows lines) (doing_at unit' name queue' client' rows' lines')) same
      (subst (λ (id : UnitId). DoesTurn (doing_at found name queue client rows lines) (doing_at unit' id queue' client' rows' lines')) named
      (does (subst (λ (u : Unit). IsAtRest (doing_at u name queue client rows lines)) (sym same) rests)));
}
  where
    same : found ≡ unit
    same = some_unit found unit (sym there ∙ at)
