-- What a unit does as it hears an entry: it passes over it, sends what is due for it, takes the request that it carries, or ends the login.
use Rattle.std.proofs.Common.{◌≡◌, ◌≢◌, ◌==◌, ◌&&◌, ◌||◌, inl, inr, ◌++◌, ◌<◌, ◌^◌, arith, ℕ, Bool, true, false, List, [], ◌∷◌, Option, Some, None, drop, length, refl, sym, ◌∙◌, ap, subst}
use Rattle.std.specs.Prelude.{MatchOption}
use Rattle.std.proofs.lemmas.Bool.{eqb-true}
use Rattle.byteorder.specs.Numbers.{big_number-reads_back}
use Rattle.vio_num.specs.Entry.{entry_format, first_byte, is_srp_entry, iu_address, iu_length, kind_of}
use Rattle.vio_num.specs.declared.entry.Entry.{Entry}
use Rattle.vio_num.specs.declared.entry.Kind.TheVariants.{Command, Event, Init}
use Rattle.vio_num.specs.declared.history.Lapse.{Lapse}
use Rattle.crq_ring.specs.Sessions.{of_session}
use Rattle.crq_ring.specs.declared.rows.PipeRow.{PipeRow}
use Rattle.crq_session.specs.EndState.{EndCounts, OnlyReserves, OnlyTakes}
use Rattle.crq_session.specs.Handshake.{state_after, step_after, step_entry}
use Rattle.crq_session.specs.declared.handshake.Handshake.{Handshake}
use Rattle.crq_session.specs.declared.handshake.Handshake.TheVariants.{Up}
use Rattle.srp_iu.specs.Grammar.{Spells}
use Rattle.srp_iu.specs.declared.unit.Iu.{Iu}
use Rattle.block_server.specs.Doings.{AsksNothing, DoesFreely, DoesOne, Doing, DropsAll, HearsDatagram, HearsInit, IsFree, IsOnLogin, KeepsNoAnswer, PassesEntry, SendsOrKeeps, SendsReply, TakesRequest, before_hearing, doing}
use Rattle.block_server.specs.Decided.{Decides, DecidesOrder, StaysOn}
use Rattle.block_server.specs.Entries.{datagram_answer}
use Rattle.block_server.specs.Granting.{LoginState}
use Rattle.block_server.specs.Receipts.{is_down}
use Rattle.block_server.specs.SiteState.{SiteState}
use Rattle.block_server.specs.Talk.{IsReadWhole, StaysKnown, order_asked, tag_asked, to_come}
use Rattle.block_server.specs.declared.intake.Verdict.{Verdict}
use Rattle.block_server.specs.declared.intake.Verdict.TheVariants.{Accepted, Fatal, Ignored}
use Rattle.block_server.specs.declared.logins.Logins.{Logins}
use Rattle.block_server.specs.declared.records.Records.{Records}
use Rattle.block_server.specs.declared.request.Arrival.{Arrival}
use Rattle.block_server.specs.declared.request.Order.{Order}
use Rattle.block_server.specs.declared.request.Order.TheVariants as orders
use Rattle.block_server.specs.declared.request.Request.{Request}
use Rattle.block_server.specs.declared.unit.Unit.{Unit}
use Rattle.block_server.proofs.DoingEnds.{keeps_none, one_drops}
use Rattle.block_server.proofs.Doings.{does_none, does_one, does_then}
use Rattle.block_server.proofs.Listening.{Came}
use Rattle.block_server.proofs.Reading.{known_same}

-- THE NEXT ENTRY ---------------------------------------------------------------------------------

-- an entry came that is heard now
pub came_doing : (unit : Unit) (old new : SiteState) (records : Records) (arrival : Arrival) → unit.waiting ≡ None → Came old.queue new.queue arrival.number arrival.entry → new.queue.kept ≡ old.queue.kept
    → new.client ≡ old.client → new.own ≡ old.own → doing unit old records ≡ before_hearing arrival (doing unit new records)
came_doing unit old new records arrival waits came kept client own = λ i. record (doing unit old records) {
  name = (sym own i).place.unit;
  waiting = waits i;
  coming = came.come i;
  sent = sym came.sent i;
  client = sym client i;
  event = sym kept i;
  reaches = sym came.registered i && (sym came.place i).partner_registered;
  partner = (sym came.place i).partner_registered;
  to = sym came.partner i;
}

-- The entry was heard, and nothing is due for it.
pub passes_entry : (arrival : Arrival) (at new : Doing) → new.name ≡ at.name → new.id ≡ at.id → new.partner ≡ at.partner → new.to ≡ at.to → new.logins ≡ at.logins → new.taking ≡ at.taking → new.outstanding ≡ at.outstanding → new.waiting ≡ None
    → at.kept ≡ None → new.stage ≡ at.stage → new.answer ≡ at.answer → new.pending ≡ at.pending → new.ended ≡ at.ended → new.handshake ≡ at.handshake → new.event ≡ at.event → new.reaches ≡ at.reaches
    → new.kept ≡ at.kept → new.coming ≡ at.coming → new.sent ≡ at.sent → StaysKnown at.client new.client
    → new.rows ≡ at.rows → new.lines ≡ at.lines → kind_of (first_byte arrival.entry) ≢ Init → kind_of (first_byte arrival.entry) ≢ Event
    → (is_srp_entry arrival.entry ≡ true → AsksNothing (before_hearing arrival at) arrival.entry) → PassesEntry (before_hearing arrival at) new
passes_entry arrival at new name id partner to logins taking outstanding waiting none stage answer pending ended handshake event reaches kept coming sent known rows lines no_init no_event nothing = record {
  stays = record { name = name; id = id; granted = ap (λ (l : LoginState). l.granted) logins; partner = partner; to = to };
  aside = record {
    served = record { stage = stage; answer = answer; pending = pending };
    logins = logins;
    taking = taking;
    outstanding = outstanding;
    waiting = waiting;
    client = known;
    rows = rows;
    lines = lines;
  };
  line = record { ended = ended; handshake = handshake; event = event; reaches = reaches };
  was = none;
  kept = kept;
  sent = sent;
  entry = arrival.entry;
  heard = ap (λ (list : List Entry). arrival.entry ∷ list) (sym coming);
  no_init = no_init;
  no_event = no_event;
  nothing = nothing;
}

-- It carries a request, which is pending.
pub takes_request : (arrival : Arrival) (at new : Doing) (request : Request) (bytes : List ℕ) → new.name ≡ at.name → new.id ≡ at.id → new.partner ≡ at.partner → new.to ≡ at.to → new.logins ≡ at.logins
    → at.kept ≡ None → new.stage ≡ at.stage → new.answer ≡ at.answer → new.pending ≡ at.pending ++ request ∷ [] → new.ended ≡ at.ended → new.handshake ≡ at.handshake → new.event ≡ at.event → new.reaches ≡ at.reaches
    → new.kept ≡ at.kept → new.coming ≡ at.coming → new.sent ≡ at.sent
    → StaysKnown at.client new.client → new.rows ≡ at.rows → new.lines ≡ at.lines → is_srp_entry arrival.entry ≡ true → at.handshake ≡ Up → at.ended ≡ false
    → IsOnLogin request.order at.logins.current → request.address ≡ iu_address arrival.entry
    → request.unit.items ≡ bytes → length bytes ≡ iu_length arrival.entry → IsReadWhole at.client (iu_address arrival.entry) bytes
    → ((iu : Iu) → Spells bytes iu → (request.order ≡ order_asked iu) × (request.tag ≡ tag_asked iu)) → TakesRequest (before_hearing arrival at) new
takes_request arrival at new request bytes name id partner to logins none stage answer pending ended handshake event reaches kept coming sent known rows lines srp up going logged address unit_is long read means = record {
  stays = record { name = name; id = id; granted = ap (λ (l : LoginState). l.granted) logins; partner = partner; to = to };
  line = record { ended = ended; handshake = handshake; event = event; reaches = reaches };
  put = record { sent = sent; client = known; rows = rows };
  stage = stage;
  answer = answer;
  was = none;
  kept = kept;
  current = ap (λ (l : LoginState). l.current) logins;
  entry = arrival.entry;
  heard = ap (λ (list : List Entry). arrival.entry ∷ list) (sym coming);
  srp = srp;
  up = up;
  going = going;
  request = request;
  logged = logged;
  address = address;
  long = ap length unit_is ∙ long;
  read = subst (λ (z : ℕ × List ℕ). IsReadWhole at.client z.0 z.1) (λ i. (sym address i, sym unit_is i)) read;
  asked = λ iu spelled. means iu (subst (λ (list : List ℕ). Spells list iu) unit_is spelled);
  pending = pending;
  lines = lines;
}

-- It was accepted under the login that is on, unless it asks for one.
pub accepted_on : (old new : Logins) (bytes : List ℕ) (verdict : Verdict) (login tag : ℕ) (order : Order) → verdict ≡ Accepted login tag order → Decides old new bytes verdict → IsOnLogin order old.current
accepted_on old new bytes verdict login tag order is decides = on_order order (subst (Decides old new bytes) is decides)
  where
    some_on : old.taking ≡ true → old.current ≢ 0
    some_on on none = omega (arith, old.begun on, none)

    on_order : (o : Order) → DecidesOrder old new login bytes o → IsOnLogin o old.current
    on_order (orders.Login request) takes = tt
    on_order orders.Logout takes = some_on takes.was
    on_order (orders.Task task) takes = some_on takes.was
    on_order (orders.Command command) takes = some_on takes.was
    on_order orders.Unreadable takes = some_on takes.was

-- The login that is on is the same as before, grants as many requests, takes more or none, and has as many outstanding.
pub drops_under : (arrival : Arrival) (at new : Doing) (logins : LoginState) (taking : Bool) (outstanding : ℕ) → logins ≡ at.logins → taking ≡ at.taking → outstanding ≡ at.outstanding
    → DropsAll (before_hearing arrival (record at { logins = logins; taking = taking; outstanding = outstanding })) new → DropsAll (before_hearing arrival at) new
drops_under arrival at new logins taking outstanding same takes few drops =
    subst (λ (z : LoginState × Bool × ℕ). DropsAll (before_hearing arrival (record at { logins = z.0; taking = z.1; outstanding = z.2 })) new) (λ i. (same i, takes i, few i)) drops

-- THE INITIALISATION, AND DATAGRAMS -------------------------------------------------------------

-- An entry of the initialisation was heard, and this was sent for it; the handshake and whether the session is over were those before.
pub init_sends : (arrival : Arrival) (was : Handshake) (ended : Bool) (at new : Doing) (reply : Entry) → at.waiting ≡ None → at.kept ≡ None → ended ≡ false → kind_of (first_byte arrival.entry) ≡ Init
    → at.handshake ≡ state_after was arrival.entry → at.ended ≡ ended → step_entry (step_after was arrival.entry) ≡ Some reply → SendsReply at new reply
    → HearsInit (before_hearing arrival (record at { handshake = was; ended = ended })) new
init_sends arrival was ended at new reply waits none going kind shook still step sends = record {
  stays = record { name = sends.stays.name; id = sends.stays.id; granted = sends.stays.granted; partner = sends.stays.partner; to = sends.stays.to };
  aside = record {
    served = record { stage = sends.aside.served.stage; answer = sends.aside.served.answer; pending = sends.aside.served.pending };
    logins = sends.aside.logins;
    taking = sends.aside.taking;
    outstanding = sends.aside.outstanding;
    waiting = sends.aside.waiting ∙ waits;
    client = sends.aside.client;
    rows = sends.aside.rows;
    lines = sends.aside.lines;
  };
  was = none;
  going = going;
  entry = arrival.entry;
  heard = ap (λ (list : List Entry). arrival.entry ∷ list) (sym sends.coming);
  kind = kind;
  handshake = sends.line.handshake ∙ shook;
  ended = sends.line.ended ∙ still;
  event = sends.line.event;
  reaches = sends.line.reaches;
  sent = subst (λ (o : Option Entry). MatchOption o ((new.sent ≡ at.sent) × (new.kept ≡ at.kept)) (SendsOrKeeps at new)) (sym step) sends.sent;
}

-- Nothing is sent for it.
pub init_none : (arrival : Arrival) (was : Handshake) (ended : Bool) (at : Doing) → at.waiting ≡ None → at.kept ≡ None → ended ≡ false → kind_of (first_byte arrival.entry) ≡ Init
    → at.handshake ≡ state_after was arrival.entry → at.ended ≡ ended → step_entry (step_after was arrival.entry) ≡ None → HearsInit (before_hearing arrival (record at { handshake = was; ended = ended })) at
init_none arrival was ended at waits none going kind shook still step = record {
  stays = record { name = refl; id = refl; granted = refl; partner = refl; to = refl };
  aside = record {
    served = record { stage = refl; answer = refl; pending = refl };
    logins = refl;
    taking = refl;
    outstanding = refl;
    waiting = waits;
    client = known_same at.client;
    rows = refl;
    lines = refl;
  };
  was = none;
  going = going;
  entry = arrival.entry;
  heard = refl;
  kind = kind;
  handshake = shook;
  ended = still;
  event = refl;
  reaches = refl;
  sent = subst (λ (o : Option Entry). MatchOption o ((at.sent ≡ at.sent) × (at.kept ≡ at.kept)) (SendsOrKeeps at at)) (sym step) (refl, refl);
}

-- the low half of an entry is its address
pub low_address : (entry : Entry) → entry.low < 256 ^ 8 → iu_address entry ≡ entry.low
low_address entry few = big_number-reads_back 8 entry.low [] few

-- A management datagram was heard, and answered.
pub datagram_sends : (arrival : Arrival) (at new : Doing) (reply : Entry) → at.waiting ≡ None → at.kept ≡ None → at.ended ≡ false → is_srp_entry arrival.entry ≡ false → first_byte arrival.entry ≡ 0x80 → reply ≡ datagram_answer arrival.entry.low → SendsReply at new reply
    → HearsDatagram (before_hearing arrival at) new
datagram_sends arrival at new reply waits none going other first answers sends = record {
  stays = record { name = sends.stays.name; id = sends.stays.id; granted = sends.stays.granted; partner = sends.stays.partner; to = sends.stays.to };
  aside = record {
    served = record { stage = sends.aside.served.stage; answer = sends.aside.served.answer; pending = sends.aside.served.pending };
    logins = sends.aside.logins;
    taking = sends.aside.taking;
    outstanding = sends.aside.outstanding;
    waiting = sends.aside.waiting ∙ waits;
    client = sends.aside.client;
    rows = sends.aside.rows;
    lines = sends.aside.lines;
  };
  line = record { ended = sends.line.ended; handshake = sends.line.handshake; event = sends.line.event; reaches = sends.line.reaches };
  was = none;
  going = going;
  entry = arrival.entry;
  heard = ap (λ (list : List Entry). arrival.entry ∷ list) (sym sends.coming);
  kind = ap kind_of first;
  other = other;
  sent = subst (SendsOrKeeps at new) answers sends.sent;
}

-- WHAT IS LEFT -----------------------------------------------------------------------------------

-- a reply of a unit that serves none
pub reply_free : (old new : Doing) (reply : Entry) → SendsReply old new reply → is_srp_entry reply ≡ false → IsFree old → IsFree new
reply_free old new reply sends apart free = record {
  waiting = sends.aside.waiting ∙ free.waiting;
  stage = sends.aside.served.stage ∙ free.stage;
  kept = keeps sends.sent;
}
  where
    keeps : SendsOrKeeps old new reply → KeepsNoAnswer new.kept
    keeps (inl put) = subst KeepsNoAnswer (sym put.1) free.kept
    keeps (inr full) = subst KeepsNoAnswer (sym full.2) apart

-- nothing was done
pub freely_none : (old new : Doing) → new ≡ old → IsFree old → DoesFreely old new
freely_none old new same free = record { does = does_none old new same; free = subst IsFree (sym same) free }

-- one step of a turn
pub one_init : (old new : Doing) → HearsInit old new → DoesOne old new
one_init old new hears = inr (inr (inr (inr (inr (inl hears)))))

pub one_datagram : (old new : Doing) → HearsDatagram old new → DoesOne old new
one_datagram old new hears = inr (inr (inr (inr (inr (inr (inl hears))))))

pub one_passes : (old new : Doing) → PassesEntry old new → DoesOne old new
one_passes old new passes = inr (inr (inr (inr (inr (inr (inr (inl passes)))))))

pub one_takes : (old new : Doing) → TakesRequest old new → DoesOne old new
one_takes old new takes = inr (inr (inr (inr (inr (inr (inr (inr (inl takes))))))))

-- one step was made
pub one_freely : (old new : Doing) → DoesOne old new → IsFree new → DoesFreely old new
one_freely old new one free = record { does = does_one old new one; free = free }

pub passes_freely : (old new : Doing) → PassesEntry old new → IsFree new → DoesFreely old new
passes_freely old new passes free = one_freely old new (one_passes old new passes) free

-- The login ended as it was heard.
pub drops_freely : (old new : Doing) → DropsAll old new → new.waiting ≡ None → DoesFreely old new
drops_freely old new drops waiting = record {
  does = does_one old new (one_drops old new drops);
  free = record { waiting = waiting; stage = drops.stage; kept = keeps_none new.kept drops.kept };
}

-- one part behind another
pub freely_then : (a b c : Doing) → DoesFreely a b → DoesFreely b c → DoesFreely a c
freely_then a b c first second = record { does = does_then a b c first.does second.does; free = second.free }

-- a part behind another, where room was made between
pub freely_next : (a b b' c : Doing) → b' ≡ b → DoesFreely a b → (IsFree b' → DoesFreely b' c) → DoesFreely a c
freely_next a b b' c same first next = freely_then a b c first (subst (λ (d : Doing). DoesFreely d c) same (next (subst IsFree (sym same) first.free)))

-- THE QUEUE IS POLLED ----------------------------------------------------------------------------

-- nothing came
pub still_doing : (link : Bool) (unit : Unit) (old mid new : SiteState) (records : Records) → link ≡ false → OnlyReserves old.queue mid.queue → OnlyTakes link mid.queue new.queue → new.queue.taken ≡ mid.queue.taken
    → new.client ≡ old.client → new.own ≡ old.own → doing unit new records ≡ doing unit old records
still_doing link unit old mid new records alone reserves takes taken client own = λ i. record (doing unit old records) {
  name = (own i).place.unit;
  coming = come i;
  sent = (takes.sent ∙ reserves.sent) i;
  client = client i;
  event = (takes.kept ∙ reserves.kept) i;
  reaches = (takes.registered ∙ reserves.registered) i && ((takes.place ∙ reserves.place) i).partner_registered;
  partner = ((takes.place ∙ reserves.place) i).partner_registered;
  to = (takes.counts.same_session alone ∙ ap (λ (c : EndCounts). c.partner_session) reserves.counts) i;
}
  where
    come : to_come new.queue ≡ to_come old.queue
    come = ap (λ (z : ℕ × List PipeRow × List PipeRow). drop (length (of_session z.0 z.1)) (of_session z.0 z.2))
        (λ i. ((takes.last_session ∙ reserves.last_session) i, (taken ∙ reserves.taken) i, ((takes.place ∙ reserves.place) i).received))

-- nothing is due for what was heard
pub passes_same : (arrival : Arrival) (at : Doing) → at.waiting ≡ None → at.kept ≡ None → kind_of (first_byte arrival.entry) ≢ Init → kind_of (first_byte arrival.entry) ≢ Event → ¬ (is_srp_entry arrival.entry ≡ true)
    → PassesEntry (before_hearing arrival at) at
passes_same arrival at waits none no_init no_event no_srp =
    passes_entry arrival at at refl refl refl refl refl refl refl waits none refl refl refl refl refl refl refl refl refl refl (known_same at.client) refl refl no_init no_event (λ srp. absurd (no_srp srp))

-- a command is no entry of the initialisation, and no event
pub command_init : (entry : Entry) → first_byte entry ≡ 0x80 → kind_of (first_byte entry) ≢ Init
command_init entry first init = absurd (cc (ap kind_of first, init))

pub command_event : (entry : Entry) → first_byte entry ≡ 0x80 → kind_of (first_byte entry) ≢ Event
command_event entry first event = absurd (cc (ap kind_of first, event))

pub srp_first : (entry : Entry) → is_srp_entry entry ≡ true → first_byte entry ≡ 0x80
srp_first entry srp = eqb-true (first_byte entry) 0x80 (front (first_byte entry == 0x80) (entry_format entry == 0x01) srp)
  where
    front : (a b : Bool) → (a && b) ≡ true → a ≡ true
    front true b is = refl
    front false b is = absurd (cc (is))

-- only a command is an SRP entry, and only one of its format
pub other_srp : (entry : Entry) → kind_of (first_byte entry) ≢ Command → ¬ (is_srp_entry entry ≡ true)
other_srp entry other srp = other (ap kind_of (srp_first entry srp))

pub format_srp : (entry : Entry) → entry_format entry ≢ 0x01 → ¬ (is_srp_entry entry ≡ true)
format_srp entry other srp = other (eqb-true (entry_format entry) 0x01 (behind (first_byte entry == 0x80) (entry_format entry == 0x01) srp))
  where
    behind : (a b : Bool) → (a && b) ≡ true → b ≡ true
    behind true b is = is
    behind false b is = absurd (cc (is))

-- The logins are as they were.
pub ignored_stays : (old new : Logins) (bytes : List ℕ) (verdict : Verdict) → verdict ≡ Ignored → Decides old new bytes verdict → StaysOn old new
ignored_stays old new bytes verdict is decides = (subst (Decides old new bytes) is decides).0

pub fatal_stays : (old new : Logins) (bytes : List ℕ) (verdict : Verdict) (cause : Lapse) (outstanding granted : ℕ) → verdict ≡ Fatal cause outstanding granted → Decides old new bytes verdict → StaysOn old new
fatal_stays old new bytes verdict cause outstanding granted is decides = (subst (Decides old new bytes) is decides).0

-- What is judged asks nothing.
pub ignored_asks : (arrival : Arrival) (at : Doing) (old new : Logins) (bytes : List ℕ) (verdict : Verdict) → verdict ≡ Ignored → Decides old new bytes verdict → at.handshake ≡ Up → at.ended ≡ false
    → length bytes ≡ iu_length arrival.entry → IsReadWhole at.client (iu_address arrival.entry) bytes → AsksNothing (before_hearing arrival at) arrival.entry
ignored_asks arrival at old new bytes verdict is decides up going long read =
    let decided = subst (Decides old new bytes) is decides in
    record { up = up; going = going; bytes = bytes; long = long; read = read; iu = decided.1.0; spelled = decided.1.1.0; ignored = decided.1.1.1 }

pub hearing_free : (arrival : Arrival) (at : Doing) → at.waiting ≡ None → IsFree (before_hearing arrival at) → IsFree at
hearing_free arrival at waiting free = record { waiting = waiting; stage = free.stage; kept = free.kept }

-- a part that begins as an entry came
pub hears_freely : (old at new : Doing) → old ≡ at → (IsFree at → DoesFreely at new) → IsFree old → DoesFreely old new
hears_freely old at new same next free = subst (λ (d : Doing). DoesFreely d new) (sym same) (next (subst IsFree same free))

-- whether more is taken in the session
pub ended_same : (closing closing' : Bool) (h h' : Handshake) → closing' ≡ closing → h' ≡ h → closing' || is_down h' ≡ closing || is_down h
ended_same closing closing' h h' closes shakes = λ i. closes i || is_down (shakes i)
