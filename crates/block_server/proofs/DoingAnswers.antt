-- What the answer to the oldest request does: it is written over it, and its entry is put, kept, or found its queue closed.
use Rattle.std.proofs.Common.{◌≡◌, ◌⊎◌, inl, inr, ◌++◌, ◌+◌, ◌&&◌, ◌||◌, ℕ, Bool, true, false, cond, List, [], ◌∷◌, Option, Some, None, arith, drop, length, append-nil, refl, sym, ◌∙◌, ap, subst}
use Rattle.vio_num.specs.Entry.{is_srp_entry}
use Rattle.vio_num.specs.declared.entry.Entry.{Entry}
use Rattle.vio_num.specs.declared.history.Grant.{Grant}
use Rattle.vio_num.specs.declared.history.Grant.TheVariants.{Lapsed}
use Rattle.vio_num.specs.declared.history.Lapse.{Lapse}
use Rattle.vio_num.specs.declared.history.Served.{Served}
use Rattle.vio_num.specs.declared.names.UnitId.{UnitId}
use Rattle.crq_session.specs.EndState.{EndState, OnlySends}
use Rattle.tce_window.specs.PortState.{PortPlace, PortState}
use Rattle.tce_window.specs.declared.answers.Right.TheVariants.{Write}
use Rattle.rdma_copy.specs.Copies.{MayHold}
use Rattle.block_server.specs.Advances.{Advances}
use Rattle.block_server.specs.Bearing.{BearsIn, IsAnswerPart}
use Rattle.block_server.specs.Copied.{own_name}
use Rattle.block_server.specs.Doings.{DoesOne, DoesTurn, Doing, DropsAll, IsAtRest, IsFree, IsNewLogin, KeepsEntry, KeepsNoAnswer, LosesEntry, PutsEntry, SettlesLogin, SendsKept, StaysLine, StaysUnit, WritesAnswer, doing, entry_for}
use Rattle.block_server.specs.Ends.{EndsLogin}
use Rattle.block_server.specs.Granting.{LoginState, login_state}
use Rattle.block_server.specs.Ranges.{Known, client_known, known_in, seen_in}
use Rattle.block_server.specs.Receipts.{Standing, is_down, is_ended, standing_of}
use Rattle.block_server.specs.Serving.{LeavesRow, SettlesRow}
use Rattle.block_server.specs.SiteState.{SiteState}
use Rattle.block_server.specs.Stage.{has_answer}
use Rattle.block_server.specs.Standing.{Stands}
use Rattle.block_server.specs.Talk.{SettlesLogins, StaysKnown, settled_lines}
use Rattle.block_server.specs.declared.line.Kept.{Kept}
use Rattle.block_server.specs.declared.line.Kept.TheVariants as keeps
use Rattle.block_server.specs.declared.line.Line.{Line}
use Rattle.block_server.specs.declared.logins.Logins.{Logins}
use Rattle.block_server.specs.declared.records.Records.{Records}
use Rattle.block_server.specs.declared.request.Request.{Request}
use Rattle.block_server.specs.declared.service.Outcome.{Outcome}
use Rattle.block_server.specs.declared.service.Outcome.TheVariants as outcomes
use Rattle.block_server.specs.declared.service.Stage.{Stage}
use Rattle.block_server.specs.declared.service.Stage.TheVariants as stages
use Rattle.block_server.specs.declared.unit.Unit.{Unit}
use Rattle.block_server.proofs.DoingEnds.{keeps_none, one_drops}
use Rattle.block_server.proofs.DoingReplies.{PutsOrLoses, come_same, known_equal, reaches_of}
use Rattle.block_server.proofs.Doings.{does_none, does_one, does_then}
use Rattle.block_server.proofs.LastRows.{answer_none}

-- WHAT IS THE SAME -------------------------------------------------------------------------------

pub dropped : (items left rest : List Request) (request : Request) → items ≡ request ∷ rest → left ≡ drop 1 items → items ≡ request ∷ left
dropped items left rest request is drops = is ∙ ap (λ (list : List Request). request ∷ list) (sym (drops ∙ ap (λ (list : List Request). drop 1 list) is))

-- The queue is as it was.
pub unit_queue : (unit unit' : Unit) (old new : SiteState) (records records' : Records) → new.own.place ≡ old.own.place → unit'.id ≡ unit.id → unit'.logins.granted ≡ unit.logins.granted → new.queue ≡ old.queue
    → StaysUnit (doing unit old records) (doing unit' new records')
unit_queue unit unit' old new records records' own id granted queue =
    record {
      name = ap (λ (p : PortPlace). p.unit) own;
      id = id;
      granted = granted;
      partner = ap (λ (q : EndState). q.place.partner_registered) queue;
      to = ap (λ (q : EndState). q.counts.partner_session) queue;
    }

pub line_queue : (unit unit' : Unit) (old new : SiteState) (records records' : Records) → is_ended unit'.line ≡ is_ended unit.line → unit'.line.handshake ≡ unit.line.handshake → new.queue ≡ old.queue
    → StaysLine (doing unit old records) (doing unit' new records')
line_queue unit unit' old new records records' ended handshake queue =
    record { ended = ended; handshake = handshake; event = ap (λ (q : EndState). q.kept) queue; reaches = ap reaches_of queue }

-- An entry was sent.
pub unit_sends : (link : Bool) (unit unit' : Unit) (old new : SiteState) (records records' : Records) → link ≡ false → OnlySends link old.queue new.queue → new.own.place ≡ old.own.place
    → unit'.id ≡ unit.id → unit'.logins.granted ≡ unit.logins.granted → StaysUnit (doing unit old records) (doing unit' new records')
unit_sends link unit unit' old new records records' alone rest own id granted =
    record { name = ap (λ (p : PortPlace). p.unit) own; id = id; granted = granted; partner = λ i. (rest.place i).partner_registered; to = rest.counts.same_session alone }

pub line_sends : (link : Bool) (unit unit' : Unit) (old new : SiteState) (records records' : Records) → OnlySends link old.queue new.queue
    → is_ended unit'.line ≡ is_ended unit.line → unit'.line.handshake ≡ unit.line.handshake → StaysLine (doing unit old records) (doing unit' new records')
line_sends link unit unit' old new records records' rest ended handshake =
    record { ended = ended; handshake = handshake; event = rest.kept; reaches = λ i. rest.registered i && (rest.place i).partner_registered }

-- WRITING IT -------------------------------------------------------------------------------------

pub seen_alone : (shared : Bool) (port : PortState) → shared ≡ false → seen_in shared port ≡ Some (known_in port)
seen_alone shared port apart = ap (λ (b : Bool). cond b None (Some (known_in port))) apart

-- The answer was written over the oldest request.
pub writes_answer : (unit unit' : Unit) (old new : SiteState) (records : Records) (outcome : Outcome) (request : Request) (rest : List Request) → old.shared ≡ false
    → unit.pending.items ≡ request ∷ rest → unit.service.stage ≡ stages.Answer outcome → unit'.service.stage ≡ stages.Entry outcome → unit'.id ≡ unit.id
    → unit'.service.answer.items ≡ unit.service.answer.items → unit'.pending.items ≡ unit.pending.items → unit'.line ≡ unit.line → unit'.logins ≡ unit.logins
    → new.queue ≡ old.queue → Advances old new → MayHold old.client Write request.address (length unit.service.answer.items)
    → Stands new.client (own_name old.own request.tag) request.address unit.service.answer.items
    → BearsIn (IsAnswerPart (own_name old.own request.tag) request.address unit.service.answer.items) (client_known old) (client_known new)
    → WritesAnswer (doing unit old records) (doing unit' new records)
writes_answer unit unit' old new records outcome request rest apart parts at stage id answer pending line logins queue advances may stands bears = record {
  stays = unit_queue unit unit' old new records records advances.own_place id (ap (λ (l : Logins). l.granted) logins) queue;
  line = line_queue unit unit' old new records records (ap is_ended line) (ap (λ (l : Line). l.handshake) line) queue;
  outcome = outcome;
  first = at;
  stage = stage;
  answer = answer;
  kept = ap (λ (l : Line). l.kept) line;
  coming = ap (λ (q : EndState). (doing unit (record new { queue = q }) records).coming) queue;
  sent = ap (λ (q : EndState). q.sent) queue;
  logins = ap login_state logins;
  lines = refl;
  rows = refl;
  request = request;
  rest = rest;
  pending = parts;
  pends = pending;
  place = advances.client_place;
  may = may;
  stands = stands;
  bears = subst (λ (z : Option Known × Option Known). BearsIn (IsAnswerPart (own_name old.own request.tag) request.address unit.service.answer.items) z.0 z.1)
      (λ i. (seen_alone old.shared old.client apart i, seen_alone new.shared new.client (advances.shared ∙ apart) i)) bears;
}

-- The window refused it, and the session ended.
pub refused_drops : (unit mid unit' : Unit) (old new : SiteState) (records records' : Records) (outcome : Outcome) (session : ℕ) (cause : Lapse) (outstanding granted : ℕ)
    → unit.service.stage ≡ stages.Answer outcome → EndsLogin mid unit' records records' session cause outstanding granted → mid.id ≡ unit.id → mid.logins ≡ unit.logins → mid.service.stage ≡ stages.Answer outcome
    → LeavesRow mid.service.stage mid.service.given.items records.history.items records'.history.items → unit'.id ≡ mid.id → unit'.service.stage ≡ stages.Start
    → unit'.line.closing ≡ true → unit'.line.handshake ≡ unit.line.handshake → new.queue ≡ old.queue → Advances old new → StaysKnown old.client new.client
    → DropsAll (doing unit old records) (doing unit' new records')
refused_drops unit mid unit' old new records records' outcome session cause outstanding granted was ends id logins at leaves id' stage closing handshake queue advances known = record {
  stays = unit_queue unit unit' old new records records' advances.own_place (id' ∙ id) (ends.as_many ∙ ap (λ (l : Logins). l.granted) logins) queue;
  event = ap (λ (q : EndState). q.kept) queue;
  reaches = ap reaches_of queue;
  why = inr (
    ap (λ (b : Bool). b || is_down unit'.line.handshake) closing,
    handshake,
    inl (ap (λ (q : EndState). (doing unit (record new { queue = q }) records).coming) queue),
  );
  put = record { sent = ap (λ (q : EndState). q.sent) queue; client = known; rows = answer_none mid.service.stage outcome mid.service.given.items records.history.items records'.history.items at leaves };
  unanswered = λ other entry. absurd (cc (was, entry));
  stage = stage;
  kept = ends.kept;
  pending = ends.pending;
  current = ends.off;
  cause = cause;
  session = session;
  outstanding = outstanding;
  granted = granted;
  lines = ends.line ∙ (λ i. records.grants.items ++ Lapsed (id i) session (logins i).current cause outstanding granted ∷ []);
}

-- ITS ENTRY --------------------------------------------------------------------------------------

settled_as : (outcome : Outcome) (id : UnitId) (session : ℕ) (logins logins' : Logins) (lines lines' : List Grant) → SettlesLogins outcome logins logins'
    → lines' ≡ lines ++ settled_lines outcome id session logins → SettlesLogin outcome id (login_state logins) (login_state logins') lines lines'
settled_as (outcomes.Granted number) id session logins logins' lines lines' begins added = record {
  session = session;
  login = logins.last + 1;
  some = omega arith;
  on = λ i. record { granted = begins.granted i; current = begins.current i };
  line = added;
}
settled_as outcomes.Rejected id session logins logins' lines lines' same added = (ap login_state same, added ∙ append-nil lines)
settled_as (outcomes.Served row) id session logins logins' lines lines' counts added = (λ i. record { granted = counts.granted i; current = counts.current i }, added ∙ append-nil lines)

-- a login that is granted is on, and takes requests
new_login : (outcome : Outcome) (logins logins' : Logins) (new : Doing) → SettlesLogins outcome logins logins' → new.logins ≡ login_state logins' → new.taking ≡ logins'.taking
    → new.outstanding ≡ logins'.target.outstanding → IsNewLogin outcome new
new_login (outcomes.Granted number) logins logins' new begins on takes few =
    (λ none. omega (arith, none, ap (λ (l : LoginState). l.current) on, begins.current), takes ∙ begins.taking, few ∙ begins.outstanding)
new_login outcomes.Rejected logins logins' new same on takes few = tt
new_login (outcomes.Served row) logins logins' new counts on takes few = tt

-- It was put, and the request is served.
pub puts_entry : (link : Bool) (unit unit' : Unit) (old new : SiteState) (records records' : Records) (outcome : Outcome) (request : Request) (rest : List Request) (session : ℕ) (entry : Entry)
    → link ≡ false → unit.service.stage ≡ stages.Entry outcome → unit.pending.items ≡ request ∷ rest → entry ≡ entry_for request unit.service.answer.items
    → reaches_of old.queue ≡ true → PutsOrLoses old.queue new.queue entry → OnlySends link old.queue new.queue → new.own.place ≡ old.own.place → new.client ≡ old.client
    → standing_of unit' ≡ standing_of unit → unit'.line.handshake ≡ unit.line.handshake → unit'.service.stage ≡ stages.Start → unit'.line.kept ≡ None
    → unit'.pending.items ≡ drop 1 unit.pending.items → SettlesRow outcome unit.service.answer.items records.history.items records'.history.items
    → SettlesLogins outcome unit.logins unit'.logins → records'.grants.items ≡ records.grants.items ++ settled_lines outcome unit.id session unit.logins
    → PutsEntry (doing unit old records) (doing unit' new records')
puts_entry link unit unit' old new records records' outcome request rest session entry alone at parts entry_is reach sent only own client stands handshake stage kept pending row logins lines = record {
  stays = unit_sends link unit unit' old new records records' alone only own (ap (λ (s : Standing). s.id) stands) (ap (λ (s : Standing). s.granted) stands);
  line = line_sends link unit unit' old new records records' only (ap (λ (s : Standing). s.ended) stands) handshake;
  reaches = reach;
  outcome = outcome;
  first = at;
  long = subst (λ (s : Stage). has_answer s (length unit.service.answer.items) ≡ true) at unit.service.answered;
  stage = stage;
  kept = kept;
  coming = come_same old.queue new.queue only.place only.last_session only.taken;
  client = known_equal old.client new.client client;
  request = request;
  pending = dropped unit.pending.items unit'.pending.items rest request parts pending;
  sent = subst (PutsOrLoses old.queue new.queue) entry_is sent;
  rows = row;
  logins = settled_as outcome unit.id session unit.logins unit'.logins records.grants.items records'.grants.items logins lines;
  begins = new_login outcome unit.logins unit'.logins (doing unit' new records') logins refl refl refl;
}

-- It met a closed queue.
pub loses_entry : (link : Bool) (unit unit' : Unit) (old new : SiteState) (records : Records) (outcome : Outcome) (request : Request) (rest : List Request)
    → link ≡ false → unit.service.stage ≡ stages.Entry outcome → unit.pending.items ≡ request ∷ rest → reaches_of old.queue ≡ false → new.queue.sent ≡ old.queue.sent
    → OnlySends link old.queue new.queue → new.own.place ≡ old.own.place → new.client ≡ old.client
    → standing_of unit' ≡ standing_of unit → unit'.line.handshake ≡ unit.line.handshake → unit'.service.stage ≡ stages.Start → unit'.line.kept ≡ None
    → unit'.pending.items ≡ drop 1 unit.pending.items → unit'.logins ≡ unit.logins
    → LosesEntry (doing unit old records) (doing unit' new records)
loses_entry link unit unit' old new records outcome request rest alone at parts reach sent only own client stands handshake stage kept pending logins = record {
  stays = unit_sends link unit unit' old new records records alone only own (ap (λ (s : Standing). s.id) stands) (ap (λ (s : Standing). s.granted) stands);
  line = line_sends link unit unit' old new records records only (ap (λ (s : Standing). s.ended) stands) handshake;
  put = record { sent = sent; client = known_equal old.client new.client client; rows = refl };
  reaches = reach;
  outcome = outcome;
  first = at;
  stage = stage;
  kept = kept;
  coming = come_same old.queue new.queue only.place only.last_session only.taken;
  request = request;
  pending = dropped unit.pending.items unit'.pending.items rest request parts pending;
  logins = ap login_state logins;
  lines = refl;
}

-- It found the client's queue full, and is kept.
pub keeps_entry : (link : Bool) (unit : Unit) (kept : Option Kept) (old new : SiteState) (records : Records) (outcome : Outcome) (request : Request) (rest : List Request) (entry : Entry)
    → link ≡ false → unit.service.stage ≡ stages.Entry outcome → unit.line.kept ≡ None → unit.pending.items ≡ request ∷ rest → entry ≡ entry_for request unit.service.answer.items
    → kept ≡ Some (keeps.Answer entry outcome) → reaches_of old.queue ≡ true → new.queue.sent ≡ old.queue.sent
    → OnlySends link old.queue new.queue → new.own.place ≡ old.own.place → new.client ≡ old.client
    → KeepsEntry (doing unit old records) (record (doing unit new records) { kept = kept })
keeps_entry link unit kept old new records outcome request rest entry alone at none parts entry_is is reach sent only own client = record {
  reaches = reach;
  outcome = outcome;
  first = at;
  was = keeps_none unit.line.kept none;
  request = request;
  rest = rest;
  pending = parts;
  stays = record { name = ap (λ (p : PortPlace). p.unit) own; id = refl; granted = refl; partner = λ i. (only.place i).partner_registered; to = only.counts.same_session alone };
  line = record { ended = refl; handshake = refl; event = only.kept; reaches = λ i. only.registered i && (only.place i).partner_registered };
  put = record { sent = sent; client = known_equal old.client new.client client; rows = refl };
  served = record { stage = refl; answer = refl; pending = refl };
  kept = is ∙ ap (λ (e : Entry). Some (keeps.Answer e outcome)) entry_is;
  coming = come_same old.queue new.queue only.place only.last_session only.taken;
  logins = refl;
  lines = refl;
}

-- WHERE THE UNIT RESTS ---------------------------------------------------------------------------

pub rests_free : (unit : Unit) (site : SiteState) (records : Records) → unit.waiting ≡ None → unit.service.stage ≡ stages.Start → unit.line.kept ≡ None → IsAtRest (doing unit site records)
rests_free unit site records waiting stage kept = inl (record { waiting = waiting; stage = stage; kept = keeps_none unit.line.kept kept })

pub rests_kept : (unit : Unit) (kept : Option Kept) (site : SiteState) (records : Records) (outcome : Outcome) (request : Request) (rest : List Request) (entry : Entry)
    → unit.service.stage ≡ stages.Entry outcome → unit.pending.items ≡ request ∷ rest → entry ≡ entry_for request unit.service.answer.items
    → kept ≡ Some (keeps.Answer entry outcome) → unit.waiting ≡ None → (doing unit site records).ended ≡ false
    → IsAtRest (record (doing unit site records) { kept = kept })
rests_kept unit kept site records outcome request rest entry at parts entry_is is waiting going = inr (record {
  waiting = waiting;
  outcome = outcome;
  stage = at;
  request = request;
  rest = rest;
  pending = parts;
  kept = is ∙ ap (λ (e : Entry). Some (keeps.Answer e outcome)) entry_is;
  going = going;
})

-- THE STEPS --------------------------------------------------------------------------------------

pub does_write : (old new : Doing) → WritesAnswer old new → DoesOne old new
does_write old new is = inr (inr (inr (inr (inr (inr (inr (inr (inr (inr (inr (inr (inl is))))))))))))

pub does_keep : (old new : Doing) → KeepsEntry old new → DoesOne old new
does_keep old new is = inr (inr (inr (inr (inr (inr (inr (inr (inr (inr (inr (inr (inr (inl is)))))))))))))

pub does_put : (old new : Doing) → PutsEntry old new → DoesOne old new
does_put old new is = inr (inr (inr (inr (inr (inr (inr (inr (inr (inr (inr (inr (inr (inr (inl is))))))))))))))

pub does_lose : (old new : Doing) → LosesEntry old new → DoesOne old new
does_lose old new is = inr (inr (inr (inr (inr (inr (inr (inr (inr (inr (inr (inr (inr (inr (inr is))))))))))))))

-- THE TURN ---------------------------------------------------------------------------------------

pub turn_from : (a a' b : Doing) → a ≡ a' → DoesTurn a b → DoesTurn a' b
turn_from a a' b same turn = subst (λ (x : Doing). DoesTurn x b) same turn

pub turn_none : (a b : Doing) → b ≡ a → IsAtRest a → DoesTurn a b
turn_none a b same rests = record { does = does_none a b same; rests = subst IsAtRest (sym same) rests }

pub turn_one : (a b : Doing) → DoesOne a b → IsAtRest b → DoesTurn a b
turn_one a b one rests = record { does = does_one a b one; rests = rests }

apart : (stage : Stage) (outcome : Outcome) → stage ≡ stages.Entry outcome → stage ≡ stages.Start → ⊥
apart stage outcome entry start = cc (entry, start)

-- The answer was copied, and then its entry was put, kept or lost.
pub answered_put : (a m b : Doing) (outcome : Outcome) → m.stage ≡ stages.Entry outcome → WritesAnswer a m ⊎ DropsAll a m → (WritesAnswer a m → DoesOne m b) → (WritesAnswer a m → IsAtRest b) → DoesTurn a b
answered_put a m b outcome at (inl writes) puts rests = record { does = does_then a m b (does_one a m (does_write a m writes)) (does_one m b (puts writes)); rests = rests writes }
answered_put a m b outcome at (inr drops) puts rests = absurd (apart m.stage outcome at drops.stage)

-- It was not, and the session ended.
pub answered_none : (a m : Doing) → ((outcome : Outcome) → m.stage ≡ stages.Entry outcome → ⊥) → WritesAnswer a m ⊎ DropsAll a m → m.waiting ≡ None → DoesTurn a m
answered_none a m not (inl writes) waiting = absurd (not writes.outcome writes.stage)
answered_none a m not (inr drops) waiting = turn_one a m (one_drops a m drops) (inl (record { waiting = waiting; stage = drops.stage; kept = keeps_none m.kept drops.kept }))

-- WHAT WAS KEPT ----------------------------------------------------------------------------------

-- a reply that is kept is no SRP entry, and nothing is in service
pub reply_kept : (at : Doing) (entry : Entry) → at.kept ≡ Some (keeps.Reply entry) → IsAtRest at → IsFree at × (is_srp_entry entry ≡ false)
reply_kept at entry is (inl free) = (free, subst KeepsNoAnswer is free.kept)
reply_kept at entry is (inr awaits) = absurd (cc (is, awaits.kept))

-- The entry is that of the answer to the oldest request.
pub record KeepsAnswerOf (at : Doing) (entry : Entry) (outcome : Outcome) : Type 0 where
  pub request : Request
  pub rest : List Request
  pub pending : at.pending ≡ request ∷ rest
  pub stage : at.stage ≡ stages.Entry outcome
  pub entry_is : entry ≡ entry_for request at.answer
  pub waiting : at.waiting ≡ None

same_entry : (a b : Entry) (o p : Outcome) → Some (keeps.Answer a o) ≡ Some (keeps.Answer b p) → a ≡ b
same_entry a b o p same = cc (same)

same_outcome : (a b : Entry) (o p : Outcome) → Some (keeps.Answer a o) ≡ Some (keeps.Answer b p) → o ≡ p
same_outcome a b o p same = cc (same)

pub answer_kept : (at : Doing) (entry : Entry) (outcome : Outcome) → at.kept ≡ Some (keeps.Answer entry outcome) → IsAtRest at → KeepsAnswerOf at entry outcome
answer_kept at entry outcome is (inl free) = absurd (subst KeepsNoAnswer is free.kept)
answer_kept at entry outcome is (inr awaits) =
    let same = sym is ∙ awaits.kept in
    record {
      request = awaits.request;
      rest = awaits.rest;
      pending = awaits.pending;
      stage = awaits.stage ∙ ap (λ (o : Outcome). stages.Entry o) (sym (same_outcome entry (entry_for awaits.request at.answer) outcome awaits.outcome same));
      entry_is = same_entry entry (entry_for awaits.request at.answer) outcome awaits.outcome same;
      waiting = awaits.waiting;
    }

pub does_reply : (old new : Doing) → SendsKept old new → DoesOne old new
does_reply old new is = inr (inr (inr (inr (inl is))))
