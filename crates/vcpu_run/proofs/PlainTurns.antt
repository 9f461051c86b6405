-- What a turn of a plain client's server unit leaves between them: it heard all that was to come, and the oldest of what was pending has
-- its answer.
use Rattle.std.proofs.Common.{◌≡◌, ◌∙◌, inl, inr, ℕ, ◌+◌, ◌≤◌, ◌++◌, Bool, true, false, cond, List, [], ◌∷◌, append-nil, drop, length, refl, sym, ap, subst, arith}
use Rattle.std.proofs.lemmas.List.{drop-append-le}
use Rattle.std.proofs.lemmas.List.Elements.{All-nil}
use Rattle.vio_num.specs.Entry.{initialization_complete}
use Rattle.vio_num.specs.declared.entry.Entry.{Entry}
use Rattle.vio_num.specs.declared.history.Grant.{Grant}
use Rattle.crq_ring.proofs.SessionLaws.{of_session-append, of_session-nil, of_session-push}
use Rattle.crq_ring.specs.Sessions.{of_session}
use Rattle.crq_ring.specs.declared.rows.PipeRow.{PipeRow}
use Rattle.crq_session.specs.Answered.{received_now, taken_now}
use Rattle.crq_session.specs.EndState.{EndPlace, EndState}
use Rattle.block_server.specs.Talk.{AnswersRequest, HearsAll, PutsReplies, ServesFirst, ServesNext, ServesNone, SettlesLogins, Talk, TalksOn, Word, reach, replies, session_rows, talk_of, to_come}
use Rattle.block_server.specs.Talk.Word.{asks, begins, gone}
use Rattle.block_server.specs.declared.logins.Logins.{Logins}
use Rattle.block_server.specs.declared.request.Request.{Request}
use Rattle.block_server.specs.declared.service.Outcome.{Outcome}
use Rattle.block_server.specs.declared.service.Outcome.TheVariants as outcomes
use Rattle.block_server.specs.declared.service.Stage.TheVariants as stages
use Rattle.block_server.specs.declared.unit.Unit.{Unit}
use Rattle.crq_session.specs.declared.handshake.Handshake.TheVariants.{Up}
use Rattle.vscsi_client.specs.State.{ClientState}
use Rattle.vscsi_client.specs.Units.{slot_address}
use Rattle.vscsi_client.specs.declared.TheConstants.{SLOTS}
use Rattle.vcpu_run.specs.PlainTalk.{AreEnds, AreSaidThere, AreStale, Between, ClientStays, HearsOfClient, HearsOfGone, IsAway, IsBeginning, IsCalm, IsVacant, TookNoMore}

-- ---- what the client's queue has more

pub own_rows : (q : ℕ) (entries : List Entry) → of_session q (session_rows q entries) ≡ entries
own_rows q [] = of_session-nil q
own_rows q (entry ∷ entries) =
    of_session-append q (record { session = q; entry = entry } ∷ []) (session_rows q entries)
    ∙ (λ i. first i ++ own_rows q entries i)
  where
    first : of_session q (record { session = q; entry = entry } ∷ []) ≡ entry ∷ []
    first = of_session-push (record { session = q; entry = entry }) [] ∙ ap (λ xs. xs ++ entry ∷ []) (of_session-nil q)

-- an end that took nothing, whose session goes on
pub record Receives (old new : EndState) (entries : List Entry) : Type 0 where
  pub session : new.last_session ≡ old.last_session
  pub registered : new.registered ≡ old.registered
  pub taken : new.taken ≡ old.taken
  pub slots : new.place.own_slots ≡ old.place.own_slots
  pub more : new.place.received ≡ old.place.received ++ (cond old.registered (session_rows old.last_session entries) [])

taken_same : (old new : EndState) (entries : List Entry) → Receives old new entries → taken_now new ≡ taken_now old
taken_same old new entries gets =
    ap (λ q. of_session q new.taken) gets.session ∙ ap (λ (rows : List PipeRow). of_session old.last_session rows) gets.taken

received_more : (old new : EndState) (entries : List Entry) → old.registered ≡ true → Receives old new entries → received_now new ≡ received_now old ++ entries
received_more old new entries there gets =
    ap (λ q. of_session q new.place.received) gets.session
    ∙ ap (λ (rows : List PipeRow). of_session old.last_session rows)
    (gets.more ∙ ap (λ b. old.place.received ++ cond b (session_rows old.last_session entries) []) there)
    ∙ of_session-append old.last_session old.place.received (session_rows old.last_session entries)
    ∙ ap (λ (list : List Entry). received_now old ++ list) (own_rows old.last_session entries)

pub come_more : (old new : EndState) (entries : List Entry) → old.registered ≡ true → TookNoMore old → Receives old new entries
    → to_come new ≡ to_come old ++ entries
come_more old new entries there took gets =
    ap (λ (list : List Entry). drop (length list) (received_now new)) (taken_same old new entries gets)
    ∙ ap (λ (list : List Entry). drop (length (taken_now old)) list) (received_more old new entries there gets)
    ∙ drop-append-le (length (taken_now old)) (received_now old) entries took

-- what the server unit's end put is what the client's received
pub gets_all : (server server' own own' : EndState) (entries : List Entry) → AreEnds server own → AreEnds server' own' → own'.last_session ≡ own.last_session
    → own'.registered ≡ own.registered → own'.taken ≡ own.taken → own'.place.own_slots ≡ own.place.own_slots → PutsReplies server server' entries → Receives own own' entries
gets_all server server' own own' entries ends ends' session registered taken slots put = record {
  session = session;
  registered = registered;
  taken = taken;
  slots = slots;
  more = ends'.server_sees.received ∙ put
      ∙ ap (λ b. server.sent ++ cond b (session_rows server.counts.partner_session entries) []) ends.server_sees.partner
      ∙ ap (λ q. server.sent ++ cond own.registered (session_rows q entries) []) ends.server_sees.session
      ∙ ap (λ (rows : List PipeRow). rows ++ cond own.registered (session_rows own.last_session entries) []) (sym ends.server_sees.received);
}

-- what put nothing
pub puts_no : (b : Bool) (q : ℕ) → cond b (session_rows q []) [] ≡ []
puts_no true q = refl
puts_no false q = refl

pub sent_same : (old new : EndState) → PutsReplies old new [] → new.sent ≡ old.sent
sent_same old new put =
    put ∙ ap (λ (rows : List PipeRow). old.sent ++ rows) (puts_no old.place.partner_registered old.counts.partner_session) ∙ append-nil old.sent

-- ---- what is served

-- What the service of the oldest request leaves of the unit and of its queue's end.
pub record GoesOn (unit unit' : Unit) (old new : EndState) : Type 0 where
  pub line : unit'.line ≡ unit.line
  pub waiting : unit'.waiting ≡ unit.waiting
  pub stage : unit'.service.stage ≡ stages.Start
  pub granted : unit'.logins.granted ≡ unit.logins.granted
  pub registered : new.registered ≡ old.registered
  pub session : new.last_session ≡ old.last_session
  pub taken : new.taken ≡ old.taken
  pub place : new.place ≡ old.place

settles_granted : (outcome : Outcome) (old new : Logins) → SettlesLogins outcome old new → new.granted ≡ old.granted
settles_granted (outcomes.Granted number) old new is = is.granted
settles_granted outcomes.Rejected old new is = ap (λ (logins : Logins). logins.granted) is
settles_granted (outcomes.Served row) old new is = is.granted

answered_granted : (unit unit' : Unit) (old new : EndState) (lines lines' : List Grant) (request : Request) (is : AnswersRequest unit unit' old new lines lines' request)
    → (b : Bool) → old.place.partner_registered ≡ b → unit'.logins.granted ≡ unit.logins.granted
answered_granted unit unit' old new lines lines' request is true e = settles_granted is.outcome unit.logins unit'.logins (is.put.logins e)
answered_granted unit unit' old new lines lines' request is false e = ap (λ (logins : Logins). logins.granted) (is.put.none e)

first_goes : (unit unit' : Unit) (old new : EndState) (lines lines' : List Grant) (request : Request) → ServesFirst unit unit' old new lines lines' request → GoesOn unit unit' old new
first_goes unit unit' old new lines lines' request (inl (order, out)) = record {
  line = out.over.line;
  waiting = out.over.waiting;
  stage = out.over.stage;
  granted = out.granted;
  registered = out.put.registered;
  session = out.put.last_session;
  taken = out.put.taken;
  place = out.put.place;
}
first_goes unit unit' old new lines lines' request (inr is) = record {
  line = is.put.over.line;
  waiting = is.put.over.waiting;
  stage = is.put.over.stage;
  granted = answered_granted unit unit' old new lines lines' request is old.place.partner_registered refl;
  registered = is.put.put.registered;
  session = is.put.put.last_session;
  taken = is.put.put.taken;
  place = is.put.put.place;
}

pub next_goes : (unit unit' : Unit) (old new : EndState) (lines lines' : List Grant) → unit.service.stage ≡ stages.Start → ServesNext unit unit' old new lines lines'
    → GoesOn unit unit' old new
next_goes unit unit' old new lines lines' stage (inl none) = record {
  line = ap (λ (u : Unit). u.line) none.same;
  waiting = ap (λ (u : Unit). u.waiting) none.same;
  stage = ap (λ (u : Unit). u.service.stage) none.same ∙ stage;
  granted = ap (λ (u : Unit). u.logins.granted) none.same;
  registered = ap (λ (end : EndState). end.registered) none.queue;
  session = ap (λ (end : EndState). end.last_session) none.queue;
  taken = ap (λ (end : EndState). end.taken) none.queue;
  place = ap (λ (end : EndState). end.place) none.queue;
}
next_goes unit unit' old new lines lines' stage (inr (request, rest, pending, first)) = first_goes unit unit' old new lines lines' request first

-- where nothing is pending nothing is served
no_items : {X : Type 0} (x : X) (xs : List X) → x ∷ xs ≡ [] → ⊥
no_items x xs e = cc (e)

pub serves_none : (unit unit' : Unit) (old new : EndState) (lines lines' : List Grant) → unit.pending.items ≡ [] → ServesNext unit unit' old new lines lines'
    → ServesNone unit unit' old new lines lines'
serves_none unit unit' old new lines lines' empty (inl none) = none
serves_none unit unit' old new lines lines' empty (inr (request, rest, pending, first)) = absurd (no_items request rest (sym pending ∙ empty))

-- ---- a turn in which nothing is amiss

-- a unit's turn, from what lies between it and its client
abbrev pub Turns : (at at' : Between) → (lines lines' : List Grant) → List Word → Type 0
Turns at at' lines lines' words = TalksOn at.unit at'.unit (reach at.server at.window false) at'.server lines lines' words

goes_behind : (at at' : Between) (lines lines' : List Grant) (words : List Word) → at.unit.service.stage ≡ stages.Start → (turn : Turns at at' lines lines' words)
    → GoesOn turn.middle at'.unit turn.between.queue at'.server
goes_behind at at' lines lines' words stage turn =
    next_goes turn.middle at'.unit turn.between.queue at'.server turn.added lines' (turn.hears.stage stage) turn.serves

pub hears_granted : (talk : Talk) (n : ℕ) (words : List Word) (talk' : Talk) → HearsAll talk n words talk' → talk'.granted ≡ talk.granted
hears_granted talk n [] talk' is = ap (λ (t : Talk). t.granted) is
hears_granted talk n (begins ∷ words) talk' (middle, one, all) =
    hears_granted middle (n + 1) words talk' all ∙ ap (λ (t : Talk). t.granted) one
hears_granted talk n (gone ∷ words) talk' (middle, one, all) = hears_granted middle (n + 1) words talk' all ∙ one.loses.granted
hears_granted talk n (asks address bytes iu ∷ words) talk' (middle, one, all) = hears_granted middle (n + 1) words talk' all ∙ one.granted

pub come_kept : (old new : EndState) → new.place.received ≡ old.place.received → new.last_session ≡ old.last_session → new.taken ≡ old.taken → to_come new ≡ to_come old
come_kept old new received session taken =
    ap (λ q. drop (length (of_session q new.taken)) (of_session q new.place.received)) session
    ∙ ap (λ (rows : List PipeRow). drop (length (of_session old.last_session rows)) (of_session old.last_session new.place.received)) taken
    ∙ ap (λ (rows : List PipeRow). drop (length (of_session old.last_session old.taken)) (of_session old.last_session rows)) received

pub come_same : (old new : EndState) → new.place ≡ old.place → new.last_session ≡ old.last_session → new.taken ≡ old.taken → to_come new ≡ to_come old
come_same old new place = come_kept old new (ap (λ (place : EndPlace). place.received) place)

pub calm_behind : (granted : ℕ) (at at' : Between) (lines lines' : List Grant) (words : List Word) → IsCalm granted at words → Turns at at' lines lines' words
    → ClientStays at at' → IsCalm granted at' []
calm_behind granted at at' lines lines' words calm turn stays =
    let goes = goes_behind at at' lines lines' words calm.stage turn in
    let registered : at'.server.registered ≡ true = goes.registered ∙ turn.hears.registered ∙ calm.registered in
    let place : at'.server.place ≡ at.server.place = goes.place ∙ turn.hears.place in
    record {
      registered = registered;
      closing = ap (λ line. line.closing) goes.line ∙ turn.all.closing;
      up = λ down. turn.all.up (sym (ap (λ line. line.handshake) goes.line) ∙ down);
      waiting = goes.waiting ∙ turn.all.waiting;
      kept = ap (λ line. line.kept) goes.line ∙ turn.all.kept;
      event = stays.idle registered;
      stage = goes.stage;
      grants = goes.granted ∙ hears_granted (talk_of at.unit) (length (taken_now at.server)) words (talk_of turn.middle) turn.hears.heard ∙ calm.grants;
      most = calm.most;
      ends = stays.ends;
      server_slots = subst (λ (p : EndPlace). 256 ≤ p.own_slots) (sym place) calm.server_slots;
      own_slots = subst (λ n. 256 ≤ n) (sym stays.slots) calm.own_slots;
      usable = stays.usable;
      said = subst (λ (list : List Entry). AreSaidThere at'.window list []) (sym (come_same turn.between.queue at'.server goes.place goes.session goes.taken ∙ turn.all.none)) tt;
    }

-- ---- the client is away

pub stale_none : (requests : List Request) → requests ≡ [] → AreStale requests
stale_none requests none = subst AreStale (sym none)
    (record { slots = All-nil (λ (request : Request). (slot : ℕ) × (slot ≤ SLOTS) × (request.address ≡ slot_address slot)); few = omega arith })

vacant_behind : (unit unit' : Unit) → unit' ≡ unit → IsVacant unit → IsVacant unit'
vacant_behind unit unit' same = subst IsVacant (sym same)

away_so : (at at' : Between) (words : List Word) → IsAway at words → ClientStays at at' → IsVacant at'.unit → IsAway at' []
away_so at at' words away stays vacant = record {
  registered = stays.registered ∙ away.registered;
  handshake = ap (λ (s : ClientState). s.handshake) stays.client ∙ away.handshake;
  kept = stays.kept ∙ away.kept;
  due = ap (λ (s : ClientState). s.due) stays.client ∙ away.due;
  stale = stale_none at'.unit.pending.items vacant.pending;
  heard = inr (refl, vacant);
}

-- it heard that the client is gone
pub gone_vacant : (unit middle : Unit) (n : ℕ) → HearsAll (talk_of unit) n (gone ∷ []) (talk_of middle) → IsVacant middle
gone_vacant unit middle n (between, one, all) = record {
  current = ap (λ (t : Talk). t.current) all ∙ one.loses.current;
  taking = ap (λ (t : Talk). t.taking) all ∙ one.loses.taking;
  pending = ap (λ (t : Talk). t.pending) all ∙ one.loses.pending;
}

pub none_vacant : (unit middle : Unit) (n : ℕ) → HearsAll (talk_of unit) n [] (talk_of middle) → IsVacant unit → IsVacant middle
none_vacant unit middle n all vacant = record {
  current = ap (λ (t : Talk). t.current) all ∙ vacant.current;
  taking = ap (λ (t : Talk). t.taking) all ∙ vacant.taking;
  pending = ap (λ (t : Talk). t.pending) all ∙ vacant.pending;
}

-- the words are these
pub hears_these : (unit middle : Unit) (n : ℕ) (words these : List Word) → words ≡ these → HearsAll (talk_of unit) n words (talk_of middle) → HearsAll (talk_of unit) n these (talk_of middle)
hears_these unit middle n words these same = subst (λ (list : List Word). HearsAll (talk_of unit) n list (talk_of middle)) same

-- a unit that is vacant serves nothing
vacant_serves : (at at' : Between) (lines lines' : List Grant) (words : List Word) (turn : Turns at at' lines lines' words) → IsVacant turn.middle
    → ServesNone turn.middle at'.unit turn.between.queue at'.server turn.added lines'
vacant_serves at at' lines lines' words turn vacant = serves_none turn.middle at'.unit turn.between.queue at'.server turn.added lines' vacant.pending turn.serves

pub away_behind : (at at' : Between) (lines lines' : List Grant) (words : List Word) → IsAway at words → Turns at at' lines lines' words → ClientStays at at' → IsAway at' []
away_behind at at' lines lines' words away turn stays = by away.heard
  where
    n : ℕ
    n = length (taken_now at.server)

    so : IsVacant turn.middle → IsAway at' []
    so vacant = away_so at at' words away stays
        (vacant_behind turn.middle at'.unit (vacant_serves at at' lines lines' words turn vacant).same vacant)

    by : HearsOfGone at words → IsAway at' []
    by (inl one) = so (gone_vacant at.unit turn.middle n (hears_these at.unit turn.middle n words (gone ∷ []) one turn.hears.heard))
    by (inr none) = so (none_vacant at.unit turn.middle n (hears_these at.unit turn.middle n words [] none.0 turn.hears.heard) none.1)

-- ---- the client begins

pub begins_up : (unit middle : Unit) (n : ℕ) → HearsAll (talk_of unit) n (begins ∷ []) (talk_of middle) → talk_of middle ≡ record (talk_of unit) { handshake = Up }
begins_up unit middle n (between, one, all) = all ∙ one

begun_so : (at at' : Between) (words : List Word) → IsBeginning at words → ClientStays at at' → IsVacant at'.unit → at'.unit.line.handshake ≡ Up
    → to_come at'.own ≡ initialization_complete ∷ [] → IsBeginning at' []
begun_so at at' words begun stays vacant up come = record {
  registered = stays.registered ∙ begun.registered;
  handshake = ap (λ (s : ClientState). s.handshake) stays.client ∙ begun.handshake;
  due = ap (λ (s : ClientState). s.due) stays.client ∙ begun.due;
  granted = ap (λ (s : ClientState). s.granted) stays.client ∙ begun.granted;
  outgoing = ap (λ (s : ClientState). s.outgoing) stays.client ∙ begun.outgoing;
  login = ap (λ (s : ClientState). s.login) stays.client ∙ begun.login;
  logout = ap (λ (s : ClientState). s.logout) stays.client ∙ begun.logout;
  kept = ap (λ (s : ClientState). s.kept) stays.client ∙ begun.kept;
  held = ap (λ (s : ClientState). s.held) stays.client ∙ begun.held;
  vacant = vacant;
  heard = inr (refl, up, come);
}

-- where nothing was served, the end put what is sent as the words are heard
puts_words : (at at' : Between) (lines lines' : List Grant) (words these : List Word) → words ≡ these → (turn : Turns at at' lines lines' words)
    → at'.server ≡ turn.between.queue → PutsReplies at.server at'.server (replies these)
puts_words at at' lines lines' words these is turn same =
    subst (λ (list : List Word). PutsReplies at.server at'.server (replies list)) is
    (subst (λ (end : EndState). PutsReplies at.server end (replies words)) (sym same) turn.hears.put)

pub begun_behind : (granted : ℕ) (at at' : Between) (lines lines' : List Grant) (words : List Word) → IsCalm granted at words → IsBeginning at words
    → Turns at at' lines lines' words → ClientStays at at' → IsBeginning at' []
begun_behind granted at at' lines lines' words calm begun turn stays = by begun.heard
  where
    n : ℕ
    n = length (taken_now at.server)

    come : (entries : List Entry) → PutsReplies at.server at'.server entries → to_come at'.own ≡ to_come at.own ++ entries
    come entries put = come_more at.own at'.own entries begun.registered calm.ends.own_took
        (gets_all at.server at'.server at.own at'.own entries calm.ends stays.ends stays.session stays.registered stays.taken stays.slots put)

    by : HearsOfClient at words → IsBeginning at' []
    by (inl one) =
        let is = begins_up at.unit turn.middle n (hears_these at.unit turn.middle n words (begins ∷ []) one.0 turn.hears.heard) in
        let vacant : IsVacant turn.middle = record {
          current = ap (λ (t : Talk). t.current) is ∙ begun.vacant.current;
          taking = ap (λ (t : Talk). t.taking) is ∙ begun.vacant.taking;
          pending = ap (λ (t : Talk). t.pending) is ∙ begun.vacant.pending;
        } in
        let served = vacant_serves at at' lines lines' words turn vacant in
        begun_so at at' words begun stays (vacant_behind turn.middle at'.unit served.same vacant)
        (ap (λ (u : Unit). u.line.handshake) served.same ∙ ap (λ (t : Talk). t.handshake) is)
        (come (initialization_complete ∷ []) (puts_words at at' lines lines' words (begins ∷ []) one.0 turn served.queue)
        ∙ ap (λ (list : List Entry). list ++ initialization_complete ∷ []) one.1)
    by (inr none) =
        let is = hears_these at.unit turn.middle n words [] none.0 turn.hears.heard in
        let vacant = none_vacant at.unit turn.middle n is begun.vacant in
        let served = vacant_serves at at' lines lines' words turn vacant in
        begun_so at at' words begun stays (vacant_behind turn.middle at'.unit served.same vacant)
        (ap (λ (u : Unit). u.line.handshake) served.same ∙ ap (λ (t : Talk). t.handshake) is ∙ none.1)
        (come [] (puts_words at at' lines lines' words [] none.0 turn served.queue) ∙ append-nil (to_come at.own) ∙ none.2)
