-- An own client's step at its pair, its server unit's session being over, or having been: the unit stands as the client left it, and through which
-- borrows the link is reached does not matter.
use Rattle.std.proofs.Common.{◌≡◌, ◌≢◌, ◌∙◌, ◌⊎◌, inl, inr, ℕ, ◌++◌, ◌&&◌, Bool, true, false, cond, List, [], Option, append-nil, drop, length, sym, ap, ap₂, IfSome, refl, subst}
use Rattle.vio_num.specs.declared.entry.Entry.{Entry}
use Rattle.vio_num.specs.declared.history.Grant.{Grant}
use Rattle.vio_num.specs.declared.history.Served.{Served}
use Rattle.vio_num.specs.declared.names.UnitId.{UnitId}
use Rattle.crq_ring.specs.Sessions.{of_session}
use Rattle.crq_ring.specs.declared.rows.PipeRow.{PipeRow}
use Rattle.crq_session.specs.EndState.{EndPlace, EndState}
use Rattle.crq_session.specs.declared.handshake.Handshake.{Handshake}
use Rattle.crq_session.specs.declared.handshake.Handshake.TheVariants.{Down, Up, Waiting}
use Rattle.tce_window.specs.PortState.{PortState}
use Rattle.block_server.specs.Doings.{Doing, doing_at, rows_to, IsAtRest}
use Rattle.block_server.specs.Granting.{login_state}
use Rattle.block_server.specs.Receipts.{is_ended}
use Rattle.block_server.specs.Talk.{session_rows, to_come}
use Rattle.block_server.specs.declared.unit.Unit.{Unit}
use Rattle.vscsi_client.specs.Ports.{Ports, ports}
use Rattle.vscsi_client.specs.State.{ClientState}
use Rattle.block_server.specs.Closings.{is_event}
use Rattle.vcpu_run.proofs.OwnActStill.{phase_still}
use Rattle.vcpu_run.proofs.OwnActLeft.{IsPhase}
use Rattle.vcpu_run.specs.OwnActs.{IsSeenAt, left_at}
use Rattle.vcpu_run.specs.OwnOver.{IsOver, stream_of}
use Rattle.vcpu_run.specs.PlainTalk.{AreEnds, Between, ServerStays, IsOwnWindow}
use Rattle.vcpu_run.proofs.OwnActLooks.{StaysTaken, come_still, took_still}
use Rattle.vcpu_run.proofs.PlainTurns.{come_more}

-- ---- the unit stands as the client left it

-- where it stands, of what it hears and sees of the client
abbrev doing_with : Unit → (name : UnitId) → (rows : List Served) → (lines : List Grant) → PortState → (coming : List Entry) → (sent : List PipeRow) → (event : Option Entry)
    → (reaches partner : Bool) → (to : ℕ) → Doing
doing_with unit name rows lines client coming sent event reaches partner to = record {
  name = name;
  id = unit.id;
  logins = login_state unit.logins;
  waiting = unit.waiting;
  kept = unit.line.kept;
  stage = unit.service.stage;
  answer = unit.service.answer.items;
  pending = unit.pending.items;
  coming = coming;
  sent = sent;
  client = client;
  rows = rows;
  lines = lines;
  ended = is_ended unit.line;
  handshake = unit.line.handshake;
  event = event;
  reaches = reaches;
  partner = partner;
  to = to;
  taking = unit.logins.taking;
  outstanding = unit.logins.target.outstanding;
}

with_same : (unit : Unit) (name : UnitId) (rows : List Served) (lines : List Grant) (client : PortState) (coming coming' : List Entry) (sent sent' : List PipeRow) (event event' : Option Entry)
    (reaches reaches' partner partner' : Bool) (to to' : ℕ) → coming ≡ coming' → sent ≡ sent' → event ≡ event' → reaches ≡ reaches' → partner ≡ partner' → to ≡ to'
    → doing_with unit name rows lines client coming sent event reaches partner to ≡ doing_with unit name rows lines client coming' sent' event' reaches' partner' to'
with_same unit name rows lines client coming coming' sent sent' event event' reaches reaches' partner partner' to to' a b c e f g =
    ap₂ (λ (x : List Entry) (y : List PipeRow). doing_with unit name rows lines client x y event reaches partner to) a b
    ∙ ap₂ (λ (x : Option Entry) (y : Bool). doing_with unit name rows lines client coming' sent' x y partner to) c e
    ∙ ap₂ (λ (x : Bool) (y : ℕ). doing_with unit name rows lines client coming' sent' event' reaches' x y) f g

-- what is to come to it
come_left : (at at' : Between) (entries : List Entry) → ServerStays at at' → AreEnds at.server at.own → at'.own.sent ≡ at.own.sent ++ rows_to at.own.counts.partner_session entries
    → (entries ≡ []) ⊎ (at.own.place.partner_registered ≡ true) → to_come at'.server ≡ to_come at.server ++ entries
come_left at at' entries stays ends put reached = by reached
  where
    received : at'.server.place.received ≡ at.server.place.received ++ rows_to at.server.last_session entries
    received = stays.ends.own_sees.received ∙ put
        ∙ ap₂ (λ (rows : List PipeRow) (q : ℕ). rows ++ rows_to q entries) (sym ends.own_sees.received) ends.own_sees.session

    by : (entries ≡ []) ⊎ (at.own.place.partner_registered ≡ true) → to_come at'.server ≡ to_come at.server ++ entries
    by (inl none) =
        let same : at'.server.place.received ≡ at.server.place.received =
        received ∙ ap (λ (list : List Entry). at.server.place.received ++ rows_to at.server.last_session list) none ∙ append-nil at.server.place.received in
        ap₂ (λ (n : ℕ) (list : List Entry). drop n list)
        (ap₂ (λ (q : ℕ) (rows : List PipeRow). length (of_session q rows)) stays.session stays.taken)
        (ap₂ (λ (q : ℕ) (rows : List PipeRow). of_session q rows) stays.session same)
        ∙ sym (append-nil (to_come at.server)) ∙ ap (λ (list : List Entry). to_come at.server ++ list) (sym none)
    by (inr there) =
        let on : at.server.registered ≡ true = sym ends.own_sees.partner ∙ there in
        come_more at.server at'.server entries on ends.server_took (record {
          session = stays.session;
          registered = stays.registered;
          taken = stays.taken;
          slots = stays.slots;
          more = received ∙ ap (λ b. at.server.place.received ++ cond b (session_rows at.server.last_session entries) []) (sym on);
        })

pub left_is : (name : UnitId) (rows : List Served) (lines : List Grant) (at at' : Between) (entries : List Entry) → ServerStays at at' → AreEnds at.server at.own → at'.own.place ≡ at.own.place
    → at'.own.sent ≡ at.own.sent ++ rows_to at.own.counts.partner_session entries → (entries ≡ []) ⊎ (at.own.place.partner_registered ≡ true)
    → doing_at at.unit name at'.server at'.window rows lines
    ≡ left_at (doing_at at.unit name at.server at.window rows lines) (ports false at'.own false at'.window) entries
left_is name rows lines at at' entries stays ends place put reached =
    with_same at.unit name rows lines at'.window (to_come at'.server) (to_come at.server ++ entries) at'.server.sent at.server.sent at'.server.kept at.server.kept
    (at'.server.registered && at'.server.place.partner_registered) (at'.own.place.partner_registered && at'.own.registered) at'.server.place.partner_registered at'.own.registered
    at'.server.counts.partner_session at'.own.last_session (come_left at at' entries stays ends put reached)
    (sym stays.ends.server_sees.received ∙ ap (λ (place : EndPlace). place.received) place ∙ ends.server_sees.received) stays.kept
    (ap₂ (λ (x y : Bool). x && y) (sym stays.ends.own_sees.partner) stays.ends.server_sees.partner) stays.ends.server_sees.partner stays.ends.server_sees.session

-- ---- another end of the same queue

-- the unit that the client left as it was
left_here : (d : Doing) (coming : List Entry) (client : PortState) (partner reaches : Bool) (to : ℕ) → coming ≡ d.coming → client ≡ d.client → partner ≡ d.partner → reaches ≡ d.reaches → to ≡ d.to
    → record d { coming = coming; client = client; partner = partner; reaches = reaches; to = to } ≡ d
left_here d coming client partner reaches to a b c e f =
    ap₂ (λ (x : List Entry) (y : PortState). record d { coming = x; client = y; partner = partner; reaches = reaches; to = to }) a b
    ∙ ap₂ (λ (x y : Bool). record d { partner = x; reaches = y; to = to }) c e
    ∙ ap (λ (x : ℕ). record d { to = x }) f

reaches_here : (granted : ℕ) (failed : Bool) (d : Doing) (s : ClientState) (at : Ports) → IsSeenAt d at → IsOver granted failed d s at.crq → (state : Handshake) → d.handshake ≡ state
    → (at.crq.place.partner_registered && at.crq.registered) ≡ d.reaches
reaches_here granted failed d s at seen over Down is = ap (λ b. b && at.crq.registered) (seen.down is) ∙ sym (over.shut is).0
reaches_here granted failed d s at seen over Waiting is =
    let up : d.handshake ≢ Down = λ down. absurd (cc (is, down)) in
    ap (λ b. b && at.crq.registered) (seen.on up) ∙ sym (over.reaches up)
reaches_here granted failed d s at seen over Up is =
    let up : d.handshake ≢ Down = λ down. absurd (cc (is, down)) in
    ap (λ b. b && at.crq.registered) (seen.on up) ∙ sym (over.reaches up)

-- Two ends, of which the same is so that a client and its unit go by.
pub record SameQueue (old new : EndState) : Type 0 where
  pub taken : StaysTaken old new
  pub received : new.place.received ≡ old.place.received
  pub partner : new.place.partner_registered ≡ old.place.partner_registered
  pub kept : new.kept ≡ old.kept

pub seen_end : (d : Doing) (old new : Ports) → IsSeenAt d old → SameQueue old.crq new.crq → new.own ≡ old.own → new.crq_shared ≡ false → new.own_shared ≡ false → IsSeenAt d new
seen_end d old new seen same window alone apart = record {
  alone = alone;
  apart = apart;
  window = seen.window ∙ sym window;
  received = same.received ∙ seen.received;
  on = λ up. same.partner ∙ seen.on up;
  down = λ is. same.partner ∙ seen.down is;
  usable = subst IsOwnWindow (sym window) seen.usable;
  idle = λ on. same.kept ∙ seen.idle (sym same.taken.registered ∙ on);
  events = subst (λ (kept : Option Entry). IfSome kept (λ event. is_event event ≡ true)) (sym same.kept) seen.events;
}

pub over_end : (granted : ℕ) (failed : Bool) (d : Doing) (s : ClientState) (old new : Ports) → IsSeenAt d old → IsOver granted failed d s old.crq → SameQueue old.crq new.crq → new.own ≡ old.own
    → IsOver granted failed d s new.crq
over_end granted failed d s old new seen over same window = record {
  answered = over.answered;
  lost = over.lost;
  answers = over.answers;
  rest = over.rest;
  come = λ on. over.come (sym same.taken.registered ∙ on) ∙ come_still d.sent old.crq new.crq same.taken;
  owed = over.owed;
  grants = over.grants;
  most = over.most;
  partner = over.partner ∙ sym same.taken.registered;
  to = over.to ∙ sym same.taken.session;
  reaches = λ up. over.reaches up ∙ sym same.taken.registered;
  shut = over.shut;
  away = λ off. over.away (sym same.taken.registered ∙ off);
  there = λ on. over.there (sym same.taken.registered ∙ on);
  took = took_still d.sent old.crq new.crq same.taken over.took;
  usable = over.usable;
  tabled = over.tabled;
  on = λ on. over.on (sym same.taken.registered ∙ on);
  phase = subst (λ (at : Doing). IsPhase granted failed at s new.crq (stream_of s over.rest) over.answered over.lost) here
      (phase_still granted failed d s old.crq new (stream_of s over.rest) over.answered over.lost there same.taken.registered over.phase);
}
  where
    there : new.own ≡ d.client
    there = window ∙ sym seen.window

    here : left_at d new [] ≡ d
    here =
        left_here d (d.coming ++ []) new.own new.crq.registered (new.crq.place.partner_registered && new.crq.registered) new.crq.last_session (append-nil d.coming) there
        (same.taken.registered ∙ sym over.partner)
        (ap₂ (λ (x y : Bool). x && y) same.partner same.taken.registered ∙ reaches_here granted failed d s old seen over d.handshake refl) (same.taken.session ∙ sym over.to)

-- the answers are the same
pub end_answers : (granted : ℕ) (failed : Bool) (d : Doing) (s : ClientState) (old new : Ports) (seen : IsSeenAt d old) (over : IsOver granted failed d s old.crq) (same : SameQueue old.crq new.crq)
    (window : new.own ≡ old.own) → (over_end granted failed d s old new seen over same window).answers ≡ over.answers
unfolding over_end
end_answers granted failed d s old new seen over same window = refl

-- ---- the unit is at rest as it was

pub rest_left : (d : Doing) (at : Ports) (entries : List Entry) → IsAtRest d → IsAtRest (left_at d at entries)
rest_left d at entries (inl free) = inl (record { waiting = free.waiting; stage = free.stage; kept = free.kept })
rest_left d at entries (inr awaits) = inr (record {
  waiting = awaits.waiting;
  outcome = awaits.outcome;
  stage = awaits.stage;
  request = awaits.request;
  rest = awaits.rest;
  pending = awaits.pending;
  kept = awaits.kept;
  going = awaits.going;
})
