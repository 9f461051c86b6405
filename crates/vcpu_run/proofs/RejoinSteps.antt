-- Small steps of a client's login beside a server unit whose session is over, or was: what one leaves at a queue that is registered.
use Rattle.std.proofs.Common.{◌≡◌, ◌≢◌, ◌∙◌, ◌⊎◌, inl, inr, ℕ, ◌≤◌, ◌++◌, ◌&&◌, Bool, true, false, IfSome, List, [], Option, None, append-nil, append_assoc, drop, length, refl, sym, ap, ap₂, subst}
use Rattle.std.proofs.lemmas.List.{map-append}
use Rattle.vio_num.specs.declared.entry.Entry.{Entry}
use Rattle.crq_ring.specs.Sessions.{of_session}
use Rattle.crq_ring.specs.declared.rows.PipeRow.{PipeRow}
use Rattle.crq_session.specs.Answered.{taken_now}
use Rattle.crq_session.specs.EndState.{EndPlace, EndState, OnlyTakes}
use Rattle.crq_session.specs.declared.handshake.Handshake.{Handshake}
use Rattle.crq_session.specs.declared.handshake.Handshake.TheVariants.{Down, Up, Waiting}
use Rattle.srp_iu.specs.declared.unit.Iu.{Iu}
use Rattle.tce_window.specs.PortState.{PortState}
use Rattle.block_server.specs.Closings.{is_event}
use Rattle.block_server.specs.Doings.{Doing, rows_to}
use Rattle.block_server.specs.Talk.{to_come}
use Rattle.vscsi_client.specs.Ports.{Ports}
use Rattle.vscsi_client.specs.State.{ClientState}
use Rattle.vscsi_client.specs.Turned.{SameHands, Site}
use Rattle.vcpu_run.specs.OwnActs.{IsSeenAt, RestsAt, left_at}
use Rattle.vcpu_run.specs.OwnOver.{IsOver, IsOwed, coming_to, stream_of}
use Rattle.vcpu_run.specs.PlainTalk.{Ask, IsOwnWindow, TookNoMore, grants_one}
use Rattle.vcpu_run.proofs.RejoinPhases.{PhaseOver, off_on}
use Rattle.vcpu_run.proofs.OwnStreams.{AreSrp}

-- ---- where a client stands whose queue is registered

-- The session of the unit is over, or was; what the client keeps are answers, and it awaits a logout only where no login is on. An answer that
-- grants a login is one that was promised.
pub record StandsIn (promised : Bool) (granted : ℕ) (d : Doing) (a : Site) : Type 0 where
  pub seen : IsSeenAt d a.at
  pub over : IsOver granted false d a.client a.at.crq
  pub registered : a.at.crq.registered ≡ true
  pub kept : AreSrp a.client.kept
  pub logout : IfSome a.client.granted (λ _. a.client.logout ≡ None)
  pub fewer : grants_one over.answers ≡ true → promised ≡ true

-- So it does behind a step.
pub record StepsTo (promised : Bool) (granted : ℕ) (d : Doing) (a b : Site) : Type 0 where
  pub left : Doing
  pub rests : RestsAt d left a.at b.at
  pub stands : StandsIn promised granted left b

-- what is to come, as the client's end knows it
pub seen_come : (promised : Bool) (granted : ℕ) (d : Doing) (a : Site) → StandsIn promised granted d a → coming_to a.at.crq d.sent ≡ to_come a.at.crq
seen_come promised granted d a stands =
    ap (λ (rows : List PipeRow). drop (length (taken_now a.at.crq)) (of_session a.at.crq.last_session rows)) (sym stands.seen.received)

pub rest_come : (promised : Bool) (granted : ℕ) (d : Doing) (a : Site) → (stands : StandsIn promised granted d a) → stands.over.rest ≡ to_come a.at.crq
rest_come promised granted d a stands = stands.over.come stands.registered ∙ seen_come promised granted d a stands

pub took_most : (promised : Bool) (granted : ℕ) (d : Doing) (a : Site) → StandsIn promised granted d a → TookNoMore a.at.crq
took_most promised granted d a stands =
    subst (λ (rows : List PipeRow). length (taken_now a.at.crq) ≤ length (of_session a.at.crq.last_session rows)) (sym stands.seen.received) stands.over.took

-- ---- one step behind the other

pub rests_behind : (d e f : Doing) (a b c : Ports) → RestsAt d e a b → RestsAt e f b c → RestsAt d f a c
rests_behind d e f a b c first next = record {
  entries = first.entries ++ next.entries;
  put = next.put ∙ ap₂ (λ (rows : List PipeRow) (q : ℕ). rows ++ rows_to q next.entries) first.put first.session
      ∙ append_assoc a.crq.sent (rows_to a.crq.counts.partner_session first.entries) (rows_to a.crq.counts.partner_session next.entries)
      ∙ ap (λ (rows : List PipeRow). a.crq.sent ++ rows) (sym (map-append (λ (entry : Entry). record { session = a.crq.counts.partner_session; entry = entry }) first.entries next.entries));
  reached = by first.reached next.reached;
  session = next.session ∙ first.session;
  place = next.place ∙ first.place;
  is = next.is ∙ ap (λ (at : Doing). left_at at c next.entries) first.is
      ∙ ap (λ (coming : List Entry). record (left_at d c []) { coming = coming }) (append_assoc d.coming first.entries next.entries);
}
  where
    by : (first.entries ≡ []) ⊎ (a.crq.place.partner_registered ≡ true) → (next.entries ≡ []) ⊎ (b.crq.place.partner_registered ≡ true)
        → (first.entries ++ next.entries ≡ []) ⊎ (a.crq.place.partner_registered ≡ true)
    by (inr there) also = inr there
    by (inl empty) (inl last) = inl (ap₂ (λ (xs ys : List Entry). xs ++ ys) empty last)
    by (inl empty) (inr there) = inr (sym (ap (λ (place : EndPlace). place.partner_registered) first.place) ∙ there)

pub steps_behind : (promised later : Bool) (granted : ℕ) (d : Doing) (a b c : Site) → (first : StepsTo promised granted d a b) → StepsTo later granted first.left b c → StepsTo later granted d a c
steps_behind promised later granted d a b c first next = record { left = next.left; rests = rests_behind d first.left next.left a.at b.at c.at first.rests next.rests; stands = next.stands }

-- ---- a step that puts nothing

-- An end is as it was but for what was taken, counts, and room.
pub record StillEnd (old new : EndState) : Type 0 where
  pub place : new.place ≡ old.place
  pub last_session : new.last_session ≡ old.last_session
  pub registered : new.registered ≡ old.registered
  pub kept : new.kept ≡ old.kept
  pub sent : new.sent ≡ old.sent
  pub session : new.counts.partner_session ≡ old.counts.partner_session

pub still_takes : (old new : EndState) → OnlyTakes false old new → StillEnd old new
still_takes old new only = record {
  place = only.place;
  last_session = only.last_session;
  registered = only.registered;
  kept = only.kept;
  sent = only.sent;
  session = only.counts.same_session refl;
}

-- whether an entry can reach the client's queue
reaches_now : (promised : Bool) (granted : ℕ) (d : Doing) (a : Site) → StandsIn promised granted d a → d.reaches ≡ (a.at.crq.place.partner_registered && a.at.crq.registered)
reaches_now promised granted d a stands = by d.handshake refl
  where
    up : d.handshake ≢ Down → d.reaches ≡ (a.at.crq.place.partner_registered && a.at.crq.registered)
    up isnt = stands.over.reaches isnt ∙ sym (ap (λ b. b && a.at.crq.registered) (stands.seen.on isnt))

    by : (handshake : Handshake) → d.handshake ≡ handshake → d.reaches ≡ (a.at.crq.place.partner_registered && a.at.crq.registered)
    by Down is = (stands.over.shut is).0 ∙ sym (ap (λ b. b && a.at.crq.registered) (stands.seen.down is))
    by Waiting is = up (λ down. cc (is, down))
    by Up is = up (λ down. cc (is, down))

-- what is left of the unit is as it was but for what was put and what the window shows
pub left_is : (promised : Bool) (granted : ℕ) (d : Doing) (a : Site) (at : Ports) (entries : List Entry) → StandsIn promised granted d a → at.crq.place ≡ a.at.crq.place → at.crq.registered ≡ a.at.crq.registered
    → at.crq.last_session ≡ a.at.crq.last_session → left_at d at entries ≡ record d { coming = d.coming ++ entries; client = at.own }
left_is promised granted d a at entries stands place registered session =
    ap (λ (partner : Bool). record (left_at d at entries) { partner = partner }) (registered ∙ sym stands.over.partner)
    ∙ ap (λ (reaches : Bool). record d { coming = d.coming ++ entries; client = at.own; reaches = reaches; to = at.crq.last_session })
    (ap₂ (λ (p r : Bool). p && r) (ap (λ (place : EndPlace). place.partner_registered) place) registered ∙ sym (reaches_now promised granted d a stands))
    ∙ ap (λ (to : ℕ). record d { coming = d.coming ++ entries; client = at.own; to = to }) (session ∙ sym stands.over.to)

-- What is so of a client behind a step, and between it and its unit, which stands still.
pub record NextIn (promised : Bool) (granted : ℕ) (d : Doing) (s : ClientState) (own : EndState) : Type 0 where
  pub answered : List Ask
  pub lost : List Ask
  pub answers : List Iu
  pub rest : List Entry
  pub come : rest ≡ to_come own
  pub owed : IsOwed granted d.id d.client s (stream_of s rest) answered lost answers
  pub there : s.handshake ≢ Down
  pub tabled : s.tabled ≡ None
  pub on : d.logins.current ≢ 0 → grants_one answers ≡ true
  pub phase : PhaseOver granted d s own (stream_of s rest) answered lost
  pub kept : AreSrp s.kept
  pub logout : IfSome s.granted (λ _. s.logout ≡ None)
  pub fewer : grants_one answers ≡ true → promised ≡ true

-- behind a step in which these were put, and the window left so
pub step_put : (promised later : Bool) (granted : ℕ) (d left : Doing) (a b : Site) (entries : List Entry) → StandsIn promised granted d a → SameHands a b → b.at.crq.place ≡ a.at.crq.place
    → b.at.crq.last_session ≡ a.at.crq.last_session → b.at.crq.registered ≡ a.at.crq.registered → b.at.crq.kept ≡ a.at.crq.kept
    → b.at.crq.counts.partner_session ≡ a.at.crq.counts.partner_session → b.at.crq.sent ≡ a.at.crq.sent ++ rows_to a.at.crq.counts.partner_session entries
    → (entries ≡ []) ⊎ (a.at.crq.place.partner_registered ≡ true) → TookNoMore b.at.crq → IsOwnWindow b.at.own → left ≡ record d { coming = d.coming ++ entries; client = b.at.own }
    → NextIn later granted left b.client b.at.crq → StepsTo later granted d a b
step_put promised later granted d left a b entries stands hands place session registered kept counts put reached most usable is next = record {
  left = left;
  rests = record { entries = entries; put = put; reached = reached; session = counts; place = place; is = is ∙ sym (left_is promised granted d a b.at entries stands place registered session) };
  stands = record {
    seen = record {
      alone = hands.crq ∙ stands.seen.alone;
      apart = hands.own ∙ stands.seen.apart;
      window = client;
      received = received;
      on = λ up. ap (λ (place : EndPlace). place.partner_registered) place ∙ stands.seen.on (λ down. up (handshake ∙ down));
      down = λ down. ap (λ (place : EndPlace). place.partner_registered) place ∙ stands.seen.down (sym handshake ∙ down);
      usable = usable;
      idle = λ there. kept ∙ stands.seen.idle (sym registered ∙ there);
      events = subst (λ (o : Option Entry). IfSome o (λ event. is_event event ≡ true)) (sym kept) stands.seen.events;
    };
    over = record {
      answered = next.answered;
      lost = next.lost;
      answers = next.answers;
      rest = next.rest;
      come = λ there. next.come ∙ ap (λ (rows : List PipeRow). drop (length (taken_now b.at.crq)) (of_session b.at.crq.last_session rows)) received;
      owed = next.owed;
      grants = ap (λ (e : Doing). e.logins.granted) is ∙ stands.over.grants;
      most = stands.over.most;
      partner = ap (λ (e : Doing). e.partner) is ∙ stands.over.partner ∙ sym registered;
      to = ap (λ (e : Doing). e.to) is ∙ stands.over.to ∙ sym session;
      reaches = λ up. ap (λ (e : Doing). e.reaches) is ∙ stands.over.reaches (λ down. up (handshake ∙ down)) ∙ sym registered;
      shut = λ down. let was = stands.over.shut (sym handshake ∙ down) in (ap (λ (e : Doing). e.reaches) is ∙ was.0, ap (λ (e : Doing). e.ended) is ∙ was.1);
      away = λ off. absurd (off_on b.at.crq there off);
      there = λ there. next.there;
      took = subst (λ (rows : List PipeRow). length (taken_now b.at.crq) ≤ length (of_session b.at.crq.last_session rows)) received most;
      usable = subst IsOwnWindow (sym client) usable;
      tabled = next.tabled;
      on = λ there. next.on;
      phase = next.phase;
    };
    registered = there;
    kept = next.kept;
    logout = next.logout;
    fewer = next.fewer;
  };
}
  where
    there : b.at.crq.registered ≡ true
    there = registered ∙ stands.registered

    client : left.client ≡ b.at.own
    client = ap (λ (e : Doing). e.client) is

    handshake : left.handshake ≡ d.handshake
    handshake = ap (λ (e : Doing). e.handshake) is

    received : b.at.crq.place.received ≡ left.sent
    received = ap (λ (place : EndPlace). place.received) place ∙ stands.seen.received ∙ sym (ap (λ (e : Doing). e.sent) is)

-- behind one in which nothing was
pub step_still : (promised : Bool) (granted : ℕ) (d : Doing) (a b : Site) → StandsIn promised granted d a → SameHands a b → StillEnd a.at.crq b.at.crq → b.at.own ≡ a.at.own → TookNoMore b.at.crq
    → NextIn promised granted d b.client b.at.crq → StepsTo promised granted d a b
step_still promised granted d a b stands hands still window most next =
    step_put promised promised granted d d a b [] stands hands still.place still.last_session still.registered still.kept still.session
    (still.sent ∙ sym (append-nil a.at.crq.sent)) (inl refl) most (subst IsOwnWindow (sym window) stands.seen.usable)
    (ap₂ (λ (coming : List Entry) (client : PortState). record d { coming = coming; client = client }) (sym (append-nil d.coming)) (stands.seen.window ∙ sym window)) next
