-- A client beside a server unit whose session is over, or was, of which nothing more is to come, puts what is due first.
use Rattle.std.proofs.Common.{◌≡◌, ◌∙◌, ◌⊎◌, inl, inr, ℕ, ◌≤◌, ◌++◌, All, Bool, true, false, true≢false, cond, IfSome, List, [], ◌∷◌, Option, None, length, refl, sym, ap, ap₂, subst}
use Rattle.std.specs.List.{list_any}
use Rattle.std.proofs.lemmas.List.Elements.{All-head}
use Rattle.vio_num.specs.Entry.{srp_entry}
use Rattle.vio_num.specs.declared.entry.Entry.{Entry}
use Rattle.vio_num.specs.declared.names.UnitId.{UnitId}
use Rattle.crq_ring.specs.Sessions.{of_session}
use Rattle.crq_ring.specs.declared.rows.PipeRow.{PipeRow}
use Rattle.crq_session.specs.Answered.{received_now, taken_now}
use Rattle.crq_session.specs.EndState.{EndCounts, EndPlace, EndState}
use Rattle.crq_session.specs.declared.answers.SendAnswer.{SendAnswer}
use Rattle.crq_session.specs.declared.answers.SendAnswer.TheVariants as send
use Rattle.crq_session.specs.declared.handshake.Handshake.{Handshake}
use Rattle.crq_session.specs.declared.handshake.Handshake.TheVariants.{Down, Up, Waiting}
use Rattle.srp_iu.specs.declared.unit.Iu.{Iu}
use Rattle.tce_window.specs.PortState.{PortState}
use Rattle.block_server.specs.Doings.{Doing}
use Rattle.block_server.specs.Talk.{to_come}
use Rattle.vscsi_client.specs.Sending.{task_of}
use Rattle.vscsi_client.specs.State.{ClientState}
use Rattle.vscsi_client.specs.Turned.{IsEntryOf, Puts, SameHands, SentAs, Site, Steps, is_dropped, sent_by, sent_stage}
use Rattle.vscsi_client.specs.Turned.LoginStep.{Put}
use Rattle.vscsi_client.specs.Units.{slot_address}
use Rattle.vscsi_client.specs.declared.outgoing.Outgoing.{Outgoing}
use Rattle.vscsi_client.specs.declared.stage.Due.{Due}
use Rattle.vscsi_client.specs.declared.stage.Due.TheVariants as dues
use Rattle.vscsi_client.specs.declared.stage.Stage.{Stage}
use Rattle.vscsi_client.specs.declared.stage.Stage.TheVariants.{Idle, Sent, Written}
use Rattle.vcpu_run.specs.OwnOver.{IsAnew, IsAware, IsFresh, IsLogging, IsOwed, IsUnanswered, Joins, LoginShows, held_in, is_login_due, is_under_way, stream_of, under_way}
use Rattle.vcpu_run.specs.PlainTalk.{Ask, IsAsk, IsOwnWindow, ShowsAt, TookNoMore, has_login, is_login, name_of}
use Rattle.vcpu_run.proofs.RejoinBegins.{PutsIn, PutsOn, kept_gone, kept_phase, stream_kept}
use Rattle.vcpu_run.proofs.RejoinPhases.{PhaseOver, phase_same}
use Rattle.vcpu_run.proofs.RejoinPuts.{closed_phase, login_long, no_logouts, one_asked, one_lost, owed_sent, put_shut, put_stale, rest_due, shake_phase, with_due, with_entry}
use Rattle.vcpu_run.proofs.RejoinSteps.{NextIn, StandsIn, StepsTo, step_put, step_still, took_most}
use Rattle.vcpu_run.proofs.OwnStreams.{AreSrp}
use Rattle.vcpu_run.proofs.PlainTurns.{come_same}

-- ---- a login is asked for

-- The login is all that the client asked.
record IsOne (answered lost : List Ask) (tag slot : ℕ) : Type 0 where
  ask : Ask
  answered_none : answered ≡ []
  lost_one : lost ≡ ask ∷ []
  is_login : is_login ask.iu ≡ true
  named : name_of ask ≡ task_of tag slot

is_one : (granted : ℕ) (d : Doing) (s : ClientState) (stream : List Entry) (answered lost : List Ask) (answers : List Iu) (tag slot : ℕ) → IsOwed granted d.id d.client s stream answered lost answers
    → IsAware s → s.login ≡ Written tag slot → IsOne answered lost tag slot
is_one granted d s stream answered lost answers tag slot owed aware login = record {
  ask = one.0;
  answered_none = both.0;
  lost_one = both.1;
  is_login = asks;
  named = one.2;
}
  where
    one : (ask : Ask) × (answered ++ lost ≡ ask ∷ []) × (name_of ask ≡ task_of tag slot)
    one = one_asked (answered ++ lost) (task_of tag slot) (no_logouts s (answered ++ lost) aware.logout owed.logouts)
        (owed.awaited ∙ ap₂ (λ (outgoing : List Outgoing) (stage : Stage). outgoing ++ under_way stage) aware.outgoing login)

    asks : is_login one.0.iu ≡ true
    asks = by (is_login one.0.iu) (sym (ap has_login one.1) ∙ owed.sent ∙ ap is_under_way login)
      where
        by : (b : Bool) → cond b true false ≡ true → b ≡ true
        by true e = refl
        by false e = absurd (true≢false (sym e))

    both : (answered ≡ []) × (lost ≡ one.0 ∷ [])
    both = one_lost answered lost one.0 one.1 (subst (λ (stage : Stage). IsUnanswered stage answered) login owed.unanswered) asks

-- its entry is to come
login_joins : (granted : ℕ) (d : Doing) (s : ClientState) (own : EndState) (stream : List Entry) (others : List Due) (answered lost : List Ask) (answers : List Iu) (tag slot : ℕ) (entry : Entry)
    → own.registered ≡ true → IsOwed granted d.id d.client s stream answered lost answers → IsAware s → s.login ≡ Written tag slot → s.due ≡ dues.Login ∷ others
    → entry ≡ srp_entry 64 (slot_address slot) → IsAnew d s own stream → Joins granted (with_entry entry d) (with_due dues.Login others s) own stream answered lost
login_joins granted d s own stream others answered lost answers tag slot entry there owed aware login due entry_is anew = record {
  ask = one.ask;
  has = record {
    login = ap (sent_stage dues.Login) login ∙ ap (λ (name : Outgoing). Sent name.tag name.slot) (sym one.named);
    asked = one.is_login;
    due = λ on. logs.last [] others due;
    up = λ on. logs.up;
    complete = λ on. logs.complete;
  };
  where_is = inl (
    (one.answered_none, one.lost_one),
    inl (record {
      idle = record { current = anew.idle.current; pending = anew.idle.pending; stage = anew.idle.stage };
      kept = anew.kept;
      entry = logs.entry;
      front = d.coming;
      back = [];
      queue = ap (λ (e : Entry). d.coming ++ e ∷ [])
          (entry_is ∙ ap₂ (λ (n a : ℕ). srp_entry n (slot_address a)) (sym (login_long one.ask.bytes one.ask.iu one.is_login is_ask.canonical)) (sym (ap (λ (name : Outgoing). name.slot) one.named)));
      shakes = anew.queue;
      behind = inl refl;
      shows = shows;
    }),
  );
}
  where
    one : IsOne answered lost tag slot
    one = is_one granted d s stream answered lost answers tag slot owed aware login

    logs : IsLogging d s stream
    logs = anew.logging there (inl (ap (list_any is_login_due) due))

    is_ask : IsAsk one.ask
    is_ask = All-head IsAsk one.ask [] (subst (All IsAsk) (ap₂ (λ (xs ys : List Ask). xs ++ ys) one.answered_none one.lost_one) owed.each)

    shows : ShowsAt d.client (slot_address one.ask.slot) one.ask.bytes
    shows =
        subst (λ (n : ℕ). ShowsAt d.client (slot_address n) one.ask.bytes) (sym (ap (λ (name : Outgoing). name.slot) one.named))
        (All-head (LoginShows d.client (Written tag slot)) one.ask []
        (subst (λ (list : List Ask). All (LoginShows d.client (Written tag slot)) list) one.lost_one (subst (λ (stage : Stage). All (LoginShows d.client stage) lost) login owed.written))
        (ap (λ (name : Outgoing). name.slot) one.named))

login_phase : (granted : ℕ) (d : Doing) (s : ClientState) (own : EndState) (others : List Due) (answered lost : List Ask) (answers : List Iu) (entry : Entry) → own.registered ≡ true → AreSrp s.kept
    → IsOwed granted d.id d.client s (s.kept ++ []) answered lost answers → s.due ≡ dues.Login ∷ others → IsEntryOf dues.Login s.login entry
    → PhaseOver granted d s own (s.kept ++ []) answered lost → PhaseOver granted (with_entry entry d) (with_due dues.Login others s) own (s.kept ++ []) answered lost
login_phase granted d s own others answered lost answers entry there are owed due is (inl shut) =
    inl (put_shut d (with_entry entry d) s (with_due dues.Login others s) own entry refl there are (λ fresh. absurd (true≢false (sym (ap (list_any is_login_due) due) ∙ fresh.due))) shut)
login_phase granted d s own others answered lost answers entry there are owed due is (inr (inl stale)) = inr (inl (put_stale d entry stale))
login_phase granted d s own others answered lost answers entry there are owed due is (inr (inr (inl un))) = absurd (kept_gone s.kept are un.gone)
login_phase granted d s own others answered lost answers entry there are owed due is (inr (inr (inr joins))) = inr (inr (inr (record {
  going = joins.going;
  event = joins.event;
  open_is = joins.open_is;
  none_gone = joins.none_gone;
  aware = λ on. let aware = joins.aware on in record { granted = aware.granted; outgoing = aware.outgoing; logout = aware.logout; kept = aware.kept };
  there = inl there;
  how = inr (by joins.how);
})))
  where
    no_due : s.due ≡ [] → ⊥
    no_due none = cc (none, due)

    at : IsAnew d s own (s.kept ++ []) → (stage : Stage) → s.login ≡ stage → IsEntryOf dues.Login stage entry
        → Joins granted (with_entry entry d) (with_due dues.Login others s) own (s.kept ++ []) answered lost
    at anew Idle login is = absurd is
    at anew (Sent tag slot) login is = absurd (anew.unsent there tag slot login)
    at anew (Written tag slot) login is = login_joins granted d s own (s.kept ++ []) others answered lost answers tag slot entry there owed (joins.aware there) login due is anew

    by : IsAnew d s own (s.kept ++ []) ⊎ Joins granted d s own (s.kept ++ []) answered lost
        → Joins granted (with_entry entry d) (with_due dues.Login others s) own (s.kept ++ []) answered lost
    by (inl anew) = at anew s.login refl is
    by (inr asked) = absurd (no_due (asked.has.due there))

-- ---- whatever was due

sent_phase : (granted : ℕ) (d : Doing) (s : ClientState) (own : EndState) (due : Due) (others : List Due) (answered lost : List Ask) (answers : List Iu) (entry : Entry) → own.registered ≡ true
    → AreSrp s.kept → IsOwed granted d.id d.client s (s.kept ++ []) answered lost answers → s.due ≡ due ∷ others → IsEntryOf due s.login entry
    → PhaseOver granted d s own (s.kept ++ []) answered lost → PhaseOver granted (with_entry entry d) (with_due due others s) own (s.kept ++ []) answered lost
sent_phase granted d s own dues.Initialize others answered lost answers entry there are owed due is phase =
    shake_phase granted d s own entry dues.Initialize others answered lost there are due (inl is) (inl is) phase
sent_phase granted d s own dues.Complete others answered lost answers entry there are owed due is phase =
    shake_phase granted d s own entry dues.Complete others answered lost there are due (inr is) (inr (λ same. cc (same))) phase
sent_phase granted d s own dues.Login others answered lost answers entry there are owed due is phase =
    login_phase granted d s own others answered lost answers entry there are owed due is phase

-- a client that is fresh stays so without what was due first
fresh_due : (s : ClientState) (due : Due) (others : List Due) (stream : List Entry) → s.due ≡ due ∷ others → IsFresh s stream → IsFresh (with_due due others s) stream
fresh_due s due others stream is fresh = record {
  aware = record { granted = fresh.aware.granted; outgoing = fresh.aware.outgoing; logout = fresh.aware.logout; kept = fresh.aware.kept };
  login = ap (sent_stage due) fresh.login ∙ still due;
  handshake = fresh.handshake;
  none = fresh.none;
  due = rest_due due others s.due is fresh.due;
}
  where
    still : (due : Due) → sent_stage due Idle ≡ Idle
    still dues.Initialize = refl
    still dues.Complete = refl
    still dues.Login = refl

-- ---- the step

-- what the end is behind it
sends_most : (promised : Bool) (granted : ℕ) (d : Doing) (a b : Site) → StandsIn promised granted d a → b.at.crq.place ≡ a.at.crq.place → b.at.crq.last_session ≡ a.at.crq.last_session → b.at.crq.taken ≡ a.at.crq.taken
    → TookNoMore b.at.crq
sends_most promised granted d a b stands place session taken =
    subst (λ (n : ℕ). n ≤ length (received_now b.at.crq)) (sym (ap length (ap₂ (λ q (rows : List PipeRow). of_session q rows) session taken)))
    (subst (λ (list : List Entry). length (taken_now a.at.crq) ≤ length list)
    (sym (ap₂ (λ q (rows : List PipeRow). of_session q rows) session (ap (λ (p : EndPlace). p.received) place))) (took_most promised granted d a stands))

pub over_puts : (promised : Bool) (granted line : ℕ) (due : Due) (answer : SendAnswer) (d : Doing) (a b : Site) → PutsIn promised granted d a → Steps line (Put due answer) a b → SameHands a b → PutsOn promised granted d a b
over_puts promised granted line due answer d a b ins put hands = record {
  steps = by answer puts.sent puts.client;
  none = come_same a.at.crq b.at.crq place session taken ∙ ins.none;
  held = ap (λ (s : ClientState). s.held) puts.client ∙ still answer ∙ ins.held;
}
  where
    puts : Puts false a.client b.client a.at.crq b.at.crq due answer
    puts = subst (λ shared. Puts shared a.client b.client a.at.crq b.at.crq due answer) ins.stands.seen.alone put.0

    place : b.at.crq.place ≡ a.at.crq.place
    place = puts.rest.place ∙ puts.ready.place

    session : b.at.crq.last_session ≡ a.at.crq.last_session
    session = puts.rest.last_session ∙ puts.ready.last_session

    taken : b.at.crq.taken ≡ a.at.crq.taken
    taken = puts.rest.taken ∙ puts.ready.taken

    registered : b.at.crq.registered ≡ a.at.crq.registered
    registered = puts.rest.registered ∙ puts.ready.registered

    counts : b.at.crq.counts.partner_session ≡ a.at.crq.counts.partner_session
    counts = puts.rest.counts.same_session refl ∙ ap (λ (c : EndCounts). c.partner_session) puts.ready.counts

    there : b.at.crq.registered ≡ true
    there = registered ∙ ins.stands.registered

    still : (answer : SendAnswer) → (sent_by due puts.others answer a.client).held ≡ a.client.held
    still answer = at (is_dropped answer)
      where
        at : (b' : Bool) → (cond b' a.client (record a.client { due = puts.others; login = sent_stage due a.client.login })).held ≡ a.client.held
        at true = refl
        at false = refl

    owed : IsOwed granted d.id d.client a.client (a.client.kept ++ []) ins.stands.over.answered ins.stands.over.lost ins.stands.over.answers
    owed = subst (λ (list : List Entry). IsOwed granted d.id d.client a.client list ins.stands.over.answered ins.stands.over.lost ins.stands.over.answers) (stream_kept promised granted d a ins)
        ins.stands.over.owed

    come : to_come b.at.crq ≡ []
    come = come_same a.at.crq b.at.crq place session taken ∙ ins.none

    -- the stream of a client that is as it was but for what is due and its login
    streams : (s : ClientState) → s.kept ≡ a.client.kept → s.held ≡ a.client.held → stream_of s [] ≡ a.client.kept ++ []
    streams s kept held = ap₂ (λ (list : List Entry) (one : Option Entry). list ++ (held_in one ++ [])) kept (held ∙ ins.held)

    next : (left : Doing) → left.id ≡ d.id → left.client ≡ d.client → left.logins.current ≡ d.logins.current → (s : ClientState) → s.handshake ≡ a.client.handshake → s.tabled ≡ a.client.tabled
        → s.kept ≡ a.client.kept → s.held ≡ a.client.held → s.granted ≡ a.client.granted → s.logout ≡ a.client.logout
        → IsOwed granted d.id d.client s (a.client.kept ++ []) ins.stands.over.answered ins.stands.over.lost ins.stands.over.answers
        → PhaseOver granted left s b.at.crq (a.client.kept ++ []) ins.stands.over.answered ins.stands.over.lost → NextIn promised granted left s b.at.crq
    next left id client current s handshake tabled kept held known logout owed phase = record {
      answered = ins.stands.over.answered;
      lost = ins.stands.over.lost;
      answers = ins.stands.over.answers;
      rest = [];
      come = sym come;
      owed = subst (λ (list : List Entry). IsOwed granted left.id left.client s list ins.stands.over.answered ins.stands.over.lost ins.stands.over.answers) (sym (streams s kept held))
          (subst (λ (who : UnitId). IsOwed granted who left.client s (a.client.kept ++ []) ins.stands.over.answered ins.stands.over.lost ins.stands.over.answers) (sym id)
          (subst (λ (window : PortState). IsOwed granted d.id window s (a.client.kept ++ []) ins.stands.over.answered ins.stands.over.lost ins.stands.over.answers) (sym client) owed));
      there = λ down. ins.stands.over.there ins.stands.registered (sym handshake ∙ down);
      tabled = tabled ∙ ins.stands.over.tabled;
      on = λ on. ins.stands.over.on ins.stands.registered (λ off. on (current ∙ off));
      phase = subst (λ (list : List Entry). PhaseOver granted left s b.at.crq list ins.stands.over.answered ins.stands.over.lost) (sym (streams s kept held)) phase;
      kept = subst AreSrp (sym kept) ins.stands.kept;
      logout = subst (λ (o : Option ℕ). IfSome o (λ _. s.logout ≡ None)) (sym known)
          (subst (λ (o : Option ℕ). IfSome a.client.granted (λ _. o ≡ None)) (sym logout) ins.stands.logout);
      fewer = ins.stands.fewer;
    }

    -- another state of the own queue
    phase_put : (left : Doing) (s : ClientState) → PhaseOver granted left s a.at.crq (a.client.kept ++ []) ins.stands.over.answered ins.stands.over.lost
        → PhaseOver granted left s b.at.crq (a.client.kept ++ []) ins.stands.over.answered ins.stands.over.lost
    phase_put left s phase = phase_same granted left s s a.at.crq b.at.crq (a.client.kept ++ []) ins.stands.over.answered ins.stands.over.lost ins.stands.registered there
        (record { handshake = refl; login = refl; due = refl; aware = λ aware. aware }) phase

    -- the unit's queue is closed
    down : (handshake : Handshake) → d.handshake ≡ handshake → puts.room.place.partner_registered ≡ false → d.handshake ≡ Down
    down Down is off = is
    down Waiting is off = absurd (true≢false (sym (ins.stands.seen.on (λ e. cc (e, is))) ∙ sym (ap (λ (p : EndPlace). p.partner_registered) puts.ready.place) ∙ off))
    down Up is off = absurd (true≢false (sym (ins.stands.seen.on (λ e. cc (e, is))) ∙ sym (ap (λ (p : EndPlace). p.partner_registered) puts.ready.place) ∙ off))

    unsent : b.at.crq.sent ≡ a.at.crq.sent → NextIn promised granted d b.client b.at.crq → StepsTo promised granted d a b
    unsent same next' = step_still promised granted d a b ins.stands hands
        (record { place = place; last_session = session; registered = registered; kept = puts.rest.kept ∙ puts.ready.kept; sent = same; session = counts }) put.1
        (sends_most promised granted d a b ins.stands place session taken) next'

    by : (answer : SendAnswer) → SentAs false puts.room puts.entry b.at.crq answer → b.client ≡ sent_by due puts.others answer a.client → StepsTo promised granted d a b
    by (send.Success number) sent client =
        step_put promised promised granted d (with_entry puts.entry d) a b (puts.entry ∷ []) ins.stands hands place session registered (puts.rest.kept ∙ puts.ready.kept) counts
        (sent.puts.sent ∙ ap₂ (λ (rows : List PipeRow) (q : ℕ). rows ++ record { session = q; entry = puts.entry } ∷ []) puts.ready.sent counts)
        (inr (sym (ap (λ (p : EndPlace). p.partner_registered) puts.ready.place) ∙ sent.puts.partner refl))
        (sends_most promised granted d a b ins.stands place session taken) (subst IsOwnWindow (sym put.1) ins.stands.seen.usable)
        (ap (λ (window : PortState). record d { coming = d.coming ++ puts.entry ∷ []; client = window }) (ins.stands.seen.window ∙ sym put.1))
        (subst (λ (s : ClientState). NextIn promised granted (with_entry puts.entry d) s b.at.crq) (sym client)
        (next (with_entry puts.entry d) refl refl refl (with_due due puts.others a.client) refl refl refl refl refl refl
        (owed_sent granted d.id d.client a.client due puts.others (a.client.kept ++ []) ins.stands.over.answered ins.stands.over.lost ins.stands.over.answers owed)
        (phase_put (with_entry puts.entry d) (with_due due puts.others a.client)
        (sent_phase granted d a.client a.at.crq due puts.others ins.stands.over.answered ins.stands.over.lost ins.stands.over.answers puts.entry ins.stands.registered ins.stands.kept owed puts.first
        puts.is_entry (kept_phase promised granted d a ins)))))
    by (send.Closed control) sent client =
        unsent (sent.none.sent ∙ puts.ready.sent) (subst (λ (s : ClientState). NextIn promised granted d s b.at.crq) (sym client)
        (next d refl refl refl (with_due due puts.others a.client) refl refl refl refl refl refl
        (owed_sent granted d.id d.client a.client due puts.others (a.client.kept ++ []) ins.stands.over.answered ins.stands.over.lost ins.stands.over.answers owed)
        (phase_put d (with_due due puts.others a.client)
        (closed_phase granted d a.client (with_due due puts.others a.client) a.at.crq ins.stands.over.answered ins.stands.over.lost (down d.handshake refl (sent.closed.meets.partner refl)) ins.stands.registered ins.stands.kept
        (λ fresh. fresh_due a.client due puts.others (a.client.kept ++ []) puts.first fresh) (kept_phase promised granted d a ins)))))
    by (send.Dropped number held) sent client =
        unsent (sent.sent ∙ puts.ready.sent) (subst (λ (s : ClientState). NextIn promised granted d s b.at.crq) (sym client)
        (next d refl refl refl a.client refl refl refl refl refl refl owed (phase_put d a.client (kept_phase promised granted d a ins))))
    by send.NotRegistered sent client = absurd (true≢false (sym (puts.ready.registered ∙ ins.stands.registered) ∙ sent.0))
    by send.Parameter sent client = absurd sent
