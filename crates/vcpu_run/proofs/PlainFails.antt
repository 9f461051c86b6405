-- A plain client whose partition fails: its queue is freed, of which its server unit is to hear; and what it takes behind that.
use Rattle.std.proofs.Common.{◌≡◌, ◌∙◌, inl, inr, ℕ, ◌≤◌, ◌==◌, ◌++◌, ◌&&◌, All, Bool, true, false, true≢false, List, [], ◌∷◌, Contains, length, length-set, eqb-true, refl, sym, ap, subst, arith}
use Rattle.std.proofs.lemmas.List.Elements.{All-cons, All-head, All-nil, All-tail, Contains-append_left}
use Rattle.vio_num.specs.Entry.{entry_format, first_byte, is_srp_entry, partner_failed}
use Rattle.vio_num.specs.declared.entry.Entry.{Entry}
use Rattle.crq_session.specs.Answered.{Frees}
use Rattle.crq_session.specs.EndState.{EndPlace, EndState, OnlyFrees, OnlyReserves, OnlyTakes}
use Rattle.srp_iu.specs.declared.unit.Iu.{Iu}
use Rattle.tce_window.specs.PortState.{OnlyReads, PortState}
use Rattle.block_server.specs.Talk.{Word, to_come}
use Rattle.block_server.specs.Talk.Word.{gone}
use Rattle.block_server.specs.declared.unit.Unit.{Unit}
use Rattle.vscsi_client.specs.Slots.{is_event}
use Rattle.vscsi_client.specs.State.{ClientState, next_tag}
use Rattle.vscsi_client.specs.Taking.{IsNext, TakesAs, TakesEntry}
use Rattle.vscsi_client.specs.Turned.{unlinked}
use Rattle.vscsi_client.specs.declared.answers.Taken.{Taken}
use Rattle.vscsi_client.specs.declared.answers.Taken.TheVariants.{Again, Answer, Empty, Lost, Other, Stray}
use Rattle.vscsi_client.specs.declared.outgoing.Outgoing.{Outgoing}
use Rattle.vcpu_run.specs.PlainNoted.{AreLaid}
use Rattle.vcpu_run.specs.PlainSteps.{WasFailed}
use Rattle.vcpu_run.specs.PlainTalk.{AreSaidThere, AreStale, Ask, Between, HasAnswer, HaveAnswers, HearsOfGone, InPhase, IsAway, IsCalm, IsOwnWindow, IsVacant, ServerStays, TalksPlainly, client_ports}
use Rattle.vcpu_run.proofs.LinesShown.{behind_first, contains_first}
use Rattle.vcpu_run.proofs.PlainAreLaid.{IsTakenLaid, laid_fewer, laid_read, laid_same, none_laid, takes_laid, talk_laid, without_fewer}
use Rattle.vcpu_run.proofs.PlainReady.{all_front}
use Rattle.vcpu_run.proofs.PlainReset.{freed_plainly}
use Rattle.vcpu_run.proofs.PlainSlots.{entry_srp}
use Rattle.vcpu_run.proofs.PlainStill.{calm_still, reads_leave}
use Rattle.vcpu_run.proofs.PlainTurns.{come_kept}

-- all of these are entries of SRP information units
abbrev AreSrp : List Entry → Type 0
AreSrp list = All (λ (entry : Entry). is_srp_entry entry ≡ true) list

-- ---- taking

left_true : (a b : Bool) → (a && b) ≡ true → a ≡ true
left_true true b is = refl
left_true false b is = absurd (true≢false (sym is))

no_event : (entry : Entry) → is_srp_entry entry ≡ true → is_event entry ≡ true → ⊥
no_event entry srp event =
    let one : first_byte entry ≡ 0x80 = eqb-true (first_byte entry) 0x80 (left_true (first_byte entry == 0x80) (entry_format entry == 0x01) srp) in
    let other : first_byte entry ≡ 0xFF = eqb-true (first_byte entry) 0xFF event in omega (arith, one, other)

-- What a client takes leaves this of it.
record Spares (s s' : ClientState) : Type 0 where
  handshake : s'.handshake ≡ s.handshake
  due : s'.due ≡ s.due
  tabled : s'.tabled ≡ s.tabled
  rows : length s'.rows ≡ length s.rows
  kept : AreSrp s'.kept
  fewer : (entry : Entry) → Contains s'.kept entry → Contains s.kept entry
  less : (o : Outgoing) → Contains s'.outgoing o → Contains s.outgoing o

-- the entry is one that was kept, since the queue is not registered
next_same : (list : List Entry) (old new : EndState) (entry : Entry) (rest : List Entry) → IsNext list false old entry rest new → old.registered ≡ false → entry ∷ rest ≡ list
next_same [] old new entry rest next off = absurd (true≢false (sym next.1.taken.registered ∙ (next.1.ready.registered ∙ off)))
next_same (first ∷ more) old new entry rest next off = ap (λ (e : Entry). e ∷ rest) next.0 ∙ ap (λ (list : List Entry). first ∷ list) next.1

-- it was judged, and these stand in its place
judged_same : (at at' : Between) (taken : Taken) → WasFailed at → (takes : TakesAs at.client at'.client (client_ports at) (client_ports at') taken)
    → takes.judged.entry ∷ takes.judged.rest ≡ at.client.kept
judged_same at at' taken failed takes =
    sym takes.judged.first ∙ ap (λ (s : ClientState). s.kept) takes.fetched.client
    ∙ next_same at.client.kept at.own at'.own takes.fetched.entry takes.fetched.rest takes.fetched.next failed.registered

judged_srp : (at at' : Between) (taken : Taken) → WasFailed at → (takes : TakesAs at.client at'.client (client_ports at) (client_ports at') taken)
    → AreSrp (takes.judged.entry ∷ takes.judged.rest)
judged_srp at at' taken failed takes = subst AreSrp (sym (judged_same at at' taken failed takes)) failed.kept

-- what is behind it was kept
rest_fewer : (at at' : Between) (taken : Taken) → WasFailed at → (takes : TakesAs at.client at'.client (client_ports at) (client_ports at') taken) (kept : List Entry)
    → kept ≡ takes.judged.rest → (entry : Entry) → Contains kept entry → Contains at.client.kept entry
rest_fewer at at' taken failed takes kept is entry has =
    subst (λ (list : List Entry). Contains list entry) (judged_same at at' taken failed takes)
    (behind_first takes.judged.entry entry takes.judged.rest (subst (λ (list : List Entry). Contains list entry) is has))

same_less : (s s' : ClientState) → s'.outgoing ≡ s.outgoing → (o : Outgoing) → Contains s'.outgoing o → Contains s.outgoing o
same_less s s' same o = subst (λ (list : List Outgoing). Contains list o) same

taken_spares : (at at' : Between) (taken : Taken) → WasFailed at → TakesEntry at.client at'.client (client_ports at) (client_ports at') taken → Spares at.client at'.client
taken_spares at at' (Empty number) failed takes =
    subst (Spares at.client) (sym takes.fetched.client) (record { handshake = refl; due = refl; tabled = refl; rows = refl; kept = failed.kept; fewer = λ entry has. has; less = λ o has. has })
taken_spares at at' (Answer tag response) failed takes = record {
  handshake = ap (λ (s : ClientState). s.handshake) takes.judged.client ∙ ap (λ (s : ClientState). s.handshake) takes.fetched.client;
  due = ap (λ (s : ClientState). s.due) takes.judged.client ∙ ap (λ (s : ClientState). s.due) takes.fetched.client;
  tabled = ap (λ (s : ClientState). s.tabled) takes.judged.client ∙ ap (λ (s : ClientState). s.tabled) takes.fetched.client;
  rows = ap (λ (s : ClientState). length s.rows) takes.judged.client ∙ length-set takes.kept.rows _ _ ∙ ap (λ (s : ClientState). length s.rows) takes.fetched.client;
  kept = subst AreSrp (sym (ap (λ (s : ClientState). s.kept) takes.judged.client))
      (All-tail (λ (entry : Entry). is_srp_entry entry ≡ true) takes.judged.entry takes.judged.rest (judged_srp at at' (Answer tag response) failed takes));
  fewer = rest_fewer at at' (Answer tag response) failed takes at'.client.kept (ap (λ (s : ClientState). s.kept) takes.judged.client);
  less = λ o has. subst (λ (list : List Outgoing). Contains list o) (ap (λ (s : ClientState). s.outgoing) takes.fetched.client)
      (without_fewer tag takes.kept.outgoing o (subst (λ (list : List Outgoing). Contains list o) (ap (λ (s : ClientState). s.outgoing) takes.judged.client) has));
}
taken_spares at at' (Stray tag) failed takes = record {
  handshake = ap (λ (s : ClientState). s.handshake) takes.judged.client ∙ ap (λ (s : ClientState). s.handshake) takes.fetched.client;
  due = ap (λ (s : ClientState). s.due) takes.judged.client ∙ ap (λ (s : ClientState). s.due) takes.fetched.client;
  tabled = ap (λ (s : ClientState). s.tabled) takes.judged.client ∙ ap (λ (s : ClientState). s.tabled) takes.fetched.client;
  rows = ap (λ (s : ClientState). length s.rows) takes.judged.client ∙ ap (λ (s : ClientState). length s.rows) takes.fetched.client;
  kept = subst AreSrp (sym (ap (λ (s : ClientState). s.kept) takes.judged.client))
      (All-tail (λ (entry : Entry). is_srp_entry entry ≡ true) takes.judged.entry takes.judged.rest (judged_srp at at' (Stray tag) failed takes));
  fewer = rest_fewer at at' (Stray tag) failed takes at'.client.kept (ap (λ (s : ClientState). s.kept) takes.judged.client);
  less = same_less at.client at'.client (ap (λ (s : ClientState). s.outgoing) takes.judged.client ∙ ap (λ (s : ClientState). s.outgoing) takes.fetched.client);
}
taken_spares at at' (Again page word) failed takes = record {
  handshake = ap (λ (s : ClientState). s.handshake) takes.judged.client ∙ ap (λ (s : ClientState). s.handshake) takes.fetched.client;
  due = ap (λ (s : ClientState). s.due) takes.judged.client ∙ ap (λ (s : ClientState). s.due) takes.fetched.client;
  tabled = ap (λ (s : ClientState). s.tabled) takes.judged.client ∙ ap (λ (s : ClientState). s.tabled) takes.fetched.client;
  rows = ap (λ (s : ClientState). length s.rows) takes.judged.client ∙ ap (λ (s : ClientState). length s.rows) takes.fetched.client;
  kept = subst AreSrp (sym (ap (λ (s : ClientState). s.kept) takes.judged.client)) (judged_srp at at' (Again page word) failed takes);
  fewer = λ entry. subst (λ (list : List Entry). Contains list entry) (ap (λ (s : ClientState). s.kept) takes.judged.client ∙ judged_same at at' (Again page word) failed takes);
  less = same_less at.client at'.client (ap (λ (s : ClientState). s.outgoing) takes.judged.client ∙ ap (λ (s : ClientState). s.outgoing) takes.fetched.client);
}
taken_spares at at' Lost failed takes =
    absurd (no_event takes.judged.entry (All-head (λ (entry : Entry). is_srp_entry entry ≡ true) takes.judged.entry takes.judged.rest (judged_srp at at' Lost failed takes)) takes.judged.judged.0)
taken_spares at at' Other failed takes =
    absurd (true≢false (sym (All-head (λ (entry : Entry). is_srp_entry entry ≡ true) takes.judged.entry takes.judged.rest (judged_srp at at' Other failed takes)) ∙ takes.judged.judged.1))

-- the client is away
is_away : (granted : ℕ) (at : Between) (words : List Word) → at.own.registered ≡ false → InPhase granted at words → IsAway at words
is_away granted at words off (inl away) = away
is_away granted at words off (inr (inl begun)) = absurd (true≢false (sym begun.registered ∙ off))
is_away granted at words off (inr (inr (asked, answers, talk))) = absurd (true≢false (sym talk.registered ∙ off))

still_gone : (at at' : Between) (words : List Word) → at'.unit ≡ at.unit → HearsOfGone at words → HearsOfGone at' words
still_gone at at' words same (inl one) = inl one
still_gone at at' words same (inr none) = inr (none.0, subst IsVacant (sym same) none.1)

-- what it takes was laid
failed_laid : (at at' : Between) (taken : Taken) → WasFailed at → TakesEntry at.client at'.client (client_ports at) (client_ports at') taken → OnlyReads false at.window at'.window
    → IsTakenLaid taken at'.window
failed_laid at at' (Answer tag response) failed takes reads =
    takes_laid at at' (Answer tag response) at.client.kept failed.laid takes
    (subst (λ (list : List Entry). Contains list takes.fetched.entry)
    (next_same at.client.kept at.own at'.own takes.fetched.entry takes.fetched.rest takes.fetched.next failed.registered)
    (contains_first takes.fetched.entry takes.fetched.rest)) reads
failed_laid at at' (Stray tag) failed takes reads = tt
failed_laid at at' Lost failed takes reads = tt
failed_laid at at' Other failed takes reads = tt
failed_laid at at' (Again page word) failed takes reads = tt
failed_laid at at' (Empty number) failed takes reads = tt

pub takes_failed : (granted : ℕ) (at at' : Between) (taken : Taken) → TalksPlainly granted at [] → WasFailed at → ServerStays at at'
    → TakesEntry at.client at'.client (client_ports at) (client_ports at') taken → OnlyTakes false at.own at'.own → OnlyReads false at.window at'.window
    → TalksPlainly granted at' [] × WasFailed at' × (next_tag at'.client ≡ next_tag at.client) × IsTakenLaid taken at'.window
takes_failed granted at at' taken talks failed stays takes only reads = (
  record {
    calm = calm_still granted at at' talks.calm stays only.sent (ap (λ (p : EndPlace). p.own_slots) only.place) (reads_leave at.window at'.window talks.calm.usable reads).own;
    phase = inl (record {
      registered = only.registered ∙ failed.registered;
      handshake = spares.handshake ∙ away.handshake;
      kept = only.kept ∙ away.kept;
      due = spares.due ∙ away.due;
      stale = subst (λ (u : Unit). AreStale u.pending.items) (sym stays.unit) away.stale;
      heard = still_gone at at' [] stays.unit away.heard;
    });
    tabled = spares.tabled ∙ talks.tabled;
  },
  record {
    laid = laid_read at.client at'.client at.window at'.window at.client.kept at'.client.kept reads spares.fewer spares.less failed.laid;
    registered = only.registered ∙ failed.registered;
    kept = spares.kept;
  },
  omega (arith, spares.rows),
  failed_laid at at' taken failed takes reads,
)
  where
    spares : Spares at.client at'.client
    spares = taken_spares at at' taken failed takes

    away : IsAway at []
    away = is_away granted at [] failed.registered talks.phase

-- ---- its queue is freed

-- what it kept are answers
answers_srp : (window : PortState) (entries : List Entry) (asked : List Ask) (answers : List Iu) → HaveAnswers window entries asked answers → AreSrp entries
answers_srp window [] asked answers have = All-nil (λ (entry : Entry). is_srp_entry entry ≡ true)
answers_srp window (entry ∷ entries) [] answers have = absurd have
answers_srp window (entry ∷ entries) (ask ∷ asked) [] have = absurd have
answers_srp window (entry ∷ entries) (ask ∷ asked) (answer ∷ answers) have =
    All-cons (λ (entry : Entry). is_srp_entry entry ≡ true) entry entries (srp have.0) (answers_srp window entries asked answers have.1)
  where
    srp : HasAnswer window entry ask answer → is_srp_entry entry ≡ true
    srp has = ap is_srp_entry has.entry_is ∙ entry_srp has.long ask.tag has.few

kept_srp : (granted : ℕ) (at : Between) (words : List Word) → at.own.registered ≡ true → InPhase granted at words → AreSrp at.client.kept
kept_srp granted at words there (inl away) = absurd (true≢false (sym there ∙ away.registered))
kept_srp granted at words there (inr (inl begun)) = subst AreSrp (sym begun.kept) (All-nil (λ (entry : Entry). is_srp_entry entry ≡ true))
kept_srp granted at words there (inr (inr (asked, answers, talk))) =
    all_front (λ (entry : Entry). is_srp_entry entry ≡ true) at.client.kept (to_come at.own) (answers_srp at.window (at.client.kept ++ to_come at.own) asked.answered answers talk.answered)

-- and was laid
kept_laid : (granted : ℕ) (at : Between) (words : List Word) → at.own.registered ≡ true → IsOwnWindow at.window → InPhase granted at words → AreLaid at.client at.window at.client.kept
kept_laid granted at words there own (inl away) = absurd (true≢false (sym there ∙ away.registered))
kept_laid granted at words there own (inr (inl begun)) = none_laid at.client at.window begun.kept
kept_laid granted at words there own (inr (inr (asked, answers, talk))) =
    laid_fewer at.client at.client at.window at.window (at.client.kept ++ to_come at.own) at.client.kept (λ entry. Contains-append_left at.client.kept (to_come at.own) entry) (λ o has. has) refl refl
    (λ p. refl) (talk_laid granted at words asked answers own talk)

pub fails_free : (granted : ℕ) (at at' : Between) (room : EndState) → TalksPlainly granted at [] → OnlyReserves at.own room → Frees false room partner_failed at'.own
    → OnlyFrees false room at'.own → at'.client ≡ unlinked at.client → at'.window ≡ at.window → ServerStays at at' → TalksPlainly granted at' (gone ∷ []) × WasFailed at'
fails_free granted at at' room talks ready frees rest client window stays = (
  freed_plainly granted at at' room partner_failed refl talks ready frees rest client window stays,
  record {
    laid = laid_same at.client at'.client at.window at'.window (ap (λ (s : ClientState). s.kept) client) (ap (λ (s : ClientState). s.outgoing) client)
        (ap (λ (w : PortState). w.place.unit) window) (ap (λ (w : PortState). w.place.size) window) (λ p. ap (λ (w : PortState). w.strokes p) window)
        (kept_laid granted at [] (sym ready.registered ∙ frees.registered) talks.calm.usable talks.phase);
    registered = frees.freed;
    kept = subst AreSrp (sym (ap (λ (s : ClientState). s.kept) client)) (kept_srp granted at [] (sym ready.registered ∙ frees.registered) talks.phase);
  },
)

-- ---- it is not registered any more

calm_same : (granted : ℕ) (at at' : Between) (words : List Word) → IsCalm granted at words → ServerStays at at' → at'.own.sent ≡ at.own.sent
    → at'.own.place.own_slots ≡ at.own.place.own_slots → at'.window ≡ at.window → IsCalm granted at' words
calm_same granted at at' words calm stays sent slots window = record {
  registered = stays.registered ∙ calm.registered;
  closing = ap (λ (u : Unit). u.line.closing) stays.unit ∙ calm.closing;
  up = λ e. calm.up (sym (ap (λ (u : Unit). u.line.handshake) stays.unit) ∙ e);
  waiting = ap (λ (u : Unit). u.waiting) stays.unit ∙ calm.waiting;
  kept = ap (λ (u : Unit). u.line.kept) stays.unit ∙ calm.kept;
  event = stays.kept ∙ calm.event;
  stage = ap (λ (u : Unit). u.service.stage) stays.unit ∙ calm.stage;
  grants = ap (λ (u : Unit). u.logins.granted) stays.unit ∙ calm.grants;
  most = calm.most;
  ends = stays.ends;
  server_slots = subst (λ n. 256 ≤ n) (sym stays.slots) calm.server_slots;
  own_slots = subst (λ n. 256 ≤ n) (sym slots) calm.own_slots;
  usable = subst IsOwnWindow (sym window) calm.usable;
  said = subst (λ (entries : List Entry). AreSaidThere at'.window entries words)
      (sym (come_kept at.server at'.server (stays.ends.own_sees.received ∙ sent ∙ sym calm.ends.own_sees.received) stays.session stays.taken))
      (subst (λ (w : PortState). AreSaidThere w (to_come at.server) words) (sym window) calm.said);
}

pub fails_shut : (granted : ℕ) (at at' : Between) (words : List Word) (room : EndState) → TalksPlainly granted at words → OnlyReserves at.own room → OnlyReserves room at'.own
    → WasFailed at → at'.client ≡ at.client → at'.window ≡ at.window → ServerStays at at' → TalksPlainly granted at' words × WasFailed at'
fails_shut granted at at' words room talks ready refused failed client window stays = (
  record {
    calm = calm_same granted at at' words talks.calm stays (refused.sent ∙ ready.sent) (ap (λ (p : EndPlace). p.own_slots) (refused.place ∙ ready.place)) window;
    phase = inl (record {
      registered = refused.registered ∙ (ready.registered ∙ away.registered);
      handshake = ap (λ (s : ClientState). s.handshake) client ∙ away.handshake;
      kept = refused.kept ∙ (ready.kept ∙ away.kept);
      due = ap (λ (s : ClientState). s.due) client ∙ away.due;
      stale = subst (λ (u : Unit). AreStale u.pending.items) (sym stays.unit) away.stale;
      heard = still_gone at at' words stays.unit away.heard;
    });
    tabled = ap (λ (s : ClientState). s.tabled) client ∙ talks.tabled;
  },
  record {
    laid = laid_same at.client at'.client at.window at'.window (ap (λ (s : ClientState). s.kept) client) (ap (λ (s : ClientState). s.outgoing) client)
        (ap (λ (w : PortState). w.place.unit) window) (ap (λ (w : PortState). w.place.size) window) (λ p. ap (λ (w : PortState). w.strokes p) window) failed.laid;
    registered = refused.registered ∙ (ready.registered ∙ failed.registered);
    kept = subst AreSrp (sym (ap (λ (s : ClientState). s.kept) client)) failed.kept;
  },
)
  where
    away : IsAway at words
    away = is_away granted at words failed.registered talks.phase
