-- A client beside a server unit whose session is over, or was, looks at an entry that tells something: of the initialisation, or that its unit is gone.
use Rattle.std.proofs.Common.{◌≡◌, ◌≢◌, ◌∙◌, ◌⊎◌, inl, inr, ℕ, ◌≤◌, ◌++◌, All, Bool, true, false, true≢false, cond, eqb-true, filter, List, [], ◌∷◌, Some, None, arith, length, refl, sym, ap, ap₂, subst}
use Rattle.std.specs.List.{list_any}
use Rattle.std.proofs.lemmas.List.Elements.{All-head, All-nil, All-tail}
use Rattle.vio_num.specs.Entry.{entry_format, first_byte, initialize, is_srp_entry, kind_of}
use Rattle.vio_num.specs.declared.entry.Entry.{Entry}
use Rattle.vio_num.specs.declared.entry.Kind.{Kind}
use Rattle.vio_num.specs.declared.entry.Kind.TheVariants.{Event}
use Rattle.vio_num.specs.declared.names.UnitId.{UnitId}
use Rattle.crq_session.specs.EndState.{EndState}
use Rattle.crq_session.specs.Handshake.{state_after, state_by}
use Rattle.crq_session.specs.declared.handshake.Handshake.{Handshake}
use Rattle.crq_session.specs.declared.handshake.Handshake.TheVariants.{Down, Up, Waiting}
use Rattle.tce_window.specs.PortState.{PortState}
use Rattle.block_server.specs.Closings.{is_event}
use Rattle.block_server.specs.Doings.{Doing}
use Rattle.block_server.specs.Talk.{to_come}
use Rattle.block_server.specs.declared.line.Kept.TheVariants as keeps
use Rattle.vscsi_client.specs.State.{ClientState}
use Rattle.vscsi_client.specs.Taking.{is_step, lost_by, shaken_by}
use Rattle.vscsi_client.specs.Turned.{Looks, SameHands, Site, Steps}
use Rattle.vscsi_client.specs.Turned.LoginStep.{Looked}
use Rattle.vscsi_client.specs.declared.found.Found.TheVariants as founds
use Rattle.vscsi_client.specs.declared.outgoing.Outgoing.{Outgoing}
use Rattle.vscsi_client.specs.declared.stage.Due.{Due}
use Rattle.vscsi_client.specs.declared.stage.Due.TheVariants as dues
use Rattle.vscsi_client.specs.declared.stage.Stage.{Stage}
use Rattle.vscsi_client.specs.declared.stage.Stage.TheVariants.{Idle}
use Rattle.vcpu_run.specs.OwnOver.{HasEntry, IsAware, IsFresh, IsNews, IsOwed, IsShake, IsUnanswered, IsUnheard, EndsEarly, LoginShows, NoneBehindGone, Stirs, WillHear, answers_among, behind_gone, is_login_due, is_under_way, news_among, stream_of, tells_gone, under_way}
use Rattle.vcpu_run.specs.PlainTalk.{Ask, HaveAnswers, IsAnswerBy, IsAsk, TookNoMore, is_logout}
use Rattle.vcpu_run.proofs.RejoinPhases.{PhaseOver, off_on}
use Rattle.vcpu_run.proofs.RejoinShakes.{IsHeld, owed_stream, phase_shakes, shake_up, some_stream, stream_held}
use Rattle.vcpu_run.proofs.RejoinSteps.{NextIn, StandsIn, StepsTo, StillEnd, step_still, took_most}
use Rattle.vcpu_run.proofs.OwnStreams.{AreSrp, answers_kept, answers_other, behind_kept, behind_last, behind_more, event_no_srp, gone_kept, news_has, news_kept, news_other, news_shake, none_behind, none_kept}
use Rattle.vcpu_run.proofs.RejoinTaken.{owed_same}

-- ---- an end that stays

end_still : (old new : EndState) → new ≡ old → StillEnd old new
end_still old new same = subst (StillEnd old) (sym same) (record { place = refl; last_session = refl; registered = refl; kept = refl; sent = refl; session = refl })

-- a step that leaves the ends and the window
pub looks_still : (promised : Bool) (granted : ℕ) (d : Doing) (a b : Site) → StandsIn promised granted d a → SameHands a b → b.at.crq ≡ a.at.crq → b.at.own ≡ a.at.own → NextIn promised granted d b.client a.at.crq
    → StepsTo promised granted d a b
looks_still promised granted d a b stands hands end window next =
    step_still promised granted d a b stands hands (end_still a.at.crq b.at.crq end) window (subst TookNoMore (sym end) (took_most promised granted d a stands))
    (subst (NextIn promised granted d b.client) (sym end) next)

-- what the client holds tells something
pub held_news : (promised : Bool) (granted : ℕ) (d : Doing) (a : Site) (entry : Entry) → (stands : StandsIn promised granted d a) → a.client.held ≡ Some entry → is_srp_entry entry ≡ false
    → All IsNews (entry ∷ news_among (to_come a.at.crq))
held_news promised granted d a entry stands held none =
    subst (All IsNews) (ap news_among (stream_held promised granted d a entry stands held) ∙ news_kept a.client.kept (entry ∷ to_come a.at.crq) stands.kept ∙ news_other entry (to_come a.at.crq) none)
    stands.over.owed.news

pub held_behind : (promised : Bool) (granted : ℕ) (d : Doing) (a : Site) (entry : Entry) → (stands : StandsIn promised granted d a) → a.client.held ≡ Some entry → NoneBehindGone (entry ∷ to_come a.at.crq)
held_behind promised granted d a entry stands held =
    none_kept a.client.kept (entry ∷ to_come a.at.crq) stands.kept (subst NoneBehindGone (stream_held promised granted d a entry stands held) stands.over.owed.behind)

pub held_phase : (promised : Bool) (granted : ℕ) (d : Doing) (a : Site) (entry : Entry) → (stands : StandsIn promised granted d a) → a.client.held ≡ Some entry
    → PhaseOver granted d a.client a.at.crq (a.client.kept ++ entry ∷ to_come a.at.crq) stands.over.answered stands.over.lost
held_phase promised granted d a entry stands held =
    subst (λ (list : List Entry). PhaseOver granted d a.client a.at.crq list stands.over.answered stands.over.lost) (stream_held promised granted d a entry stands held) stands.over.phase

-- ---- nothing was asked

pub owed_none : (granted : ℕ) (id : UnitId) (window : PortState) (s : ClientState) (stream : List Entry) → IsAware s → s.login ≡ Idle → answers_among stream ≡ [] → All IsNews (news_among stream)
    → NoneBehindGone stream → IsOwed granted id window s stream [] [] []
owed_none granted id window s stream aware login told news behind = record {
  each = All-nil IsAsk;
  slots = tt;
  tags = tt;
  order = tt;
  told = subst (λ (list : List Entry). HaveAnswers window list [] []) (sym told) tt;
  news = news;
  behind = behind;
  awaited = sym (ap₂ (λ (outgoing : List Outgoing) (stage : Stage). outgoing ++ under_way stage) aware.outgoing login);
  logouts = All-nil (λ (ask : Ask). is_logout ask.iu ≡ true → s.logout ≡ Some ask.slot);
  sent = sym (ap is_under_way login);
  written = All-nil (LoginShows window s.login);
  unanswered = subst (λ (stage : Stage). IsUnanswered stage []) (sym login) tt;
  none = λ none. aware.outgoing;
  within = subst (λ (outgoing : List Outgoing). length outgoing ≤ 200) (sym aware.outgoing) (omega arith);
  credits = inl aware.granted;
  grant = All-nil (IsAnswerBy granted id window);
}

-- ---- of the initialisation

-- What an entry that was looked at leaves.
pub record LookedIn (promised : Bool) (granted : ℕ) (d : Doing) (a b : Site) : Type 0 where
  pub steps : StepsTo promised granted d a b
  pub end : b.at.crq ≡ a.at.crq
  pub none_held : b.client.held ≡ None

pub over_shakes : (promised : Bool) (granted line : ℕ) (d : Doing) (a b : Site) → StandsIn promised granted d a → Steps line (Looked founds.Step) a b → SameHands a b → LookedIn promised granted d a b
over_shakes promised granted line d a b stands looked hands = record {
  steps = looks_still promised granted d a b stands hands looked.1 looks.finds.2 (subst (λ (s : ClientState). NextIn promised granted d s a.at.crq) (sym looks.client) next);
  end = looked.1;
  none_held = ap (λ (s : ClientState). s.held) looks.client;
}
  where
    looks : Looks false a.client b.client a.at.own b.at.own founds.Step
    looks = subst (λ shared. Looks shared a.client b.client a.at.own b.at.own founds.Step) stands.seen.apart looked.0

    up : a.client.handshake ≢ Down
    up = stands.over.there stands.registered

    is : IsHeld a.client.kept looks.entry (to_come a.at.crq)
    is = record {
      are = stands.kept;
      shake = news_shake looks.entry (All-head IsNews looks.entry (news_among (to_come a.at.crq)) (held_news promised granted d a looks.entry stands looks.held looks.finds.1)) looks.finds.0;
      no_event = looks.finds.0;
      no_srp = looks.finds.1;
    }

    same : answers_among (stream_of a.client stands.over.rest) ≡ answers_among (a.client.kept ++ to_come a.at.crq)
    same = ap answers_among (stream_held promised granted d a looks.entry stands looks.held)
        ∙ answers_kept a.client.kept (looks.entry ∷ to_come a.at.crq) stands.kept
        ∙ ap (λ (list : List Entry). a.client.kept ++ list) (answers_other looks.entry (to_come a.at.crq) looks.finds.1)
        ∙ sym (answers_kept a.client.kept (to_come a.at.crq) stands.kept)

    next : NextIn promised granted d (record (shaken_by looks.entry a.client) { held = None }) a.at.crq
    next = record {
      answered = stands.over.answered;
      lost = stands.over.lost;
      answers = stands.over.answers;
      rest = to_come a.at.crq;
      come = refl;
      owed = owed_same granted d.id d.client a.client (record (shaken_by looks.entry a.client) { held = None }) (a.client.kept ++ to_come a.at.crq) stands.over.answered stands.over.lost
          stands.over.answers (record { rows = refl; outgoing = refl; login = refl; logout = refl; granted = refl })
          (owed_stream granted d.id d.client a.client (stream_of a.client stands.over.rest) (a.client.kept ++ to_come a.at.crq) stands.over.answered stands.over.lost stands.over.answers
          stands.over.owed
          (subst (λ (list : List Entry). HaveAnswers d.client list stands.over.answered stands.over.answers) same stands.over.owed.told)
          (subst (All IsNews) (sym (news_kept a.client.kept (to_come a.at.crq) stands.kept))
          (All-tail IsNews looks.entry (news_among (to_come a.at.crq)) (held_news promised granted d a looks.entry stands looks.held looks.finds.1)))
          (none_behind a.client.kept (to_come a.at.crq) stands.kept (held_behind promised granted d a looks.entry stands looks.held).1));
      there = λ down. up_down (sym (shake_up a.client.handshake looks.entry up is.shake) ∙ down);
      tabled = stands.over.tabled;
      on = λ current. stands.over.on stands.registered current;
      phase = phase_shakes granted d a.client a.at.crq looks.entry (to_come a.at.crq) stands.over.answered stands.over.lost stands.registered up is
          (held_phase promised granted d a looks.entry stands looks.held);
      kept = stands.kept;
      logout = stands.logout;
      fewer = stands.fewer;
    }
      where
        up_down : Up ≡ Down → ⊥
        up_down e = cc (e)

-- ---- that the unit is gone

event_waits : (handshake : Handshake) (entry : Entry) → handshake ≢ Down → is_event entry ≡ true → state_after handshake entry ≡ Waiting
event_waits handshake entry up is = ap (λ (kind : Kind). state_by handshake kind (entry_format entry)) (ap kind_of (eqb-true (first_byte entry) 0xFF is)) ∙ by handshake up
  where
    by : (handshake : Handshake) → handshake ≢ Down → state_by handshake Event (entry_format entry) ≡ Waiting
    by Down up = absurd (up refl)
    by Waiting up = refl
    by Up up = refl

pub steps_none : (due : List Due) → list_any is_login_due (filter is_step due) ≡ false
steps_none [] = refl
steps_none (dues.Initialize ∷ due) = steps_none due
steps_none (dues.Complete ∷ due) = steps_none due
steps_none (dues.Login ∷ due) = steps_none due

-- a client that heard that forgets all
lost_aware : (s : ClientState) (entry : Entry) → IsAware (lost_by entry s)
lost_aware s entry = record { granted = refl; outgoing = refl; logout = refl; kept = refl }

lost_fresh : (s : ClientState) (entry : Entry) (rest : List Entry) → s.handshake ≢ Down → is_event entry ≡ true → rest ≡ [] → IsFresh (lost_by entry s) rest
lost_fresh s entry rest up event none = record {
  aware = lost_aware s entry;
  login = refl;
  handshake = event_waits s.handshake entry up event;
  none = none;
  due = steps_none s.due;
}

-- Where both stand then: no login is on.
record LostPhase (granted : ℕ) (d : Doing) (s : ClientState) (own : EndState) (rest : List Entry) : Type 0 where
  current : d.logins.current ≡ 0
  phase : PhaseOver granted d s own rest [] []

lost_told : (d : Doing) (s : ClientState) (own : EndState) (kept : List Entry) (entry : Entry) (rest : List Entry) → AreSrp kept → s.handshake ≢ Down → is_event entry ≡ true
    → behind_gone (kept ++ entry ∷ rest) ≡ [] → WillHear d (lost_by entry s) own rest
lost_told d s own kept entry rest are up event behind = by (tells_gone rest) refl
  where
    told : tells_gone (entry ∷ rest) ≡ true
    told = ap (λ b. cond b true (tells_gone rest)) event

    none : behind_gone (entry ∷ rest) ≡ []
    none = sym (behind_kept kept (entry ∷ rest) are told) ∙ behind

    by : (b : Bool) → tells_gone rest ≡ b → WillHear d (lost_by entry s) own rest
    by true gone = inr (inl (gone, sym (behind_more entry rest gone) ∙ none))
    by false last = inr (inr (inr (lost_fresh s entry rest up event (sym (behind_last entry rest last event) ∙ none))))

lost_unheard : (granted : ℕ) (d : Doing) (s : ClientState) (own : EndState) (kept : List Entry) (entry : Entry) (rest : List Entry) → AreSrp kept → s.handshake ≢ Down
    → is_event entry ≡ true → IsUnheard d own (kept ++ entry ∷ rest) → PhaseOver granted d (lost_by entry s) own rest [] []
lost_unheard granted d s own kept entry rest are up event un = by (tells_gone rest) refl
  where
    told : tells_gone (entry ∷ rest) ≡ true
    told = ap (λ b. cond b true (tells_gone rest)) event

    same : behind_gone (kept ++ entry ∷ rest) ≡ behind_gone (entry ∷ rest)
    same = behind_kept kept (entry ∷ rest) are told

    begins : (list : List Entry) → behind_gone (kept ++ entry ∷ rest) ≡ list
        → (HasEntry initialize (behind_gone (kept ++ entry ∷ rest)) × (d.kept ≡ None)) ⊎ ((behind_gone (kept ++ entry ∷ rest) ≡ []) × (d.kept ≡ Some (keeps.Reply initialize)))
        → (HasEntry initialize list × (d.kept ≡ None)) ⊎ ((list ≡ []) × (d.kept ≡ Some (keeps.Reply initialize)))
    begins list is (inl (has, none)) = inl (subst (HasEntry initialize) is has, none)
    begins list is (inr (none, kept')) = inr (sym is ∙ none, kept')

    anew : behind_gone (kept ++ entry ∷ rest) ≡ rest → tells_gone rest ≡ false → d.coming ≡ [] → PhaseOver granted d (lost_by entry s) own rest [] []
    anew is last none = inr (inr (inr (record {
      going = un.new.going;
      event = un.new.event;
      open_is = λ down. waits_down (sym un.new.waiting ∙ down);
      none_gone = λ on. last;
      aware = λ on. lost_aware s entry;
      there = inl un.registered;
      how = inl (record {
        idle = un.new.idle;
        kept = un.new.kept;
        queue = subst (All (λ (e : Entry). IsShake e ⊎ (is_event e ≡ true))) (sym none) (All-nil (λ (e : Entry). IsShake e ⊎ (is_event e ≡ true)));
        unsent = λ on tag slot sent. cc (sent);
        first = λ on kept'. (event_waits s.handshake entry up event, nothing kept' (begins rest is un.begins));
        stirs = λ on waits. stirs (begins rest is un.begins);
        logging = λ on logs. absurd (no_login logs);
      });
    })))
      where
        waits_down : Waiting ≡ Down → ⊥
        waits_down e = cc (e)

        nothing : d.kept ≡ Some (keeps.Reply initialize) → (HasEntry initialize rest × (d.kept ≡ None)) ⊎ ((rest ≡ []) × (d.kept ≡ Some (keeps.Reply initialize))) → rest ≡ []
        nothing kept' (inl (has, none)) = absurd (cc (none, kept'))
        nothing kept' (inr (none, again)) = none

        stirs : (HasEntry initialize rest × (d.kept ≡ None)) ⊎ ((rest ≡ []) × (d.kept ≡ Some (keeps.Reply initialize))) → Stirs d (lost_by entry s) rest
        stirs (inl (has, none)) = inl (news_has initialize rest refl has)
        stirs (inr (none, kept')) = inr (inl (λ off. cc (kept', off)))

        no_login : (list_any is_login_due (filter is_step s.due) ≡ true) ⊎ (is_under_way Idle ≡ true) → ⊥
        no_login (inl due) = true≢false (sym due ∙ steps_none s.due)
        no_login (inr login) = true≢false (sym login)

    by : (b : Bool) → tells_gone rest ≡ b → PhaseOver granted d (lost_by entry s) own rest [] []
    by true gone = inr (inr (inl (record {
      new = un.new;
      registered = un.registered;
      gone = gone;
      queue = un.queue;
      begins = begins (behind_gone rest) (same ∙ behind_more entry rest gone) un.begins;
    })))
    by false last = at un.queue
      where
        at : (d.coming ≡ []) ⊎ EndsEarly d → PhaseOver granted d (lost_by entry s) own rest [] []
        at (inl none) = anew (same ∙ behind_last entry rest last event) last none
        at (inr early) = inr (inl (record { new = un.new; early = early }))

lost_phase : (granted : ℕ) (d : Doing) (s : ClientState) (own : EndState) (entry : Entry) (rest : List Entry) (answered lost : List Ask) → own.registered ≡ true → AreSrp s.kept
    → s.handshake ≢ Down → is_event entry ≡ true → PhaseOver granted d s own (s.kept ++ entry ∷ rest) answered lost → LostPhase granted d (lost_by entry s) own rest
lost_phase granted d s own entry rest answered lost there are up event (inl shut) = record {
  current = shut.idle.current;
  phase = inl (record { over = shut.over; idle = shut.idle; kept = shut.kept; event = shut.event; told = by shut.told });
}
  where
    by : (d.handshake ≢ Down) ⊎ WillHear d s own (s.kept ++ entry ∷ rest) → (d.handshake ≢ Down) ⊎ WillHear d (lost_by entry s) own rest
    by (inl open') = inl open'
    by (inr (inl off)) = absurd (off_on own there off)
    by (inr (inr (inl (gone, behind)))) = inr (lost_told d s own s.kept entry rest are up event behind)
    by (inr (inr (inr (inl told)))) = inr (inr (inr (inl told)))
    by (inr (inr (inr (inr fresh)))) = absurd (some_stream s.kept entry rest fresh.none)
lost_phase granted d s own entry rest answered lost there are up event (inr (inl stale)) = record { current = stale.new.idle.current; phase = inr (inl stale) }
lost_phase granted d s own entry rest answered lost there are up event (inr (inr (inl un))) =
    record { current = un.new.idle.current; phase = lost_unheard granted d s own s.kept entry rest are up event un }
lost_phase granted d s own entry rest answered lost there are up event (inr (inr (inr joins))) =
    absurd (true≢false (sym (gone_kept s.kept (entry ∷ rest) are ∙ ap (λ b. cond b true (tells_gone rest)) event) ∙ joins.none_gone there))

-- What a client leaves that hears so: it knows of no login, and none is under way.
pub record LostIn (promised : Bool) (granted : ℕ) (d : Doing) (a b : Site) : Type 0 where
  pub steps : StepsTo promised granted d a b
  pub aware : IsAware b.client
  pub login : b.client.login ≡ Idle
  pub none_held : b.client.held ≡ None

pub over_lost : (promised : Bool) (granted line : ℕ) (d : Doing) (a b : Site) → StandsIn promised granted d a → Steps line (Looked founds.Lost) a b → SameHands a b → LostIn promised granted d a b
over_lost promised granted line d a b stands looked hands = record {
  steps = looks_still promised granted d a b stands hands looked.1 looks.finds.1 (subst (λ (s : ClientState). NextIn promised granted d s a.at.crq) (sym looks.client) next);
  aware = subst IsAware (sym looks.client) (lost_aware a.client looks.entry);
  login = ap (λ (s : ClientState). s.login) looks.client;
  none_held = ap (λ (s : ClientState). s.held) looks.client;
}
  where
    looks : Looks false a.client b.client a.at.own b.at.own founds.Lost
    looks = subst (λ shared. Looks shared a.client b.client a.at.own b.at.own founds.Lost) stands.seen.apart looked.0

    up : a.client.handshake ≢ Down
    up = stands.over.there stands.registered

    behind : NoneBehindGone (looks.entry ∷ to_come a.at.crq)
    behind = held_behind promised granted d a looks.entry stands looks.held

    phase : LostPhase granted d (lost_by looks.entry a.client) a.at.crq (to_come a.at.crq)
    phase = lost_phase granted d a.client a.at.crq looks.entry (to_come a.at.crq) stands.over.answered stands.over.lost stands.registered stands.kept up looks.finds.0
        (held_phase promised granted d a looks.entry stands looks.held)

    next : NextIn promised granted d (lost_by looks.entry a.client) a.at.crq
    next = record {
      answered = [];
      lost = [];
      answers = [];
      rest = to_come a.at.crq;
      come = refl;
      owed = owed_none granted d.id d.client (lost_by looks.entry a.client) (to_come a.at.crq) (lost_aware a.client looks.entry) refl (behind.0 looks.finds.0)
          (All-tail IsNews looks.entry (news_among (to_come a.at.crq)) (held_news promised granted d a looks.entry stands looks.held (event_no_srp looks.entry looks.finds.0))) behind.1;
      there = λ down. waits_down (sym (event_waits a.client.handshake looks.entry up looks.finds.0) ∙ down);
      tabled = stands.over.tabled;
      on = λ current. absurd (current phase.current);
      phase = phase.phase;
      kept = All-nil (λ (e : Entry). is_srp_entry e ≡ true);
      logout = tt;
      fewer = λ grants. absurd (true≢false (sym grants));
    }
      where
        waits_down : Waiting ≡ Down → ⊥
        waits_down e = cc (e)
