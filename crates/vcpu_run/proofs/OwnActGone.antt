-- A client looks at an event, whose server unit's session is over, or was: it forgets all that it asked, and awaits that the unit begins anew.
use Rattle.std.proofs.Common.{◌≡◌, ◌≢◌, ◌∙◌, ◌⊎◌, inl, inr, ℕ, ◌≤◌, ◌++◌, All, Bool, true, false, true≢false, cond, filter, List, [], ◌∷◌, Some, None, arith, length, refl, sym, ap, ap₂, subst}
use Rattle.std.specs.List.{list_any}
use Rattle.std.proofs.lemmas.List.Elements.{All-nil}
use Rattle.vio_num.specs.Entry.{initialize}
use Rattle.vio_num.specs.declared.entry.Entry.{Entry}
use Rattle.vio_num.specs.declared.names.UnitId.{UnitId}
use Rattle.crq_session.specs.EndState.{EndState}
use Rattle.crq_session.specs.Handshake.{state_after, state_by}
use Rattle.crq_session.specs.declared.handshake.Handshake.{Handshake}
use Rattle.crq_session.specs.declared.handshake.Handshake.TheVariants.{Down, Up, Waiting}
use Rattle.vio_num.specs.Entry.{entry_format, kind_of}
use Rattle.tce_window.specs.PortState.{PortState}
use Rattle.block_server.specs.Closings.{is_event}
use Rattle.block_server.specs.Doings.{Doing}
use Rattle.block_server.specs.declared.line.Kept.TheVariants as keeps
use Rattle.vscsi_client.specs.Ports.{Ports}
use Rattle.vscsi_client.specs.State.{ClientState}
use Rattle.vscsi_client.specs.Taking.{is_step}
use Rattle.vscsi_client.specs.declared.outgoing.Outgoing.{Outgoing}
use Rattle.vscsi_client.specs.declared.stage.Due.{Due}
use Rattle.vscsi_client.specs.declared.stage.Due.TheVariants as dues
use Rattle.vscsi_client.specs.declared.stage.Stage.{Stage}
use Rattle.vscsi_client.specs.declared.stage.Stage.TheVariants.{Idle}
use Rattle.vcpu_run.specs.OwnActs.{left_at}
use Rattle.vcpu_run.specs.OwnOver.{AreShakes, EndsEarly, HasEntry, IsAnew, IsAware, IsNews, IsOwed, IsShake, IsLogging, Stirs, IsUnanswered, IsUnheard, LoginShows, NoneBehindGone, WillHear, answers_among, behind_gone, is_login_due, is_under_way, news_among, tells_gone, under_way}
use Rattle.vcpu_run.specs.PlainTalk.{Ask, HaveAnswers, IsAnswerBy, IsAsk, is_logout}
use Rattle.vcpu_run.proofs.OverKinds.{event_byte}
use Rattle.vcpu_run.proofs.OwnActLeft.{IsPhase, early_left, idle_left, new_left, stale_left}
use Rattle.vcpu_run.proofs.OwnStreams.{behind_last, behind_more, news_has}

-- ---- what the client is then

-- its queue is registered: it awaits what begins the initialisation
pub gone_waits : (state : Handshake) (entry : Entry) → is_event entry ≡ true → state ≢ Down → state_after state entry ≡ Waiting
gone_waits Down entry event up = absurd (up refl)
gone_waits Waiting entry event up = ap (λ (byte : ℕ). state_by Waiting (kind_of byte) (entry_format entry)) (event_byte entry event)
gone_waits Up entry event up = ap (λ (byte : ℕ). state_by Up (kind_of byte) (entry_format entry)) (event_byte entry event)

pub steps_alone : (due : List Due) → list_any is_login_due (filter is_step due) ≡ false
steps_alone [] = refl
steps_alone (dues.Login ∷ due) = steps_alone due
steps_alone (dues.Initialize ∷ due) = steps_alone due
steps_alone (dues.Complete ∷ due) = steps_alone due

-- It has forgotten all that it asked.
pub record HasForgotten (s : ClientState) : Type 0 where
  pub aware : IsAware s
  pub idle : s.login ≡ Idle
  pub held : s.held ≡ None

pub owed_none : (granted : ℕ) (id : UnitId) (window : PortState) (s : ClientState) (stream : List Entry) → HasForgotten s → answers_among stream ≡ [] → All IsNews (news_among stream)
    → NoneBehindGone stream → IsOwed granted id window s stream [] [] []
owed_none granted id window s stream is none news behind = record {
  each = All-nil IsAsk;
  slots = tt;
  tags = tt;
  order = tt;
  told = subst (λ (list : List Entry). HaveAnswers window list [] []) (sym none) tt;
  news = news;
  behind = behind;
  awaited = sym (ap₂ (λ (outgoing : List Outgoing) (stage : Stage). outgoing ++ under_way stage) is.aware.outgoing is.idle);
  logouts = All-nil (λ (ask : Ask). is_logout ask.iu ≡ true → s.logout ≡ Some ask.slot);
  sent = sym (ap is_under_way is.idle);
  written = All-nil (LoginShows window s.login);
  unanswered = subst (λ (stage : Stage). IsUnanswered stage []) (sym is.idle) tt;
  none = λ off. is.aware.outgoing;
  within = subst (λ (list : List Outgoing). length list ≤ 200) (sym is.aware.outgoing) (omega arith);
  credits = inl is.aware.granted;
  grant = All-nil (IsAnswerBy granted id window);
}

-- ---- where both stand then

-- What is so of the client once it looked at the event, behind which this is to come.
pub record AwaitsAnew (s : ClientState) (new : EndState) : Type 0 where
  pub forgotten : HasForgotten s
  pub handshake : s.handshake ≡ Waiting
  pub due : list_any is_login_due s.due ≡ false
  pub registered : new.registered ≡ true

no_login : {A : Type 0} (s : ClientState) → s.login ≡ Idle → is_under_way s.login ≡ true → A
no_login s idle way = absurd (true≢false (sym way ∙ ap is_under_way idle))

gone_hear : (d : Doing) (s s' : ClientState) (own : EndState) (new : Ports) (entry : Entry) (next : List Entry) → is_event entry ≡ true → own.registered ≡ true → AwaitsAnew s' new.crq
    → WillHear d s own (entry ∷ next) → WillHear (left_at d new []) s' new.crq next
gone_hear d s s' own new entry next event on awaits (inl off) = absurd (true≢false (sym on ∙ off))
gone_hear d s s' own new entry next event on awaits (inr (inl (gone, none))) = by (tells_gone next) refl
  where
    by : (b : Bool) → tells_gone next ≡ b → WillHear (left_at d new []) s' new.crq next
    by true is = inr (inl (is, sym (behind_more entry next is) ∙ none))
    by false is = inr (inr (inr (record {
      aware = awaits.forgotten.aware;
      login = awaits.forgotten.idle;
      handshake = awaits.handshake;
      none = sym (behind_last entry next is event) ∙ none;
      due = awaits.due;
    })))
gone_hear d s s' own new entry next event on awaits (inr (inr (inl kept))) = inr (inr (inl kept))
gone_hear d s s' own new entry next event on awaits (inr (inr (inr fresh))) = absurd (no_items fresh.none)
  where
    no_items : entry ∷ next ≡ [] → ⊥
    no_items e = cc (e)

-- behind the last event both begin anew
gone_anew : (d : Doing) (s' : ClientState) (own : EndState) (new : Ports) (entry : Entry) (next : List Entry) → is_event entry ≡ true → AwaitsAnew s' new.crq → tells_gone next ≡ false → d.coming ≡ []
    → IsUnheard d own (entry ∷ next) → IsAnew (left_at d new []) s' new.crq next
gone_anew d s' own new entry next event awaits none empty un = record {
  idle = idle_left d new [] un.new.idle;
  kept = un.new.kept;
  queue = subst (λ (coming : List Entry). AreShakes (coming ++ [])) (sym empty) (All-nil (λ (e : Entry). IsShake e ⊎ (is_event e ≡ true)));
  unsent = λ on tag slot is. no_login s' awaits.forgotten.idle (ap is_under_way is);
  first = λ on kept. (awaits.handshake, first kept un.begins);
  stirs = λ on waits. stirs un.begins;
  logging = λ on logs. logging logs;
}
  where
    behind : behind_gone (entry ∷ next) ≡ next
    behind = behind_last entry next none event

    first : d.kept ≡ Some (keeps.Reply initialize) → (HasEntry initialize (behind_gone (entry ∷ next)) × (d.kept ≡ None)) ⊎ ((behind_gone (entry ∷ next) ≡ []) × (d.kept ≡ Some (keeps.Reply initialize)))
        → next ≡ []
    first kept (inl has) = absurd (cc (kept, has.1))
    first kept (inr is) = sym behind ∙ is.0

    stirs : (HasEntry initialize (behind_gone (entry ∷ next)) × (d.kept ≡ None)) ⊎ ((behind_gone (entry ∷ next) ≡ []) × (d.kept ≡ Some (keeps.Reply initialize)))
        → Stirs (left_at d new []) s' next
    stirs (inl has) = inl (news_has initialize next refl (subst (HasEntry initialize) behind has.0))
    stirs (inr is) = inr (inl (λ off. absurd (cc (off, is.1))))

    logging : (list_any is_login_due s'.due ≡ true) ⊎ (is_under_way s'.login ≡ true) → IsLogging (left_at d new []) s' next
    logging (inl due) = absurd (true≢false (sym due ∙ awaits.due))
    logging (inr way) = no_login s' awaits.forgotten.idle way

gone_unheard : (granted : ℕ) (failed : Bool) (d : Doing) (s' : ClientState) (own : EndState) (new : Ports) (entry : Entry) (next : List Entry) → is_event entry ≡ true → AwaitsAnew s' new.crq
    → IsUnheard d own (entry ∷ next) → IsPhase granted failed (left_at d new []) s' new.crq next [] []
gone_unheard granted failed d s' own new entry next event awaits un = by (tells_gone next) refl un.queue
  where
    up : d.handshake ≢ Down
    up down = cc (un.new.waiting, down)

    queue : (d.coming ≡ []) ⊎ EndsEarly d → ((left_at d new []).coming ≡ []) ⊎ EndsEarly (left_at d new [])
    queue (inl empty) = inl (ap (λ (coming : List Entry). coming ++ []) empty)
    queue (inr early) = inr (early_left d new [] early)

    by : (b : Bool) → tells_gone next ≡ b → (d.coming ≡ []) ⊎ EndsEarly d → IsPhase granted failed (left_at d new []) s' new.crq next [] []
    by true gone coming = inr (inr (inl (record {
      new = new_left d new [] un.new;
      registered = awaits.registered;
      gone = gone;
      queue = queue coming;
      begins = subst (λ (list : List Entry). (HasEntry initialize list × (d.kept ≡ None)) ⊎ ((list ≡ []) × (d.kept ≡ Some (keeps.Reply initialize)))) (behind_more entry next gone) un.begins;
    })))
    by false none (inr early) = inr (inl (record { new = new_left d new [] un.new; early = early_left d new [] early }))
    by false none (inl empty) = inr (inr (inr (record {
      going = un.new.going;
      event = un.new.event;
      open_is = up;
      none_gone = λ on. none;
      aware = λ on. awaits.forgotten.aware;
      there = inl awaits.registered;
      how = inl (gone_anew d s' own new entry next event awaits none empty un);
    })))

pub gone_phase : (granted : ℕ) (failed : Bool) (d : Doing) (s s' : ClientState) (own : EndState) (new : Ports) (entry : Entry) (next : List Entry) (answered lost : List Ask) → is_event entry ≡ true
    → own.registered ≡ true → AwaitsAnew s' new.crq → IsPhase granted failed d s own (entry ∷ next) answered lost → IsPhase granted failed (left_at d new []) s' new.crq next [] []
gone_phase granted failed d s s' own new entry next answered lost event on awaits (inl shut) =
    inl (record { over = shut.over; idle = idle_left d new [] shut.idle; kept = shut.kept; event = shut.event; told = by shut.told })
  where
    by : (d.handshake ≢ Down) ⊎ WillHear d s own (entry ∷ next) → (d.handshake ≢ Down) ⊎ WillHear (left_at d new []) s' new.crq next
    by (inl up) = inl up
    by (inr hears) = inr (gone_hear d s s' own new entry next event on awaits hears)
gone_phase granted failed d s s' own new entry next answered lost event on awaits (inr (inl stale)) = inr (inl (stale_left d new [] stale))
gone_phase granted failed d s s' own new entry next answered lost event on awaits (inr (inr (inl un))) = gone_unheard granted failed d s' own new entry next event awaits un
gone_phase granted failed d s s' own new entry next answered lost event on awaits (inr (inr (inr joins))) =
    absurd (true≢false (sym (ap (λ b. cond b true (tells_gone next)) event) ∙ joins.none_gone on))
