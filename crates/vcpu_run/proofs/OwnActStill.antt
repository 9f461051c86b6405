-- Where both stand behind a client's step, its server unit's session being over, or having been, while a login may be under way: where nothing
-- is put, and where an event is put and the client's queue is not registered.
use Rattle.std.proofs.Common.{◌≡◌, ◌≢◌, ◌∙◌, ◌⊎◌, inl, inr, ℕ, ◌++◌, All, Bool, true, false, true≢false, List, [], ◌∷◌, append-nil, append_assoc, length, sym, ap, subst}
use Rattle.std.proofs.lemmas.List.Elements.{All-append, All-weaker}
use Rattle.vio_num.specs.Entry.{initialize, srp_entry}
use Rattle.vio_num.specs.declared.entry.Entry.{Entry}
use Rattle.crq_session.specs.EndState.{EndState}
use Rattle.crq_session.specs.declared.handshake.Handshake.TheVariants.{Down}
use Rattle.tce_window.specs.PortState.{PortState}
use Rattle.block_server.specs.Closings.{is_event}
use Rattle.block_server.specs.Doings.{Doing}
use Rattle.vscsi_client.specs.Ports.{Ports}
use Rattle.vscsi_client.specs.State.{ClientState}
use Rattle.vscsi_client.specs.Units.{slot_address}
use Rattle.vscsi_client.specs.declared.stage.Stage.TheVariants.{Idle}
use Rattle.vcpu_run.specs.OwnActs.{left_at}
use Rattle.vcpu_run.specs.OwnOver.{AreShakes, EndsEarly, HasAsked, HasEntry, IsAnew, IsComing, IsGranted, IsLogging, IsPrepared, IsServing, IsShake, IsTaken, IsWritten, Joins, StandsBehind, Stirs, WillHear}
use Rattle.vcpu_run.specs.PlainTalk.{AnswerStands, Ask, ShowsAt}
use Rattle.vcpu_run.proofs.OwnActLeft.{IsPhase, anew_away, early_left, idle_left, new_left, stale_left}
use Rattle.vcpu_run.proofs.OwnActPast.{no_joins, unheard_away}

-- these are events
abbrev pub AreEvents : List Entry → Type 0
AreEvents = All (λ (entry : Entry). is_event entry ≡ true)

-- ---- a login that was asked for

-- What stands behind its entry is as it may be, with these behind it.
abbrev pub KeepsBehind : EndState → EndState → (entries : List Entry) → Type 0
KeepsBehind own own' entries = (back : List Entry) → StandsBehind own back → StandsBehind own' (back ++ entries)

abbrev serving_left : (d : Doing) (own : EndState) (new : Ports) (entries : List Entry) (ask : Ask) → KeepsBehind own new.crq entries → IsServing d own ask → IsServing (left_at d new entries) new.crq ask
serving_left d own new entries ask keep serves = record {
  current = serves.current;
  up = serves.up;
  request = serves.request;
  pending = serves.pending;
  is = serves.is;
  queue = keep d.coming serves.queue;
}

abbrev pub IsAskedFor : (granted : ℕ) → Doing → EndState → Ask → Type 0
IsAskedFor granted d own ask = IsComing d own ask ⊎ (IsTaken d own ask ⊎ (IsPrepared d own ask ⊎ IsWritten granted d own ask))

asked_left : (granted : ℕ) (d : Doing) (own : EndState) (new : Ports) (entries : List Entry) (ask : Ask) → new.own ≡ d.client → KeepsBehind own new.crq entries → IsAskedFor granted d own ask
    → IsAskedFor granted (left_at d new entries) new.crq ask
asked_left granted d own new entries ask window keep (inl comes) = inl (record {
  idle = idle_left d new entries comes.idle;
  kept = comes.kept;
  entry = comes.entry;
  front = comes.front;
  back = comes.back ++ entries;
  queue = ap (λ (coming : List Entry). coming ++ entries) comes.queue ∙ append_assoc comes.front (srp_entry (length ask.bytes) (slot_address ask.slot) ∷ comes.back) entries;
  shakes = comes.shakes;
  behind = keep comes.back comes.behind;
  shows = subst (λ (w : PortState). ShowsAt w (slot_address ask.slot) ask.bytes) (sym window) comes.shows;
})
asked_left granted d own new entries ask window keep (inr (inl taken)) =
    inr (inl (record { serves = serving_left d own new entries ask keep taken.serves; stage = taken.stage; kept = taken.kept; entry = taken.entry }))
asked_left granted d own new entries ask window keep (inr (inr (inl is))) = inr (inr (inl (record {
  serves = serving_left d own new entries ask keep is.serves;
  outcome = is.outcome;
  stage = is.stage;
  grants = is.grants;
  answer = is.answer;
  kept = is.kept;
  entry = is.entry;
})))
asked_left granted d own new entries ask window keep (inr (inr (inr is))) = inr (inr (inr (record {
  serves = serving_left d own new entries ask keep is.serves;
  outcome = is.outcome;
  stage = is.stage;
  grants = is.grants;
  iu = is.iu;
  stands = subst (λ (w : PortState). AnswerStands granted d.id w ask (length d.answer) is.outcome is.iu) (sym window) is.stands;
  kept = is.kept;
  entry = is.entry;
})))

joins_left : (granted : ℕ) (d : Doing) (s s' : ClientState) (own : EndState) (new : Ports) (stream entries : List Entry) (answered lost : List Ask) → new.own ≡ d.client
    → KeepsBehind own new.crq entries → ((ask : Ask) → HasAsked s own stream ask → HasAsked s' new.crq stream ask) → Joins granted d s own stream answered lost
    → Joins granted (left_at d new entries) s' new.crq stream answered lost
joins_left granted d s s' own new stream entries answered lost window keep has joins = record { ask = joins.ask; has = has joins.ask joins.has; where_is = by joins.where_is }
  where
    by : (((answered ≡ []) × (lost ≡ joins.ask ∷ [])) × IsAskedFor granted d own joins.ask) ⊎ (((answered ≡ joins.ask ∷ []) × (lost ≡ [])) × IsGranted d s own stream)
        → (((answered ≡ []) × (lost ≡ joins.ask ∷ [])) × IsAskedFor granted (left_at d new entries) new.crq joins.ask)
        ⊎ (((answered ≡ joins.ask ∷ []) × (lost ≡ [])) × IsGranted (left_at d new entries) s' new.crq stream)
    by (inl (lists, asked)) = inl (lists, asked_left granted d own new entries joins.ask window keep asked)
    by (inr (lists, is)) = inr (
      lists,
      record {
        current = is.current;
        taking = is.taking;
        outstanding = is.outstanding;
        pending = is.pending;
        stage = is.stage;
        up = is.up;
        kept = is.kept;
        queue = keep d.coming is.queue;
        front = is.front;
        entry = is.entry;
        last = is.last;
        srp = is.srp;
      },
    )

-- ---- the client's queue is not registered, and events were put

behind_off : (own own' : EndState) (entries : List Entry) → own'.registered ≡ false → AreEvents entries → KeepsBehind own own' entries
behind_off own own' entries off events back (inl none) = inr (off, subst (λ (list : List Entry). AreEvents (list ++ entries)) (sym none) events)
behind_off own own' entries off events back (inr (was, all)) = inr (off, All-append (λ (entry : Entry). is_event entry ≡ true) back entries all events)

-- What is so of the client: its login is as it was.
pub phase_off : (granted : ℕ) (failed failed' : Bool) (d : Doing) (s s' : ClientState) (own : EndState) (new : Ports) (stream entries : List Entry) (answered lost : List Ask)
    → s'.login ≡ s.login → new.own ≡ d.client → new.crq.registered ≡ false → AreEvents entries → (own.registered ≡ true → failed' ≡ true) → (failed ≡ true → failed' ≡ true)
    → IsPhase granted failed d s own stream answered lost → IsPhase granted failed' (left_at d new entries) s' new.crq stream answered lost
phase_off granted failed failed' d s s' own new stream entries answered lost login window off events fails still (inl shut) =
    inl (record { over = shut.over; idle = idle_left d new entries shut.idle; kept = shut.kept; event = shut.event; told = inr (inl off) })
phase_off granted failed failed' d s s' own new stream entries answered lost login window off events fails still (inr (inl stale)) = inr (inl (stale_left d new entries stale))
phase_off granted failed failed' d s s' own new stream entries answered lost login window off events fails still (inr (inr (inl un))) =
    unheard_away granted failed' d s' own new stream stream entries answered lost off
    (All-weaker (λ (e : Entry). is_event e ≡ true) (λ (e : Entry). IsShake e ⊎ (is_event e ≡ true)) (λ e is. inr is) entries events) un
phase_off granted failed failed' d s s' own new stream entries answered lost login window off events fails still (inr (inr (inr joins))) = inr (inr (inr (record {
  going = joins.going;
  event = joins.event;
  open_is = joins.open_is;
  none_gone = λ on. absurd (true≢false (sym on ∙ off));
  aware = λ on. absurd (true≢false (sym on ∙ off));
  there = there joins.there;
  how = how joins.how;
})))
  where
    shakes : AreShakes entries
    shakes = All-weaker (λ (e : Entry). is_event e ≡ true) (λ (e : Entry). IsShake e ⊎ (is_event e ≡ true)) (λ e is. inr is) entries events

    there : (own.registered ≡ true) ⊎ ((failed ≡ true) ⊎ IsAnew d s own stream) → (new.crq.registered ≡ true) ⊎ ((failed' ≡ true) ⊎ IsAnew (left_at d new entries) s' new.crq stream)
    there (inl on) = inr (inl (fails on))
    there (inr (inl is)) = inr (inl (still is))
    there (inr (inr anew)) = inr (inr (anew_away d s s' own new stream stream entries off shakes anew))

    has : (ask : Ask) → HasAsked s own stream ask → HasAsked s' new.crq stream ask
    has ask is = record {
      login = login ∙ is.login;
      asked = is.asked;
      due = λ on. absurd (true≢false (sym on ∙ off));
      up = λ on. absurd (true≢false (sym on ∙ off));
      complete = λ on. absurd (true≢false (sym on ∙ off));
    }

    how : IsAnew d s own stream ⊎ Joins granted d s own stream answered lost
        → IsAnew (left_at d new entries) s' new.crq stream ⊎ Joins granted (left_at d new entries) s' new.crq stream answered lost
    how (inl anew) = inl (anew_away d s s' own new stream stream entries off shakes anew)
    how (inr asks') = inr (joins_left granted d s s' own new stream entries answered lost window (behind_off own new.crq entries off events) has asks')

-- ---- nothing was put, and the client is as it was

-- A login that was asked for has come as far as it had.
abbrev StillJoins : (granted : ℕ) → Doing → ClientState → EndState → Ports → (stream : List Entry) → (answered lost : List Ask) → Type 0
StillJoins granted d s own new stream answered lost = Joins granted d s own stream answered lost → Joins granted (left_at d new []) s new.crq stream answered lost

phase_by : (granted : ℕ) (failed : Bool) (d : Doing) (s : ClientState) (own : EndState) (new : Ports) (stream : List Entry) (answered lost : List Ask)
    → StillJoins granted d s own new stream answered lost → new.crq.registered ≡ own.registered → IsPhase granted failed d s own stream answered lost → IsPhase granted failed (left_at d new []) s new.crq stream answered lost
phase_by granted failed d s own new stream answered lost asked same (inl shut) =
    inl (record { over = shut.over; idle = idle_left d new [] shut.idle; kept = shut.kept; event = shut.event; told = by shut.told })
  where
    hear : WillHear d s own stream → WillHear (left_at d new []) s new.crq stream
    hear (inl off) = inl (same ∙ off)
    hear (inr more) = inr more

    by : (d.handshake ≢ Down) ⊎ WillHear d s own stream → (d.handshake ≢ Down) ⊎ WillHear (left_at d new []) s new.crq stream
    by (inl up) = inl up
    by (inr hears) = inr (hear hears)
phase_by granted failed d s own new stream answered lost asked same (inr (inl stale)) = inr (inl (stale_left d new [] stale))
phase_by granted failed d s own new stream answered lost asked same (inr (inr (inl un))) = inr (inr (inl (record {
  new = new_left d new [] un.new;
  registered = same ∙ un.registered;
  gone = un.gone;
  queue = by un.queue;
  begins = un.begins;
})))
  where
    by : (d.coming ≡ []) ⊎ EndsEarly d → ((left_at d new []).coming ≡ []) ⊎ EndsEarly (left_at d new [])
    by (inl empty) = inl (ap (λ (coming : List Entry). coming ++ []) empty)
    by (inr early) = inr (early_left d new [] early)
phase_by granted failed d s own new stream answered lost asked same (inr (inr (inr joins))) = inr (inr (inr (record {
  going = joins.going;
  event = joins.event;
  open_is = joins.open_is;
  none_gone = λ on. joins.none_gone (sym same ∙ on);
  aware = λ on. joins.aware (sym same ∙ on);
  there = there joins.there;
  how = how joins.how;
})))
  where
    stirs : Stirs d s stream → Stirs (left_at d new []) s stream
    stirs (inl news) = inl news
    stirs (inr (inl kept)) = inr (inl kept)
    stirs (inr (inr (inl coming))) = inr (inr (inl (subst (HasEntry initialize) (sym (append-nil d.coming)) coming)))
    stirs (inr (inr (inr due))) = inr (inr (inr due))

    logging : IsLogging d s stream → IsLogging (left_at d new []) s stream
    logging logs = record { up = logs.up; complete = logs.complete; entry = logs.entry; last = logs.last }

    anew : IsAnew d s own stream → IsAnew (left_at d new []) s new.crq stream
    anew is = record {
      idle = idle_left d new [] is.idle;
      kept = is.kept;
      queue = subst AreShakes (sym (append-nil d.coming)) is.queue;
      unsent = λ on. is.unsent (sym same ∙ on);
      first = λ on. is.first (sym same ∙ on);
      stirs = λ on waits. stirs (is.stirs (sym same ∙ on) waits);
      logging = λ on logs. logging (is.logging (sym same ∙ on) logs);
    }

    there : (own.registered ≡ true) ⊎ ((failed ≡ true) ⊎ IsAnew d s own stream) → (new.crq.registered ≡ true) ⊎ ((failed ≡ true) ⊎ IsAnew (left_at d new []) s new.crq stream)
    there (inl on) = inl (same ∙ on)
    there (inr (inl is)) = inr (inl is)
    there (inr (inr is)) = inr (inr (anew is))

    how : IsAnew d s own stream ⊎ Joins granted d s own stream answered lost
        → IsAnew (left_at d new []) s new.crq stream ⊎ Joins granted (left_at d new []) s new.crq stream answered lost
    how (inl is) = inl (anew is)
    how (inr asks') = inr (asked asks')

-- whatever is under way, where the window is as it was
pub phase_still : (granted : ℕ) (failed : Bool) (d : Doing) (s : ClientState) (own : EndState) (new : Ports) (stream : List Entry) (answered lost : List Ask) → new.own ≡ d.client
    → new.crq.registered ≡ own.registered → IsPhase granted failed d s own stream answered lost → IsPhase granted failed (left_at d new []) s new.crq stream answered lost
phase_still granted failed d s own new stream answered lost window same phase =
    phase_by granted failed d s own new stream answered lost (joins_left granted d s s own new stream [] answered lost window keep has) same phase
  where
    has : (ask : Ask) → HasAsked s own stream ask → HasAsked s new.crq stream ask
    has ask is = record {
      login = is.login;
      asked = is.asked;
      due = λ on. is.due (sym same ∙ on);
      up = λ on. is.up (sym same ∙ on);
      complete = λ on. is.complete (sym same ∙ on);
    }

    keep : KeepsBehind own new.crq []
    keep back (inl none) = inl (ap (λ (list : List Entry). list ++ []) none)
    keep back (inr (off, all)) = inr (same ∙ off, subst AreEvents (sym (append-nil back)) all)

-- while no login is under way, whatever the window is
pub phase_idle : (granted : ℕ) (failed : Bool) (d : Doing) (s : ClientState) (own : EndState) (new : Ports) (stream : List Entry) (answered lost : List Ask) → s.login ≡ Idle
    → new.crq.registered ≡ own.registered → IsPhase granted failed d s own stream answered lost → IsPhase granted failed (left_at d new []) s new.crq stream answered lost
phase_idle granted failed d s own new stream answered lost idle same phase =
    phase_by granted failed d s own new stream answered lost (λ joins. absurd (no_joins granted d s own stream answered lost idle joins)) same phase
