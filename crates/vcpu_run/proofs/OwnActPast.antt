-- Where both stand behind a client's step, its server unit's session being over, or having been: where the client's queue is not registered, and
-- behind an entry that was no event.
use Rattle.std.proofs.Common.{◌≡◌, ◌≢◌, ◌∙◌, ◌⊎◌, inl, inr, ℕ, ◌++◌, Bool, true, false, true≢false, List, [], ◌∷◌, Some, None, sym, ap, subst}
use Rattle.vio_num.specs.Entry.{initialize}
use Rattle.vio_num.specs.declared.entry.Entry.{Entry}
use Rattle.crq_session.specs.EndState.{EndState}
use Rattle.crq_session.specs.declared.handshake.Handshake.TheVariants.{Down}
use Rattle.block_server.specs.Closings.{is_event}
use Rattle.block_server.specs.Doings.{Doing}
use Rattle.block_server.specs.declared.line.Kept.TheVariants as keeps
use Rattle.vscsi_client.specs.Ports.{Ports}
use Rattle.vscsi_client.specs.State.{ClientState}
use Rattle.vscsi_client.specs.declared.stage.Stage.TheVariants.{Idle, Sent}
use Rattle.vcpu_run.specs.OwnActs.{left_at}
use Rattle.vcpu_run.specs.OwnOver.{AreShakes, EndsEarly, HasEntry, IsAnew, IsShut, IsUnheard, Joins, Rejoins, WillHear, behind_gone, tells_gone}
use Rattle.vcpu_run.specs.PlainTalk.{Ask}
use Rattle.vcpu_run.proofs.OwnActLeft.{IsPhase, anew_away, early_left, idle_left, new_left, stale_left}
use Rattle.vcpu_run.proofs.OwnStreams.{behind_more, gone_other}

-- ---- the client's queue is not registered

-- a login that was asked for is under way
pub no_joins : (granted : ℕ) (d : Doing) (s : ClientState) (own : EndState) (stream : List Entry) (answered lost : List Ask) → s.login ≡ Idle → Joins granted d s own stream answered lost → ⊥
no_joins granted d s own stream answered lost idle joins = no_stage (sym joins.has.login ∙ idle)
  where
    no_stage : Sent joins.ask.tag joins.ask.slot ≡ Idle → ⊥
    no_stage e = cc (e)

-- no login is on in the unit while none is under way
pub none_on : (granted : ℕ) (failed : Bool) (d : Doing) (s : ClientState) (own : EndState) (stream : List Entry) (answered lost : List Ask) → s.login ≡ Idle
    → IsPhase granted failed d s own stream answered lost → d.logins.current ≡ 0
none_on granted failed d s own stream answered lost idle (inl shut) = shut.idle.current
none_on granted failed d s own stream answered lost idle (inr (inl stale)) = stale.new.idle.current
none_on granted failed d s own stream answered lost idle (inr (inr (inl un))) = un.new.idle.current
none_on granted failed d s own stream answered lost idle (inr (inr (inr joins))) = by joins.how
  where
    by : IsAnew d s own stream ⊎ Joins granted d s own stream answered lost → d.logins.current ≡ 0
    by (inl anew) = anew.idle.current
    by (inr asks') = absurd (no_joins granted d s own stream answered lost idle asks')

rejoins_away : (granted : ℕ) (failed failed' : Bool) (d : Doing) (s s' : ClientState) (own : EndState) (new : Ports) (stream stream' entries : List Entry) (answered answered' lost lost' : List Ask)
    → s.login ≡ Idle → new.crq.registered ≡ false → AreShakes entries → Rejoins granted failed d s own stream answered lost
    → Rejoins granted failed' (left_at d new entries) s' new.crq stream' answered' lost'
rejoins_away granted failed failed' d s s' own new stream stream' entries answered answered' lost lost' idle off shakes joins = record {
  going = joins.going;
  event = joins.event;
  open_is = joins.open_is;
  none_gone = λ on. absurd (true≢false (sym on ∙ off));
  aware = λ on. absurd (true≢false (sym on ∙ off));
  there = inr (inr anew);
  how = inl anew;
}
  where
    was : IsAnew d s own stream
    was = by joins.how
      where
        by : IsAnew d s own stream ⊎ Joins granted d s own stream answered lost → IsAnew d s own stream
        by (inl anew) = anew
        by (inr asks') = absurd (no_joins granted d s own stream answered lost idle asks')

    anew : IsAnew (left_at d new entries) s' new.crq stream'
    anew = anew_away d s s' own new stream stream' entries off shakes was

-- an event that the client did not hear of it need not hear of any more
pub unheard_away : (granted : ℕ) (failed : Bool) (d : Doing) (s' : ClientState) (own : EndState) (new : Ports) (stream stream' entries : List Entry) (answered lost : List Ask)
    → new.crq.registered ≡ false → AreShakes entries → IsUnheard d own stream → IsPhase granted failed (left_at d new entries) s' new.crq stream' answered lost
unheard_away granted failed d s' own new stream stream' entries answered lost off shakes un = by un.queue
  where
    anew : d.coming ≡ [] → IsAnew (left_at d new entries) s' new.crq stream'
    anew empty = record {
      idle = idle_left d new entries un.new.idle;
      kept = un.new.kept;
      queue = subst (λ (coming : List Entry). AreShakes (coming ++ entries)) (sym empty) shakes;
      unsent = λ on. absurd (true≢false (sym on ∙ off));
      first = λ on. absurd (true≢false (sym on ∙ off));
      stirs = λ on. absurd (true≢false (sym on ∙ off));
      logging = λ on. absurd (true≢false (sym on ∙ off));
    }

    up : d.handshake ≢ Down
    up down = cc (un.new.waiting, down)

    by : (d.coming ≡ []) ⊎ EndsEarly d → IsPhase granted failed (left_at d new entries) s' new.crq stream' answered lost
    by (inr early) = inr (inl (record { new = new_left d new entries un.new; early = early_left d new entries early }))
    by (inl empty) = inr (inr (inr (record {
      going = un.new.going;
      event = un.new.event;
      open_is = up;
      none_gone = λ on. absurd (true≢false (sym on ∙ off));
      aware = λ on. absurd (true≢false (sym on ∙ off));
      there = inr (inr (anew empty));
      how = inl (anew empty);
    })))

pub phase_away : (granted : ℕ) (failed failed' : Bool) (d : Doing) (s s' : ClientState) (own : EndState) (new : Ports) (stream stream' entries : List Entry) (answered answered' lost lost' : List Ask)
    → s.login ≡ Idle → new.crq.registered ≡ false → AreShakes entries → IsPhase granted failed d s own stream answered lost
    → IsPhase granted failed' (left_at d new entries) s' new.crq stream' answered' lost'
phase_away granted failed failed' d s s' own new stream stream' entries answered answered' lost lost' idle off shakes (inl shut) =
    inl (record { over = shut.over; idle = idle_left d new entries shut.idle; kept = shut.kept; event = shut.event; told = inr (inl off) })
phase_away granted failed failed' d s s' own new stream stream' entries answered answered' lost lost' idle off shakes (inr (inl stale)) =
    inr (inl (stale_left d new entries stale))
phase_away granted failed failed' d s s' own new stream stream' entries answered answered' lost lost' idle off shakes (inr (inr (inl un))) =
    unheard_away granted failed' d s' own new stream stream' entries answered' lost' off shakes un
phase_away granted failed failed' d s s' own new stream stream' entries answered answered' lost lost' idle off shakes (inr (inr (inr joins))) =
    inr (inr (inr (rejoins_away granted failed failed' d s s' own new stream stream' entries answered answered' lost lost' idle off shakes joins)))

-- ---- an entry that was no event was looked at

behind_past : (entry : Entry) (rest : List Entry) → is_event entry ≡ false → tells_gone (entry ∷ rest) ≡ true → behind_gone (entry ∷ rest) ≡ behind_gone rest
behind_past entry rest isnt gone = behind_more entry rest (sym (gone_other entry rest isnt) ∙ gone)

pub hear_past : (d : Doing) (s s' : ClientState) (own : EndState) (new : Ports) (entry : Entry) (rest entries : List Entry) → is_event entry ≡ false → new.crq.registered ≡ own.registered
    → WillHear d s own (entry ∷ rest) → WillHear (left_at d new entries) s' new.crq rest
hear_past d s s' own new entry rest entries isnt same (inl off) = inl (same ∙ off)
hear_past d s s' own new entry rest entries isnt same (inr (inl (gone, none))) =
    inr (inl (sym (gone_other entry rest isnt) ∙ gone, sym (behind_past entry rest isnt gone) ∙ none))
hear_past d s s' own new entry rest entries isnt same (inr (inr (inl event))) = inr (inr (inl event))
hear_past d s s' own new entry rest entries isnt same (inr (inr (inr fresh))) = absurd (no_items fresh.none)
  where
    no_items : entry ∷ rest ≡ [] → ⊥
    no_items e = cc (e)

pub shut_past : (d : Doing) (s s' : ClientState) (own : EndState) (new : Ports) (entry : Entry) (rest entries : List Entry) → is_event entry ≡ false → new.crq.registered ≡ own.registered
    → IsShut d s own (entry ∷ rest) → IsShut (left_at d new entries) s' new.crq rest
shut_past d s s' own new entry rest entries isnt same shut = record {
  over = shut.over;
  idle = idle_left d new entries shut.idle;
  kept = shut.kept;
  event = shut.event;
  told = by shut.told;
}
  where
    by : (d.handshake ≢ Down) ⊎ WillHear d s own (entry ∷ rest) → (d.handshake ≢ Down) ⊎ WillHear (left_at d new entries) s' new.crq rest
    by (inl up) = inl up
    by (inr hears) = inr (hear_past d s s' own new entry rest entries isnt same hears)

-- what is to come to the unit is as it was
queue_left : (d : Doing) (new : Ports) → (d.coming ≡ []) ⊎ EndsEarly d → ((left_at d new []).coming ≡ []) ⊎ EndsEarly (left_at d new [])
queue_left d new (inl empty) = inl (ap (λ (coming : List Entry). coming ++ []) empty)
queue_left d new (inr early) = inr (early_left d new [] early)

pub unheard_past : (d : Doing) (own : EndState) (new : Ports) (entry : Entry) (rest : List Entry) → is_event entry ≡ false → new.crq.registered ≡ own.registered
    → IsUnheard d own (entry ∷ rest) → IsUnheard (left_at d new []) new.crq rest
unheard_past d own new entry rest isnt same un = record {
  new = new_left d new [] un.new;
  registered = same ∙ un.registered;
  gone = sym (gone_other entry rest isnt) ∙ un.gone;
  queue = queue_left d new un.queue;
  begins = subst (λ (list : List Entry). (HasEntry initialize list × (d.kept ≡ None)) ⊎ ((list ≡ []) × (d.kept ≡ Some (keeps.Reply initialize)))) (behind_past entry rest isnt un.gone) un.begins;
}
