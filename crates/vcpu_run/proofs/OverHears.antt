-- An entry of the initialisation is heard where a unit and its client begin anew.
use Rattle.std.proofs.Common.{◌≡◌, ◌≢◌, ◌∙◌, ◌⊎◌, inl, inr, ℕ, ◌≤◌, ◌++◌, Bool, true, false, List, [], ◌∷◌, Option, Some, None, MatchOption, length, refl, sym, ap, subst, arith}
use Rattle.crq_session.specs.EndState.{EndState}
use Rattle.crq_session.specs.Handshake.{step_after, step_entry}
use Rattle.crq_session.specs.declared.handshake.Handshake.{Handshake}
use Rattle.crq_session.specs.declared.handshake.Handshake.TheVariants.{Down, Up, Waiting}
use Rattle.vio_num.specs.Entry.{entry_format, first_byte, initialization_complete, initialize, kind_of, srp_entry}
use Rattle.vio_num.specs.declared.entry.Entry.{Entry}
use Rattle.block_server.specs.Doings.{Doing, HearsInit, SendsOrKeeps}
use Rattle.block_server.specs.declared.line.Kept.{Kept}
use Rattle.block_server.specs.declared.line.Kept.TheVariants as keeps
use Rattle.vscsi_client.specs.State.{ClientState}
use Rattle.vscsi_client.specs.Units.{slot_address}
use Rattle.vcpu_run.specs.OwnOver.{AreShakes, HasAsked, IsAnew, IsComing, IsShake, KeepsShake, Stirs, news_among, tells_gone}
use Rattle.vcpu_run.specs.PlainTalk.{Ask}
use Rattle.vcpu_run.proofs.OverAnew.{LeadsOn, leads_none, never_down, no_reply}
use Rattle.vcpu_run.proofs.OverHeads.{IsBefore, IsFirst, IsStir, has_tail, head_coming, head_shakes}
use Rattle.vcpu_run.proofs.OverKinds.{begins_apart, event_byte, init_byte, srp_byte}
use Rattle.vcpu_run.proofs.OverMoves.{shows_known}
use Rattle.vcpu_run.proofs.OverPhases.{IsGoing, StandsOver, anew_again, idle_aside, joins_again}
use Rattle.vcpu_run.proofs.OverSends.{AreCompletions, anew_next, asked_put, completions_last, none_apart, none_shake, put_none_gone, put_so, put_stirs, put_there, sends_put, there_news}
use Rattle.vcpu_run.proofs.PlainSlots.{entry_srp}

-- ---- what is sent

begins_sends : (h : Handshake) → h ≢ Down → step_entry (step_after h initialize) ≡ Some initialization_complete
begins_sends Down up = absurd (up refl)
begins_sends Waiting up = refl
begins_sends Up up = refl

complete_sends : (h : Handshake) → step_entry (step_after h initialization_complete) ≡ None
complete_sends Down = refl
complete_sends Waiting = refl
complete_sends Up = refl

-- Complete, for Initialize; and nothing for Complete
hears_how : (d d' : Doing) → d.handshake ≢ Down → (step : HearsInit d d') → IsShake step.entry
    → SendsOrKeeps d d' initialization_complete ⊎ ((step.entry ≡ initialization_complete) × (d'.sent ≡ d.sent) × (d'.kept ≡ d.kept))
hears_how d d' up step (inl begins) =
    inl (subst (λ (o : Option Entry). MatchOption o ((d'.sent ≡ d.sent) × (d'.kept ≡ d.kept)) (SendsOrKeeps d d'))
    (ap (λ (e : Entry). step_entry (step_after d.handshake e)) begins ∙ begins_sends d.handshake up) step.sent)
hears_how d d' up step (inr complete) = inr (complete, same.0, same.1)
  where
    same : (d'.sent ≡ d.sent) × (d'.kept ≡ d.kept)
    same = subst (λ (o : Option Entry). MatchOption o ((d'.sent ≡ d.sent) × (d'.kept ≡ d.kept)) (SendsOrKeeps d d'))
        (ap (λ (e : Entry). step_entry (step_after d.handshake e)) complete ∙ complete_sends d.handshake) step.sent

-- what it leads to, by what was sent
hears_on : (granted : ℕ) (failed : Bool) (d d' : Doing) (s : ClientState) (own : EndState) (stream : List Entry) (answered lost : List Ask) → d.reaches ≡ own.registered → d.handshake ≢ Down
    → (step : HearsInit d d') → IsShake step.entry
    → (d'.kept ≡ None → StandsOver granted failed d' s own (stream ++ put_there own initialization_complete) answered lost)
    → (d'.kept ≡ Some (keeps.Reply initialization_complete) → StandsOver granted failed d' s own stream answered lost)
    → (d'.kept ≡ None → step.entry ≡ initialization_complete → StandsOver granted failed d' s own stream answered lost)
    → LeadsOn granted failed d d' s own stream answered lost
hears_on granted failed d d' s own stream answered lost reached up step shake put keeps' none = by (hears_how d d' up step shake)
  where
    by : SendsOrKeeps d d' initialization_complete ⊎ ((step.entry ≡ initialization_complete) × (d'.sent ≡ d.sent) × (d'.kept ≡ d.kept)) → LeadsOn granted failed d d' s own stream answered lost
    by (inl (inl (sent, kept))) = record {
      more = put_there own initialization_complete;
      put = sends_put d d' own initialization_complete reached sent;
      news = there_news own initialization_complete (inr refl);
      stands = put (kept ∙ step.was);
    }
    by (inl (inr (there, sent, kept))) = leads_none granted failed d d' s own stream answered lost sent (keeps' kept)
    by (inr (is, sent, kept)) = leads_none granted failed d d' s own stream answered lost sent (none (kept ∙ step.was) is)

complete_apart : (kept : Option Kept) → kept ≡ Some (keeps.Reply initialization_complete) → kept ≢ Some (keeps.Reply initialize)
complete_apart kept is begins = begins_apart (same initialize initialization_complete (sym begins ∙ is))
  where
    same : (a b : Entry) → Some (keeps.Reply a) ≡ Some (keeps.Reply b) → a ≡ b
    same a b is = cc (is)

complete_shake : (kept : Option Kept) → kept ≡ Some (keeps.Reply initialization_complete) → KeepsShake kept
complete_shake kept is = subst KeepsShake (sym is) (inr refl)

-- it goes on
hears_going : (d d' : Doing) (s : ClientState) (own : EndState) (stream stream' : List Entry) (step : HearsInit d d') → IsGoing d s own stream → (own.registered ≡ true → tells_gone stream' ≡ false)
    → IsGoing d' s own stream'
hears_going d d' s own stream stream' step goes none = record {
  going = step.ended ∙ goes.going;
  event = step.event ∙ goes.event;
  open_is = λ down. never_down d.handshake (kind_of (first_byte step.entry)) (entry_format step.entry) goes.open_is (sym step.handshake ∙ down);
  none_gone = none;
  aware = goes.aware;
}

-- what stirs and is heard is no event
init_shake : (entry : Entry) → first_byte entry ≡ 0xC0 → IsStir entry → IsShake entry
init_shake entry byte (inl shake) = shake
init_shake entry byte (inr event) = absurd (omega (arith, byte, event_byte entry event))

-- ---- where no login was asked for

pub anew_hears : (granted : ℕ) (failed : Bool) (d d' : Doing) (s : ClientState) (own : EndState) (stream : List Entry) (answered lost : List Ask) → d.reaches ≡ own.registered → HearsInit d d'
    → IsGoing d s own stream → IsAnew d s own stream → LeadsOn granted failed d d' s own stream answered lost
anew_hears granted failed d d' s own stream answered lost reached step goes is =
    hears_on granted failed d d' s own stream answered lost reached goes.open_is step shake put keeps' none
  where
    head : IsStir step.entry × AreShakes d'.coming
    head = head_shakes d.coming step.entry d'.coming is.queue step.heard

    shake : IsShake step.entry
    shake = init_shake step.entry (init_byte step.entry step.kind) head.0

    put : d'.kept ≡ None → StandsOver granted failed d' s own (stream ++ put_there own initialization_complete) answered lost
    put kept =
        anew_again granted failed d' s own (stream ++ put_there own initialization_complete) answered lost
        (hears_going d d' s own stream (stream ++ put_there own initialization_complete) step goes (put_none_gone own stream initialization_complete (inr refl) goes.none_gone))
        (anew_next d d' s own stream (stream ++ put_there own initialization_complete) is (idle_aside d d' step.aside is.idle) (none_shake d'.kept kept) head.1 (none_apart d'.kept kept)
        (λ there waits. put_stirs d' s own stream initialization_complete (inr refl) there)
        (λ there logs. put_so (λ (list : List Entry). AreCompletions (news_among list)) own stream initialization_complete there
        (completions_last stream initialization_complete (inr refl) refl logs.complete)))

    keeps' : d'.kept ≡ Some (keeps.Reply initialization_complete) → StandsOver granted failed d' s own stream answered lost
    keeps' kept =
        anew_again granted failed d' s own stream answered lost (hears_going d d' s own stream stream step goes goes.none_gone)
        (anew_next d d' s own stream stream is (idle_aside d d' step.aside is.idle) (complete_shake d'.kept kept) head.1 (complete_apart d'.kept kept)
        (λ there waits. inr (inl (λ none. no_reply d'.kept initialization_complete none kept))) (λ there logs. logs.complete))

    none : d'.kept ≡ None → step.entry ≡ initialization_complete → StandsOver granted failed d' s own stream answered lost
    none kept complete =
        anew_again granted failed d' s own stream answered lost (hears_going d d' s own stream stream step goes goes.none_gone)
        (anew_next d d' s own stream stream is (idle_aside d d' step.aside is.idle) (none_shake d'.kept kept) head.1 (none_apart d'.kept kept)
        (λ there waits. stirs (is.stirs there waits)) (λ there logs. logs.complete))
      where
        stirs : Stirs d s stream → Stirs d' s stream
        stirs (inl news) = inl news
        stirs (inr (inl some)) = absurd (some step.was)
        stirs (inr (inr (inl begins))) =
            inr (inr (inl (has_tail initialize d.coming step.entry d'.coming step.heard (λ same. begins_apart (sym same ∙ complete)) begins)))
        stirs (inr (inr (inr due))) = inr (inr (inr due))

-- ---- where a login is to come

-- its own entry is none of the initialisation
before_login : (d d' : Doing) (own : EndState) (ask : Ask) → length ask.bytes ≤ 256 → (step : HearsInit d d') → (is : IsComing d own ask) → IsBefore d own ask is step.entry d'.coming
before_login d d' own ask few step is = by (head_coming d own ask is step.entry d'.coming step.heard)
  where
    by : IsFirst d own ask is step.entry d'.coming ⊎ IsBefore d own ask is step.entry d'.coming → IsBefore d own ask is step.entry d'.coming
    by (inl first) = absurd (omega (
      arith,
      init_byte step.entry step.kind,
      ap first_byte first.is,
      srp_byte (srp_entry (length ask.bytes) (slot_address ask.slot)) (entry_srp (length ask.bytes) (slot_address ask.slot) few),
    ))
    by (inr before) = before

pub coming_hears : (granted : ℕ) (failed : Bool) (d d' : Doing) (s : ClientState) (own : EndState) (stream : List Entry) (answered lost : List Ask) (ask : Ask) → d.reaches ≡ own.registered → HearsInit d d'
    → IsGoing d s own stream → (own.registered ≡ true) ⊎ (failed ≡ true) → length ask.bytes ≤ 256 → (answered ≡ []) × (lost ≡ ask ∷ []) → HasAsked s own stream ask → IsComing d own ask
    → LeadsOn granted failed d d' s own stream answered lost
coming_hears granted failed d d' s own stream answered lost ask reached step goes there few parts has is =
    hears_on granted failed d d' s own stream answered lost reached goes.open_is step (init_shake step.entry (init_byte step.entry step.kind) before.stir) put keeps' (λ kept complete. none kept)
  where
    before : IsBefore d own ask is step.entry d'.coming
    before = before_login d d' own ask few step is

    coming : KeepsShake d'.kept → d'.kept ≢ Some (keeps.Reply initialize) → IsComing d' own ask
    coming kept apart = record {
      idle = idle_aside d d' step.aside is.idle;
      kept = kept;
      entry = apart;
      front = before.front;
      back = is.back;
      queue = before.queue;
      shakes = before.shakes;
      behind = is.behind;
      shows = shows_known d.client d'.client step.aside.client (slot_address ask.slot) ask.bytes is.shows;
    }

    put : d'.kept ≡ None → StandsOver granted failed d' s own (stream ++ put_there own initialization_complete) answered lost
    put kept =
        joins_again granted failed d' s own (stream ++ put_there own initialization_complete) answered lost
        (hears_going d d' s own stream (stream ++ put_there own initialization_complete) step goes (put_none_gone own stream initialization_complete (inr refl) goes.none_gone)) there
        (record {
          ask = ask;
          has = asked_put s own stream initialization_complete ask (inr refl) refl has;
          where_is = inl (parts, inl (coming (none_shake d'.kept kept) (none_apart d'.kept kept)));
        })

    keeps' : d'.kept ≡ Some (keeps.Reply initialization_complete) → StandsOver granted failed d' s own stream answered lost
    keeps' kept =
        joins_again granted failed d' s own stream answered lost (hears_going d d' s own stream stream step goes goes.none_gone) there
        (record { ask = ask; has = has; where_is = inl (parts, inl (coming (complete_shake d'.kept kept) (complete_apart d'.kept kept))) })

    none : d'.kept ≡ None → StandsOver granted failed d' s own stream answered lost
    none kept =
        joins_again granted failed d' s own stream answered lost (hears_going d d' s own stream stream step goes goes.none_gone) there
        (record { ask = ask; has = has; where_is = inl (parts, inl (coming (none_shake d'.kept kept) (none_apart d'.kept kept))) })
