-- Where the session of a server unit is over: each step of the unit, up to that which begins another.
use Rattle.std.proofs.Common.{◌≡◌, ◌≢◌, ◌∙◌, ◌⊎◌, inl, inr, ℕ, ◌++◌, All, Bool, true, false, cond, List, [], ◌∷◌, Option, Some, None, append-nil, refl, sym, ap, subst}
use Rattle.std.proofs.lemmas.List.Elements.{All-cons, All-nil}
use Rattle.crq_session.specs.EndState.{EndState}
use Rattle.crq_session.specs.declared.handshake.Handshake.{Handshake}
use Rattle.crq_session.specs.declared.handshake.Handshake.TheVariants.{Down, Up, Waiting}
use Rattle.vio_num.specs.Entry.{entry_format, first_byte, kind_of, partner_freed}
use Rattle.vio_num.specs.declared.entry.Entry.{Entry}
use Rattle.block_server.specs.Doings.{Doing, DropsAll, FreesLine, IsLostBy, PassesEntry, SettlesEvent, TellsNobody, TellsPartner, event_put, rows_to}
use Rattle.vscsi_client.specs.State.{ClientState}
use Rattle.vcpu_run.specs.OwnOver.{IsIdle, IsShut, WillHear, behind_gone, tells_gone}
use Rattle.vcpu_run.specs.PlainTalk.{Ask}
use Rattle.vcpu_run.proofs.OverAnew.{IsPlainNews, LeadsOn, leads_none, never_down}
use Rattle.vcpu_run.proofs.OverLists.{behind_event, gone_event}
use Rattle.vcpu_run.proofs.OverPhases.{idle_aside, told_as}

freed_news : IsPlainNews partner_freed
freed_news = (refl, inr refl)

-- ---- the event is put, or lost

-- what is put of it is news
pub event_news : (partner : Bool) (event : Option Entry) → (event ≡ None) ⊎ (event ≡ Some partner_freed) → All IsPlainNews (event_put partner event)
event_news partner event (inl none) = subst (λ (e : Option Entry). All IsPlainNews (event_put partner e)) (sym none) (All-nil IsPlainNews)
event_news partner event (inr some) = subst (λ (e : Option Entry). All IsPlainNews (event_put partner e)) (sym some) (by partner)
  where
    by : (b : Bool) → All IsPlainNews (cond b (partner_freed ∷ []) [])
    by true = All-cons IsPlainNews partner_freed [] freed_news (All-nil IsPlainNews)
    by false = All-nil IsPlainNews

-- the client hears of it, or has no queue
heard_of : (partner : Bool) (stream : List Entry) → (partner ≡ false) ⊎ ((tells_gone (stream ++ event_put partner (Some partner_freed)) ≡ true) × (behind_gone (stream ++ event_put partner (Some partner_freed)) ≡ []))
heard_of true stream = inr (gone_event stream partner_freed refl, behind_event stream partner_freed refl)
heard_of false stream = inl refl

pub shut_settles : (granted : ℕ) (failed : Bool) (d d' : Doing) (s : ClientState) (own : EndState) (stream : List Entry) (answered lost : List Ask) → d.partner ≡ own.registered → SettlesEvent d d'
    → IsShut d s own stream → LeadsOn granted failed d d' s own stream answered lost
shut_settles granted failed d d' s own stream answered lost partner step is = record {
  more = event_put d.partner d.event;
  put = step.sent;
  news = event_news d.partner d.event is.event;
  stands = inl (record {
    over = step.ended ∙ is.over;
    idle = idle_aside d d' step.aside is.idle;
    kept = step.kept ∙ is.kept;
    event = inl step.event;
    told = by is.event;
  });
}
  where
    by : (d.event ≡ None) ⊎ (d.event ≡ Some partner_freed) → (d'.handshake ≢ Down) ⊎ WillHear d' s own (stream ++ event_put d.partner d.event)
    by (inl none) = subst (λ (list : List Entry). (d'.handshake ≢ Down) ⊎ WillHear d' s own list)
        (sym (ap (λ (e : Option Entry). stream ++ event_put d.partner e) none ∙ append-nil stream))
        (told_as d d' s own stream step.handshake (step.event ∙ sym none) is.told)
    by (inr some) = subst (λ (e : Option Entry). (d'.handshake ≢ Down) ⊎ WillHear d' s own (stream ++ event_put d.partner e)) (sym some) (so (heard_of d.partner stream))
      where
        so : (d.partner ≡ false) ⊎ ((tells_gone (stream ++ event_put d.partner (Some partner_freed)) ≡ true) × (behind_gone (stream ++ event_put d.partner (Some partner_freed)) ≡ []))
            → (d'.handshake ≢ Down) ⊎ WillHear d' s own (stream ++ event_put d.partner (Some partner_freed))
        so (inl away) = inr (inl (sym partner ∙ away))
        so (inr heard) = inr (inr (inl heard))

-- ---- the queue is freed

-- what is told where both queues were registered, and where one was not
frees_told : (granted : ℕ) (failed : Bool) (d d' : Doing) (s : ClientState) (own : EndState) (stream : List Entry) (answered lost : List Ask) → FreesLine d d' → TellsPartner d d'
    → IsShut d s own stream → LeadsOn granted failed d d' s own stream answered lost
frees_told granted failed d d' s own stream answered lost step tells is = by tells.told
  where
    by : ((d'.sent ≡ d.sent ++ rows_to d.to (partner_freed ∷ [])) × (d'.event ≡ None)) ⊎ ((d'.sent ≡ d.sent) × (d'.event ≡ Some partner_freed))
        → LeadsOn granted failed d d' s own stream answered lost
    by (inl (put, none)) = record {
      more = partner_freed ∷ [];
      put = put;
      news = All-cons IsPlainNews partner_freed [] freed_news (All-nil IsPlainNews);
      stands = inl (record {
        over = step.ended;
        idle = idle_aside d d' step.aside is.idle;
        kept = step.kept ∙ is.kept;
        event = inl none;
        told = inr (inr (inl (gone_event stream partner_freed refl, behind_event stream partner_freed refl)));
      });
    }
    by (inr (same, some)) =
        leads_none granted failed d d' s own stream answered lost same
        (inl (record {
          over = step.ended;
          idle = idle_aside d d' step.aside is.idle;
          kept = step.kept ∙ is.kept;
          event = inr some;
          told = inr (inr (inr (inl some)));
        }))

frees_untold : (granted : ℕ) (failed : Bool) (d d' : Doing) (s : ClientState) (own : EndState) (stream : List Entry) (answered lost : List Ask) → d.partner ≡ own.registered
    → (d.handshake ≢ Down → d.reaches ≡ own.registered) → FreesLine d d' → TellsNobody d d' → IsShut d s own stream → LeadsOn granted failed d d' s own stream answered lost
frees_untold granted failed d d' s own stream answered lost partner reached step tells is =
    leads_none granted failed d d' s own stream answered lost tells.sent
    (inl (record {
      over = step.ended;
      idle = idle_aside d d' step.aside is.idle;
      kept = step.kept ∙ is.kept;
      event = event tells.event is.event;
      told = inr (hears d.handshake refl);
    }))
  where
    event : (d'.event ≡ d.event) ⊎ ((d.partner ≡ false) × (d'.event ≡ None)) → (d.event ≡ None) ⊎ (d.event ≡ Some partner_freed) → (d'.event ≡ None) ⊎ (d'.event ≡ Some partner_freed)
    event (inl same) (inl none) = inl (same ∙ none)
    event (inl same) (inr some) = inr (same ∙ some)
    event (inr none) was = inl none.1

    -- the client's queue is not registered, or it was so before
    away : d.handshake ≢ Down → WillHear d' s own stream
    away up = inl (sym (reached up) ∙ tells.reaches)

    before : WillHear d s own stream → (d'.event ≡ d.event) ⊎ ((d.partner ≡ false) × (d'.event ≡ None)) → WillHear d' s own stream
    before will (inr none) = inl (sym partner ∙ none.0)
    before (inl none) (inl same) = inl none
    before (inr (inl heard)) (inl same) = inr (inl heard)
    before (inr (inr (inl some))) (inl same) = inr (inr (inl (same ∙ some)))
    before (inr (inr (inr fresh))) (inl same) = inr (inr (inr fresh))

    down : d.handshake ≡ Down → (d.handshake ≢ Down) ⊎ WillHear d s own stream → WillHear d' s own stream
    down is (inl up) = absurd (up is)
    down is (inr will) = before will tells.event

    hears : (h : Handshake) → d.handshake ≡ h → WillHear d' s own stream
    hears Down at = down at is.told
    hears Waiting at = away (λ is. waits_down d.handshake at is)
      where
        waits_down : (h : Handshake) → h ≡ Waiting → h ≡ Down → ⊥
        waits_down h is other = cc (is, other)
    hears Up at = away (λ is. up_down d.handshake at is)
      where
        up_down : (h : Handshake) → h ≡ Up → h ≡ Down → ⊥
        up_down h is other = cc (is, other)

pub shut_frees : (granted : ℕ) (failed : Bool) (d d' : Doing) (s : ClientState) (own : EndState) (stream : List Entry) (answered lost : List Ask) → d.partner ≡ own.registered
    → (d.handshake ≢ Down → d.reaches ≡ own.registered) → FreesLine d d' → IsShut d s own stream → LeadsOn granted failed d d' s own stream answered lost
shut_frees granted failed d d' s own stream answered lost partner reached step is = by step.tells
  where
    by : TellsPartner d d' ⊎ TellsNobody d d' → LeadsOn granted failed d d' s own stream answered lost
    by (inl tells) = frees_told granted failed d d' s own stream answered lost step tells is
    by (inr tells) = frees_untold granted failed d d' s own stream answered lost partner reached step tells is

-- ---- what is passed over, and what is dropped

pub shut_passes : (d d' : Doing) (s : ClientState) (own : EndState) (stream : List Entry) → PassesEntry d d' → IsShut d s own stream → IsShut d' s own stream
shut_passes d d' s own stream step is = record {
  over = step.line.ended ∙ is.over;
  idle = idle_aside d d' step.aside is.idle;
  kept = step.kept ∙ is.kept;
  event = subst (λ (e : Option Entry). (e ≡ None) ⊎ (e ≡ Some partner_freed)) (sym step.line.event) is.event;
  told = told_as d d' s own stream step.line.handshake step.line.event is.told;
}

-- nothing is in service where all was dropped
pub dropped_idle : (d d' : Doing) → DropsAll d d' → IsIdle d'
dropped_idle d d' step = record { current = step.current; pending = step.pending; stage = step.stage }

pub shut_drops : (d d' : Doing) (s : ClientState) (own : EndState) (stream : List Entry) → DropsAll d d' → IsShut d s own stream → IsShut d' s own stream
shut_drops d d' s own stream step is = record {
  over = over step.why;
  idle = dropped_idle d d' step;
  kept = step.kept;
  event = subst (λ (e : Option Entry). (e ≡ None) ⊎ (e ≡ Some partner_freed)) (sym step.event) is.event;
  told = told is.told;
}
  where
    over : IsLostBy d d' ⊎ ((d'.ended ≡ true) × (d'.handshake ≡ d.handshake) × ((d'.coming ≡ d.coming) ⊎ ((entry : Entry) × (d.coming ≡ entry ∷ d'.coming)))) → d'.ended ≡ true
    over (inl by) = by.ended ∙ is.over
    over (inr by) = by.0

    up : IsLostBy d d' ⊎ ((d'.ended ≡ true) × (d'.handshake ≡ d.handshake) × ((d'.coming ≡ d.coming) ⊎ ((entry : Entry) × (d.coming ≡ entry ∷ d'.coming))))
        → d.handshake ≢ Down → d'.handshake ≢ Down
    up (inl by) was down = never_down d.handshake (kind_of (first_byte by.entry)) (entry_format by.entry) was (sym by.handshake ∙ down)
    up (inr by) was down = was (sym by.1 ∙ down)

    told : (d.handshake ≢ Down) ⊎ WillHear d s own stream → (d'.handshake ≢ Down) ⊎ WillHear d' s own stream
    told (inl was) = inl (up step.why was)
    told (inr (inl none)) = inr (inl none)
    told (inr (inr (inl heard))) = inr (inr (inl heard))
    told (inr (inr (inr (inl some)))) = inr (inr (inr (inl (step.event ∙ some))))
    told (inr (inr (inr (inr fresh)))) = inr (inr (inr (inr fresh)))
