-- A server unit whose session was over begins another: its client is yet to hear of that, or both begin anew.
use Rattle.std.proofs.Common.{◌≡◌, ◌≢◌, ◌∙◌, ◌⊎◌, inl, inr, ℕ, ◌++◌, All, Bool, true, false, cond, List, [], ◌∷◌, Option, Some, None, append-nil, append_assoc, refl, sym, ap, subst}
use Rattle.std.proofs.lemmas.List.Elements.{All-cons, All-head, All-nil, All-tail}
use Rattle.crq_ring.specs.declared.rows.PipeRow.{PipeRow}
use Rattle.crq_session.specs.EndState.{EndState}
use Rattle.crq_session.specs.declared.handshake.Handshake.TheVariants.{Down}
use Rattle.vio_num.specs.Entry.{initialize, partner_freed}
use Rattle.vio_num.specs.declared.entry.Entry.{Entry}
use Rattle.block_server.specs.Closings.{is_event}
use Rattle.block_server.specs.Doings.{Doing, OpensLine, event_put, rows_to}
use Rattle.block_server.specs.declared.line.Kept.TheVariants as keeps
use Rattle.vscsi_client.specs.State.{ClientState}
use Rattle.vcpu_run.specs.OwnOver.{AreShakes, IsAware, IsFresh, IsIdle, IsNew, IsShake, IsShut, KeepsShake, WillHear, behind_gone, tells_gone}
use Rattle.vcpu_run.specs.PlainTalk.{Ask}
use Rattle.vcpu_run.proofs.OverAnew.{IsPlainNews, LeadsOn, anew_away, fresh_keeps, fresh_put, not_both, rows_if, rows_more, shake_news, unheard_keeps, unheard_put, waits_up}
use Rattle.vcpu_run.proofs.OverLists.{behind_event, gone_event, gone_other}
use Rattle.vcpu_run.proofs.OverPhases.{IsGoing, StandsOver, anew_again, idle_aside}
use Rattle.vcpu_run.proofs.OverShut.{event_news}

-- ---- what the client hears

-- The client is yet to look at an event, behind which nothing stands; or it has registered its queue since, and no event was kept.
abbrev HearsThen : ClientState → (stream : List Entry) → Option Entry → Type 0
HearsThen s stream event = ((tells_gone (stream ++ event_put true event) ≡ true) × (behind_gone (stream ++ event_put true event) ≡ [])) ⊎ (IsFresh s stream × (event ≡ None))

hears_freed : (s : ClientState) (stream : List Entry) (event : Option Entry) → event ≡ Some partner_freed → HearsThen s stream event
hears_freed s stream event some =
    subst (HearsThen s stream) (sym some) (inl (gone_event stream partner_freed refl, behind_event stream partner_freed refl))

hears_none : (s : ClientState) (stream : List Entry) (event : Option Entry) → event ≡ None → tells_gone stream ≡ true → behind_gone stream ≡ [] → HearsThen s stream event
hears_none s stream event none gone behind =
    subst (HearsThen s stream) (sym none) (inl (subst (λ (list : List Entry). (tells_gone list ≡ true) × (behind_gone list ≡ [])) (sym (append-nil stream)) (gone, behind)))

hears_then : (d : Doing) (s : ClientState) (own : EndState) (stream : List Entry) → own.registered ≡ true → (d.event ≡ None) ⊎ (d.event ≡ Some partner_freed) → WillHear d s own stream
    → HearsThen s stream d.event
hears_then d s own stream there (inr some) will = hears_freed s stream d.event some
hears_then d s own stream there (inl none) (inl away) = absurd (not_both own.registered there away)
hears_then d s own stream there (inl none) (inr (inl heard)) = hears_none s stream d.event none heard.0 heard.1
hears_then d s own stream there (inl none) (inr (inr (inl some))) = hears_freed s stream d.event some
hears_then d s own stream there (inl none) (inr (inr (inr fresh))) = inr (fresh, none)

-- ---- what was put

-- the event, and behind it Initialize
all_put : (d d' : Doing) → d'.sent ≡ (d.sent ++ rows_to d.to (event_put d.partner d.event)) ++ cond d'.reaches (rows_to d.to (initialize ∷ [])) []
    → d'.sent ≡ d.sent ++ rows_to d.to (event_put d.partner d.event ++ cond d'.reaches (initialize ∷ []) [])
all_put d d' put =
    put ∙ ap (λ (rows : List PipeRow). (d.sent ++ rows_to d.to (event_put d.partner d.event)) ++ rows) (rows_if d'.reaches d.to (initialize ∷ []))
    ∙ append_assoc d.sent (rows_to d.to (event_put d.partner d.event)) (rows_to d.to (cond d'.reaches (initialize ∷ []) []))
    ∙ ap (λ (rows : List PipeRow). d.sent ++ rows) (sym (rows_more d.to (event_put d.partner d.event) (cond d'.reaches (initialize ∷ []) [])))

all_news : (xs ys : List Entry) → All IsPlainNews xs → All IsPlainNews ys → All IsPlainNews (xs ++ ys)
all_news [] ys first rest = rest
all_news (x ∷ xs) ys first rest = All-cons IsPlainNews x (xs ++ ys) (All-head IsPlainNews x xs first) (all_news xs ys (All-tail IsPlainNews x xs first) rest)

begins_news : (b : Bool) → All IsPlainNews (cond b (initialize ∷ []) [])
begins_news true = All-cons IsPlainNews initialize [] (shake_news initialize (inl refl)) (All-nil IsPlainNews)
begins_news false = All-nil IsPlainNews

-- ---- where it leads

new_line : (d d' : Doing) → OpensLine d d' → IsIdle d → KeepsShake d'.kept → IsNew d'
new_line d d' opens idle kept = record { going = opens.ended; waiting = opens.handshake; idle = idle_aside d d' opens.aside idle; kept = kept; event = opens.event }

opens_going : (d d' : Doing) (s : ClientState) (own : EndState) (stream : List Entry) → OpensLine d d' → (own.registered ≡ true → tells_gone stream ≡ false) → (own.registered ≡ true → IsAware s)
    → IsGoing d' s own stream
opens_going d d' s own stream opens gone aware =
    record { going = opens.ended; event = opens.event; open_is = waits_up d'.handshake opens.handshake; none_gone = gone; aware = aware }

-- the client's queue is not registered
opens_away : (granted : ℕ) (failed : Bool) (d d' : Doing) (s : ClientState) (own : EndState) (stream : List Entry) (answered lost : List Ask) → OpensLine d d' → IsIdle d → own.registered ≡ false
    → d'.kept ≡ None → StandsOver granted failed d' s own stream answered lost
opens_away granted failed d d' s own stream answered lost opens idle away kept =
    anew_again granted failed d' s own stream answered lost
    (opens_going d d' s own stream opens (λ there. absurd (not_both own.registered there away)) (λ there. absurd (not_both own.registered there away)))
    (anew_away d' s own stream away (idle_aside d d' opens.aside idle) (subst KeepsShake (sym kept) tt)
    (subst AreShakes (sym opens.coming) (All-nil (λ (entry : Entry). IsShake entry ⊎ (is_event entry ≡ true)))))

fresh_none_gone : (s : ClientState) (stream : List Entry) → IsFresh s stream → tells_gone stream ≡ false
fresh_none_gone s stream fresh = ap tells_gone fresh.none

-- Initialize was put
opens_put : (granted : ℕ) (failed : Bool) (d d' : Doing) (s : ClientState) (own : EndState) (stream : List Entry) (answered lost : List Ask) → OpensLine d d' → IsIdle d → own.registered ≡ true
    → d'.kept ≡ None → HearsThen s stream d.event → StandsOver granted failed d' s own ((stream ++ event_put true d.event) ++ initialize ∷ []) answered lost
opens_put granted failed d d' s own stream answered lost opens idle there kept (inl heard) =
    inr (inr (inl (unheard_put d' own (stream ++ event_put true d.event) (new_line d d' opens idle (subst KeepsShake (sym kept) tt)) there heard.0 opens.coming kept)))
opens_put granted failed d d' s own stream answered lost opens idle there kept (inr (fresh, none)) =
    subst (λ (list : List Entry). StandsOver granted failed d' s own (list ++ initialize ∷ []) answered lost)
    (sym (ap (λ (e : Option Entry). stream ++ event_put true e) none ∙ append-nil stream))
    (anew_again granted failed d' s own (stream ++ initialize ∷ []) answered lost
    (opens_going d d' s own (stream ++ initialize ∷ []) opens (λ is. gone_other stream initialize refl ∙ fresh_none_gone s stream fresh) (λ is. fresh.aware))
    (fresh_put d' s own stream fresh (idle_aside d d' opens.aside idle) kept opens.coming))

-- Initialize is kept
opens_keeps : (granted : ℕ) (failed : Bool) (d d' : Doing) (s : ClientState) (own : EndState) (stream : List Entry) (answered lost : List Ask) → OpensLine d d' → IsIdle d → own.registered ≡ true
    → d'.kept ≡ Some (keeps.Reply initialize) → HearsThen s stream d.event → StandsOver granted failed d' s own (stream ++ event_put true d.event) answered lost
opens_keeps granted failed d d' s own stream answered lost opens idle there kept (inl heard) =
    inr (inr (inl (unheard_keeps d' own (stream ++ event_put true d.event) (new_line d d' opens idle (subst KeepsShake (sym kept) (inl refl))) there heard.0 heard.1 opens.coming kept)))
opens_keeps granted failed d d' s own stream answered lost opens idle there kept (inr (fresh, none)) =
    subst (λ (list : List Entry). StandsOver granted failed d' s own list answered lost) (sym (ap (λ (e : Option Entry). stream ++ event_put true e) none ∙ append-nil stream))
    (anew_again granted failed d' s own stream answered lost (opens_going d d' s own stream opens (λ is. fresh_none_gone s stream fresh) (λ is. fresh.aware))
    (fresh_keeps d' s own stream fresh (idle_aside d d' opens.aside idle) kept opens.coming))

-- ---- the step

pub shut_opens : (granted : ℕ) (failed : Bool) (d d' : Doing) (s : ClientState) (own : EndState) (stream : List Entry) (answered lost : List Ask) → d.partner ≡ own.registered → OpensLine d d'
    → IsShut d s own stream → LeadsOn granted failed d d' s own stream answered lost
shut_opens granted failed d d' s own stream answered lost partner opens is = by opens.sent
  where
    ev : List Entry
    ev = event_put d.partner d.event

    reached : d'.reaches ≡ own.registered
    reached = opens.reached ∙ opens.stays.partner ∙ partner

    news : All IsPlainNews ev
    news = event_news d.partner d.event is.event

    -- it will hear, since the unit's queue was free
    hears : own.registered ≡ true → HearsThen s stream d.event
    hears there = so is.told
      where
        so : (d.handshake ≢ Down) ⊎ WillHear d s own stream → HearsThen s stream d.event
        so (inl up) = absurd (up opens.was)
        so (inr will) = hears_then d s own stream there is.event will

    put : d'.kept ≡ None → (b : Bool) → own.registered ≡ b → StandsOver granted failed d' s own (stream ++ (ev ++ cond d'.reaches (initialize ∷ []) [])) answered lost
    put kept false away = opens_away granted failed d d' s own (stream ++ (ev ++ cond d'.reaches (initialize ∷ []) [])) answered lost opens is.idle away kept
    put kept true there =
        subst (λ (list : List Entry). StandsOver granted failed d' s own list answered lost)
        (append_assoc stream (event_put true d.event) (initialize ∷ [])
        ∙ ap (λ (b : Bool). stream ++ (event_put b d.event ++ initialize ∷ [])) (sym (partner ∙ there))
        ∙ ap (λ (b : Bool). stream ++ (ev ++ cond b (initialize ∷ []) [])) (sym (reached ∙ there)))
        (opens_put granted failed d d' s own stream answered lost opens is.idle there kept (hears there))

    by : ((d'.sent ≡ (d.sent ++ rows_to d.to ev) ++ cond d'.reaches (rows_to d.to (initialize ∷ [])) []) × (d'.kept ≡ d.kept))
        ⊎ ((d'.reaches ≡ true) × (d'.sent ≡ d.sent ++ rows_to d.to ev) × (d'.kept ≡ Some (keeps.Reply initialize)))
        → LeadsOn granted failed d d' s own stream answered lost
    by (inl (sent, kept)) = record {
      more = ev ++ cond d'.reaches (initialize ∷ []) [];
      put = all_put d d' sent;
      news = all_news ev (cond d'.reaches (initialize ∷ []) []) news (begins_news d'.reaches);
      stands = put (kept ∙ is.kept) own.registered refl;
    }
    by (inr (up, sent, kept)) = record {
      more = ev;
      put = sent;
      news = news;
      stands = subst (λ (b : Bool). StandsOver granted failed d' s own (stream ++ event_put b d.event) answered lost) (sym (partner ∙ there))
          (opens_keeps granted failed d d' s own stream answered lost opens is.idle there kept (hears there));
    }
      where
        there : own.registered ≡ true
        there = sym reached ∙ up
