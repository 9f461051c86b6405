-- A login ends by its answer beside a server unit whose session is over, or was: where both stand then.
use Rattle.std.proofs.Common.{◌≡◌, ◌≢◌, ◌∙◌, ◌⊎◌, inl, inr, ℕ, ◌++◌, Bool, true, false, true≢false, cond, List, [], ◌∷◌, Some, None, append-nil, refl, sym, ap, subst}
use Rattle.vio_num.specs.Entry.{initialize, is_srp_entry}
use Rattle.vio_num.specs.declared.entry.Entry.{Entry}
use Rattle.crq_session.specs.EndState.{EndState}
use Rattle.crq_session.specs.declared.handshake.Handshake.TheVariants.{Down}
use Rattle.tce_window.specs.PortState.{PortState}
use Rattle.block_server.specs.Closings.{is_event}
use Rattle.block_server.specs.Doings.{Doing}
use Rattle.block_server.specs.declared.line.Kept.TheVariants as keeps
use Rattle.vscsi_client.specs.State.{ClientState}
use Rattle.vscsi_client.specs.Turned.{SameHands, Site}
use Rattle.vscsi_client.specs.declared.stage.Stage.{Stage}
use Rattle.vscsi_client.specs.declared.stage.Stage.TheVariants.{Idle, Sent, Written}
use Rattle.vcpu_run.specs.OwnOver.{EndsEarly, HasAsked, HasEntry, IsAnew, IsGranted, IsIdle, IsNew, IsShut, IsStale, IsUnanswered, IsUnheard, Joins, Rejoins, WillHear, answers_among, behind_gone, tells_gone, under_way}
use Rattle.vcpu_run.specs.PlainTalk.{Ask, IsOwnWindow, TookNoMore, has_login, is_login, name_of}
use Rattle.vcpu_run.proofs.RejoinPhases.{IsAskedFor, PhaseOver, off_on}
use Rattle.vcpu_run.proofs.RejoinShakes.{some_stream}
use Rattle.vcpu_run.proofs.RejoinSteps.{NextIn, StandsIn, StepsTo, step_put, took_most}
use Rattle.vcpu_run.proofs.OwnStreams.{AreSrp, answers_srp, behind_kept, behind_more, gone_kept, gone_other}
use Rattle.vcpu_run.proofs.PlainEnds.{has_login_mid}

-- ---- a step that leaves the ends, and of the window all that stands in it

abbrev pub with_window : PortState → Doing → Doing
with_window window d = record d { client = window }

pub ends_still : (promised later : Bool) (granted : ℕ) (d : Doing) (a b : Site) → StandsIn promised granted d a → SameHands a b → b.at.crq ≡ a.at.crq → IsOwnWindow b.at.own
    → NextIn later granted (with_window b.at.own d) b.client a.at.crq → StepsTo later granted d a b
ends_still promised later granted d a b stands hands end usable next =
    step_put promised later granted d (with_window b.at.own d) a b [] stands hands (ap (λ (e : EndState). e.place) end) (ap (λ (e : EndState). e.last_session) end)
    (ap (λ (e : EndState). e.registered) end) (ap (λ (e : EndState). e.kept) end) (ap (λ (e : EndState). e.counts.partner_session) end)
    (ap (λ (e : EndState). e.sent) end ∙ sym (append-nil a.at.crq.sent)) (inl refl) (subst TookNoMore (sym end) (took_most promised granted d a stands)) usable
    (ap (λ (coming : List Entry). record d { coming = coming; client = b.at.own }) (sym (append-nil d.coming)))
    (subst (NextIn later granted (with_window b.at.own d) b.client) (sym end) next)

-- ---- streams without an answer

-- what tells that the unit is gone, and what stands behind that, as an answer before it is gone, and those that were kept, or not
gone_left : (kept kept' : List Entry) (entry : Entry) (rest : List Entry) → AreSrp kept → AreSrp kept' → is_event entry ≡ false → tells_gone (kept' ++ rest) ≡ tells_gone (kept ++ entry ∷ rest)
gone_left kept kept' entry rest are are' isnt = gone_kept kept' rest are' ∙ sym (gone_other entry rest isnt) ∙ sym (gone_kept kept (entry ∷ rest) are)

behind_left : (kept kept' : List Entry) (entry : Entry) (rest : List Entry) → AreSrp kept → AreSrp kept' → is_event entry ≡ false → tells_gone (kept ++ entry ∷ rest) ≡ true
    → behind_gone (kept' ++ rest) ≡ behind_gone (kept ++ entry ∷ rest)
behind_left kept kept' entry rest are are' isnt gone =
    behind_kept kept' rest are' more ∙ sym (behind_more entry rest more) ∙ sym (behind_kept kept (entry ∷ rest) are (gone_other entry rest isnt ∙ more))
  where
    more : tells_gone rest ≡ true
    more = sym (gone_other entry rest isnt) ∙ sym (gone_kept kept (entry ∷ rest) are) ∙ gone

-- ---- where both stand

idle_window : (d : Doing) (window : PortState) → IsIdle d → IsIdle (with_window window d)
idle_window d window idle = record { current = idle.current; pending = idle.pending; stage = idle.stage }

new_window : (d : Doing) (window : PortState) → IsNew d → IsNew (with_window window d)
new_window d window new = record { going = new.going; waiting = new.waiting; idle = idle_window d window new.idle; kept = new.kept; event = new.event }

early_window : (d : Doing) (window : PortState) → EndsEarly d → EndsEarly (with_window window d)
early_window d window early = record { entry = early.entry; more = early.more; coming = early.coming; srp = early.srp }

pub stale_window : (d : Doing) (window : PortState) → IsStale d → IsStale (with_window window d)
stale_window d window stale = record { new = new_window d window stale.new; early = early_window d window stale.early }

-- Where the session goes on no more, or the client does not know of that, they stand as before, and no login is on.
pub record StillEarly (granted : ℕ) (d : Doing) (s : ClientState) (own : EndState) (stream : List Entry) : Type 0 where
  pub current : d.logins.current ≡ 0
  pub phase : (answered lost : List Ask) → PhaseOver granted d s own stream answered lost

ended_shut : (d : Doing) (window : PortState) (s s' : ClientState) (own : EndState) (kept kept' : List Entry) (entry : Entry) (rest : List Entry) → own.registered ≡ true → AreSrp kept
    → AreSrp kept' → is_event entry ≡ false → IsShut d s own (kept ++ entry ∷ rest) → IsShut (with_window window d) s' own (kept' ++ rest)
ended_shut d window s s' own kept kept' entry rest there are are' isnt shut = record {
  over = shut.over;
  idle = idle_window d window shut.idle;
  kept = shut.kept;
  event = shut.event;
  told = by shut.told;
}
  where
    by : (d.handshake ≢ Down) ⊎ WillHear d s own (kept ++ entry ∷ rest) → (d.handshake ≢ Down) ⊎ WillHear (with_window window d) s' own (kept' ++ rest)
    by (inl up) = inl up
    by (inr (inl off)) = absurd (off_on own there off)
    by (inr (inr (inl (gone, behind)))) =
        inr (inr (inl (gone_left kept kept' entry rest are are' isnt ∙ gone, behind_left kept kept' entry rest are are' isnt gone ∙ behind)))
    by (inr (inr (inr (inl event)))) = inr (inr (inr (inl event)))
    by (inr (inr (inr (inr fresh)))) = absurd (some_stream kept entry rest fresh.none)

ended_unheard : (d : Doing) (window : PortState) (own : EndState) (kept kept' : List Entry) (entry : Entry) (rest : List Entry) → AreSrp kept → AreSrp kept' → is_event entry ≡ false
    → IsUnheard d own (kept ++ entry ∷ rest) → IsUnheard (with_window window d) own (kept' ++ rest)
ended_unheard d window own kept kept' entry rest are are' isnt un = record {
  new = new_window d window un.new;
  registered = un.registered;
  gone = gone_left kept kept' entry rest are are' isnt ∙ un.gone;
  queue = queue un.queue;
  begins = by un.begins;
}
  where
    same : behind_gone (kept ++ entry ∷ rest) ≡ behind_gone (kept' ++ rest)
    same = sym (behind_left kept kept' entry rest are are' isnt un.gone)

    queue : (d.coming ≡ []) ⊎ EndsEarly d → (d.coming ≡ []) ⊎ EndsEarly (with_window window d)
    queue (inl none) = inl none
    queue (inr early) = inr (early_window d window early)

    by : (HasEntry initialize (behind_gone (kept ++ entry ∷ rest)) × (d.kept ≡ None)) ⊎ ((behind_gone (kept ++ entry ∷ rest) ≡ []) × (d.kept ≡ Some (keeps.Reply initialize)))
        → (HasEntry initialize (behind_gone (kept' ++ rest)) × (d.kept ≡ None)) ⊎ ((behind_gone (kept' ++ rest) ≡ []) × (d.kept ≡ Some (keeps.Reply initialize)))
    by (inl (has, none)) = inl (subst (HasEntry initialize) same has, none)
    by (inr (none, kept'')) = inr (sym same ∙ none, kept'')

pub ended_phase : (granted : ℕ) (d : Doing) (window : PortState) (s s' : ClientState) (own : EndState) (kept kept' : List Entry) (entry : Entry) (rest : List Entry) (answered lost : List Ask)
    → own.registered ≡ true → AreSrp kept → AreSrp kept' → is_event entry ≡ false → PhaseOver granted d s own (kept ++ entry ∷ rest) answered lost
    → StillEarly granted (with_window window d) s' own (kept' ++ rest) ⊎ Rejoins granted false d s own (kept ++ entry ∷ rest) answered lost
ended_phase granted d window s s' own kept kept' entry rest answered lost there are are' isnt (inl shut) =
    inl (record { current = shut.idle.current; phase = λ asked gone. inl (ended_shut d window s s' own kept kept' entry rest there are are' isnt shut) })
ended_phase granted d window s s' own kept kept' entry rest answered lost there are are' isnt (inr (inl stale)) =
    inl (record { current = stale.new.idle.current; phase = λ asked gone. inr (inl (stale_window d window stale)) })
ended_phase granted d window s s' own kept kept' entry rest answered lost there are are' isnt (inr (inr (inl un))) =
    inl (record { current = un.new.idle.current; phase = λ asked gone. inr (inr (inl (ended_unheard d window own kept kept' entry rest are are' isnt un))) })
ended_phase granted d window s s' own kept kept' entry rest answered lost there are are' isnt (inr (inr (inr joins))) = inr joins

-- ---- where both rejoin

-- A login that has its answer, where both rejoin, was granted.
pub record HasGrant (d : Doing) (s : ClientState) (own : EndState) (stream : List Entry) : Type 0 where
  pub ask : Ask
  pub has : HasAsked s own stream ask
  pub is : IsGranted d s own stream

pub joins_grant : (granted : ℕ) (d : Doing) (s : ClientState) (own : EndState) (stream : List Entry) (answered lost front : List Ask) (ask : Ask) → own.registered ≡ true
    → Rejoins granted false d s own stream answered lost → answered ≡ front ++ ask ∷ [] → is_login ask.iu ≡ true → under_way s.login ≡ name_of ask ∷ [] → IsUnanswered s.login answered
    → HasGrant d s own stream
joins_grant granted d s own stream answered lost front ask there joins are login named unanswered = by joins.how
  where
    has : has_login answered ≡ true
    has = ap has_login are ∙ has_login_mid front ask [] login

    no_stage : IsAnew d s own stream → (stage : Stage) → s.login ≡ stage → HasGrant d s own stream
    no_stage anew Idle is = absurd (no_name (sym (ap under_way is) ∙ named))
      where
        no_name : [] ≡ name_of ask ∷ [] → ⊥
        no_name e = cc (e)
    no_stage anew (Written tag slot) is = absurd (true≢false (sym has ∙ subst (λ (login : Stage). IsUnanswered login answered) is unanswered))
    no_stage anew (Sent tag slot) is = absurd (anew.unsent there tag slot is)

    no_front : (xs : List Ask) → xs ++ ask ∷ [] ≡ [] → ⊥
    no_front [] e = cc (e)
    no_front (x ∷ xs) e = cc (e)

    at : (asked : Joins granted d s own stream answered lost)
        → (((answered ≡ []) × (lost ≡ asked.ask ∷ [])) × IsAskedFor granted d own asked.ask) ⊎ (((answered ≡ asked.ask ∷ []) × (lost ≡ [])) × IsGranted d s own stream)
        → HasGrant d s own stream
    at asked (inl (lists, comes)) = absurd (no_front front (sym are ∙ lists.0))
    at asked (inr (lists, is)) = record { ask = asked.ask; has = asked.has; is = is }

    by : IsAnew d s own stream ⊎ Joins granted d s own stream answered lost → HasGrant d s own stream
    by (inl anew) = no_stage anew s.login refl
    by (inr asked) = at asked asked.where_is

-- nothing is to come behind its answer
pub last_none : (entry : Entry) (rest front : List Entry) (last : Entry) → answers_among rest ≡ [] → is_srp_entry last ≡ true → entry ∷ rest ≡ front ++ last ∷ [] → rest ≡ []
last_none entry rest [] last none srp is = tails entry last rest [] is
  where
    tails : (x y : Entry) (xs ys : List Entry) → x ∷ xs ≡ y ∷ ys → xs ≡ ys
    tails x y xs ys e = cc (e)
last_none entry rest (first ∷ front) last none srp is = absurd (some front (sym (ap answers_among (tails entry first rest (front ++ last ∷ []) is)) ∙ none))
  where
    tails : (x y : Entry) (xs ys : List Entry) → x ∷ xs ≡ y ∷ ys → xs ≡ ys
    tails x y xs ys e = cc (e)

    no_items : (x : Entry) (xs : List Entry) → x ∷ xs ≡ [] → ⊥
    no_items x xs e = cc (e)

    step : (xs : List Entry) (x : Entry) (b : Bool) → (answers_among (xs ++ last ∷ []) ≡ [] → ⊥) → cond b (x ∷ answers_among (xs ++ last ∷ [])) (answers_among (xs ++ last ∷ [])) ≡ [] → ⊥
    step xs x true more e = cc (e)
    step xs x false more e = more e

    some : (xs : List Entry) → answers_among (xs ++ last ∷ []) ≡ [] → ⊥
    some [] e = no_items last [] (sym (answers_srp last [] srp) ∙ e)
    some (x ∷ xs) e = step xs x (is_srp_entry x) (some xs) e
