-- Where a server unit and its client stand whose session is over, or was: by phases, and what stays of each where the unit does nothing of it.
use Rattle.std.proofs.Common.{◌≡◌, ◌≢◌, ◌∙◌, ◌⊎◌, inl, inr, ℕ, Bool, true, false, List, [], ◌∷◌, Option, Some, None, length, sym, ap, subst}
use Rattle.std.proofs.lemmas.List.Elements.{All-cons, All-head, All-nil}
use Rattle.crq_session.specs.EndState.{EndState}
use Rattle.crq_session.specs.declared.handshake.Handshake.{Handshake}
use Rattle.crq_session.specs.declared.handshake.Handshake.TheVariants.{Down}
use Rattle.srp_iu.specs.declared.unit.Iu.{Iu}
use Rattle.tce_window.specs.PortState.{PortState}
use Rattle.vio_num.specs.Entry.{initialize, partner_freed}
use Rattle.vio_num.specs.declared.entry.Entry.{Entry}
use Rattle.vio_num.specs.declared.names.UnitId.{UnitId}
use Rattle.block_server.specs.Doings.{CallsOnly, Doing, StaysAside, entry_for}
use Rattle.block_server.specs.Granting.{LoginState}
use Rattle.block_server.specs.Standing.{IsAnswerTo}
use Rattle.block_server.specs.Talk.{StaysKnown, order_asked}
use Rattle.block_server.specs.declared.line.Kept.{Kept}
use Rattle.block_server.specs.declared.line.Kept.TheVariants as keeps
use Rattle.block_server.specs.declared.service.Outcome.{Outcome}
use Rattle.vscsi_client.specs.State.{ClientState}
use Rattle.vscsi_client.specs.Units.{slot_address}
use Rattle.vcpu_run.specs.OwnOver.{AreShakes, EndsEarly, HasEntry, IsAnew, IsAware, IsComing, IsFresh, IsGranted, IsIdle, IsLogging, IsNew, IsPrepared, IsServing, IsShut, IsStale, IsTaken, IsUnheard, IsWritten, Joins, KeepsShake, Rejoins, StandsBehind, Stirs, WillHear, behind_gone, tells_gone}
use Rattle.vcpu_run.specs.PlainTalk.{AnswerStands, Ask, IsAnswerBy}
use Rattle.vcpu_run.proofs.OverMoves.{keeps_known, shows_known}
use Rattle.vcpu_run.proofs.PlainRejected.{says_move}

-- ---- the phases

abbrev pub StandsOver : (granted : ℕ) → (failed : Bool) → Doing → ClientState → EndState → (stream : List Entry) → (answered lost : List Ask) → Type 0
StandsOver granted failed d s own stream answered lost =
    IsShut d s own stream ⊎ (IsStale d ⊎ (IsUnheard d own stream ⊎ Rejoins granted failed d s own stream answered lost))

-- what is so where both begin anew, however far they have come
pub record IsGoing (d : Doing) (s : ClientState) (own : EndState) (stream : List Entry) : Type 0 where
  pub going : d.ended ≡ false
  pub event : d.event ≡ None
  pub open_is : d.handshake ≢ Down
  pub none_gone : own.registered ≡ true → tells_gone stream ≡ false
  pub aware : own.registered ≡ true → IsAware s

pub going_of : (granted : ℕ) (failed : Bool) (d : Doing) (s : ClientState) (own : EndState) (stream : List Entry) (answered lost : List Ask) → Rejoins granted failed d s own stream answered lost
    → IsGoing d s own stream
going_of granted failed d s own stream answered lost is =
    record { going = is.going; event = is.event; open_is = is.open_is; none_gone = is.none_gone; aware = is.aware }

-- no login was asked for, or one was
pub rejoins_by : {R : Type 0} (granted : ℕ) (failed : Bool) (d : Doing) (s : ClientState) (own : EndState) (stream : List Entry) (answered lost : List Ask) → (IsAnew d s own stream → R)
    → ((own.registered ≡ true) ⊎ (failed ≡ true) → Joins granted d s own stream answered lost → R) → Rejoins granted failed d s own stream answered lost → R
rejoins_by {R = R} granted failed d s own stream answered lost anew joins is = by is.there is.how
  where
    by : (own.registered ≡ true) ⊎ ((failed ≡ true) ⊎ IsAnew d s own stream) → IsAnew d s own stream ⊎ Joins granted d s own stream answered lost → R
    by there (inl how) = anew how
    by (inl there) (inr how) = joins (inl there) how
    by (inr (inl there)) (inr how) = joins (inr there) how
    by (inr (inr there)) (inr how) = anew there

pub anew_again : (granted : ℕ) (failed : Bool) (d : Doing) (s : ClientState) (own : EndState) (stream : List Entry) (answered lost : List Ask) → IsGoing d s own stream → IsAnew d s own stream
    → StandsOver granted failed d s own stream answered lost
anew_again granted failed d s own stream answered lost goes anew =
    inr (inr (inr (record {
      going = goes.going;
      event = goes.event;
      open_is = goes.open_is;
      none_gone = goes.none_gone;
      aware = goes.aware;
      there = inr (inr anew);
      how = inl anew;
    })))

pub joins_again : (granted : ℕ) (failed : Bool) (d : Doing) (s : ClientState) (own : EndState) (stream : List Entry) (answered lost : List Ask) → IsGoing d s own stream
    → (own.registered ≡ true) ⊎ (failed ≡ true) → Joins granted d s own stream answered lost → StandsOver granted failed d s own stream answered lost
joins_again granted failed d s own stream answered lost goes there joins =
    inr (inr (inr (record {
      going = goes.going;
      event = goes.event;
      open_is = goes.open_is;
      none_gone = goes.none_gone;
      aware = goes.aware;
      there = by there;
      how = inr joins;
    })))
  where
    by : (own.registered ≡ true) ⊎ (failed ≡ true) → (own.registered ≡ true) ⊎ ((failed ≡ true) ⊎ IsAnew d s own stream)
    by (inl is) = inl is
    by (inr is) = inr (inl is)

-- ---- what stays

pub idle_as : (d d' : Doing) → d'.logins.current ≡ d.logins.current → d'.pending ≡ d.pending → d'.stage ≡ d.stage → IsIdle d → IsIdle d'
idle_as d d' current pending stage idle = record { current = current ∙ idle.current; pending = pending ∙ idle.pending; stage = stage ∙ idle.stage }

pub idle_aside : (d d' : Doing) → StaysAside d d' → IsIdle d → IsIdle d'
idle_aside d d' aside idle = idle_as d d' (ap (λ (l : LoginState). l.current) aside.logins) aside.served.pending aside.served.stage idle

unfoldable pub serving_as : (d d' : Doing) (own : EndState) (ask : Ask) → d'.logins.current ≡ d.logins.current → d'.pending ≡ d.pending → d'.handshake ≡ d.handshake → StandsBehind own d'.coming
    → IsServing d own ask → IsServing d' own ask
serving_as d d' own ask current pending handshake queue serves = record {
  current = current ∙ serves.current;
  up = handshake ∙ serves.up;
  request = serves.request;
  pending = pending ∙ serves.pending;
  is = serves.is;
  queue = queue;
}

pub kept_as : (kept kept' : Option Kept) → kept' ≡ kept → KeepsShake kept → KeepsShake kept'
kept_as kept kept' same is = subst KeepsShake (sym same) is

pub queue_as : (own : EndState) (coming coming' : List Entry) → coming' ≡ coming → StandsBehind own coming → StandsBehind own coming'
queue_as own coming coming' same is = subst (StandsBehind own) (sym same) is

pub answer_known : (granted : ℕ) (who who' : UnitId) (old new : PortState) (ask : Ask) (long : ℕ) (outcome : Outcome) (answer : Iu) → who' ≡ who → StaysKnown old new
    → AnswerStands granted who old ask long outcome answer → AnswerStands granted who' new ask long outcome answer
answer_known granted who who' old new ask long outcome answer same known stands = record {
  few = stands.few;
  bytes = stands.bytes;
  stand = shows_known old new known (slot_address ask.slot) stands.bytes stands.stand;
  whole = stands.whole;
  spelled = stands.spelled;
  suits = stands.suits;
  grants = stands.grants;
  credits = All-head (IsAnswerBy granted who' new) answer []
      (says_move granted who who' old new same (keeps_known old new known).unit (keeps_known old new known).strokes (answer ∷ [])
      (All-cons (IsAnswerBy granted who old) answer [] stands.credits (All-nil (IsAnswerBy granted who old))));
}

-- ---- calls that change nothing

-- where the handshake and the event are as they were
pub told_as : (d d' : Doing) (s : ClientState) (own : EndState) (stream : List Entry) → d'.handshake ≡ d.handshake → d'.event ≡ d.event → (d.handshake ≢ Down) ⊎ WillHear d s own stream
    → (d'.handshake ≢ Down) ⊎ WillHear d' s own stream
told_as d d' s own stream handshake event told =
    subst (λ (h : Handshake). (h ≢ Down) ⊎ WillHear d' s own stream) (sym handshake)
    (subst (λ (e : Option Entry). (d.handshake ≢ Down) ⊎ ((own.registered ≡ false) ⊎ (((tells_gone stream ≡ true) × (behind_gone stream ≡ [])) ⊎ ((e ≡ Some partner_freed) ⊎ IsFresh s stream)))) (sym event)
    told)

event_as : (event event' : Option Entry) → event' ≡ event → (event ≡ None) ⊎ (event ≡ Some partner_freed) → (event' ≡ None) ⊎ (event' ≡ Some partner_freed)
event_as event event' same is = subst (λ (e : Option Entry). (e ≡ None) ⊎ (e ≡ Some partner_freed)) (sym same) is

shut_calls : (d d' : Doing) (s : ClientState) (own : EndState) (stream : List Entry) → CallsOnly d d' → IsShut d s own stream → IsShut d' s own stream
shut_calls d d' s own stream calls is = record {
  over = calls.line.ended ∙ is.over;
  idle = idle_aside d d' calls.aside is.idle;
  kept = calls.kept ∙ is.kept;
  event = event_as d.event d'.event calls.line.event is.event;
  told = told_as d d' s own stream calls.line.handshake calls.line.event is.told;
}

new_calls : (d d' : Doing) → CallsOnly d d' → IsNew d → IsNew d'
new_calls d d' calls is = record {
  going = calls.line.ended ∙ is.going;
  waiting = calls.line.handshake ∙ is.waiting;
  idle = idle_aside d d' calls.aside is.idle;
  kept = kept_as d.kept d'.kept calls.kept is.kept;
  event = calls.line.event ∙ is.event;
}

pub early_as : (d d' : Doing) → d'.coming ≡ d.coming → EndsEarly d → EndsEarly d'
early_as d d' coming is = record { entry = is.entry; more = is.more; coming = coming ∙ is.coming; srp = is.srp }

pub early_or : (d d' : Doing) → d'.coming ≡ d.coming → (d.coming ≡ []) ⊎ EndsEarly d → (d'.coming ≡ []) ⊎ EndsEarly d'
early_or d d' coming (inl is) = inl (coming ∙ is)
early_or d d' coming (inr is) = inr (early_as d d' coming is)

unheard_calls : (d d' : Doing) (own : EndState) (stream : List Entry) → CallsOnly d d' → IsUnheard d own stream → IsUnheard d' own stream
unheard_calls d d' own stream calls is = record {
  new = new_calls d d' calls is.new;
  registered = is.registered;
  gone = is.gone;
  queue = early_or d d' calls.coming is.queue;
  begins = subst (λ (k : Option Kept). (HasEntry initialize (behind_gone stream) × (k ≡ None)) ⊎ ((behind_gone stream ≡ []) × (k ≡ Some (keeps.Reply initialize)))) (sym calls.kept) is.begins;
}

logging_calls : (d d' : Doing) (s : ClientState) (stream : List Entry) → d'.kept ≡ d.kept → IsLogging d s stream → IsLogging d' s stream
logging_calls d d' s stream kept is = record { up = is.up; complete = is.complete; entry = λ same. is.entry (sym kept ∙ same); last = is.last }

anew_calls : (d d' : Doing) (s : ClientState) (own : EndState) (stream : List Entry) → CallsOnly d d' → IsAnew d s own stream → IsAnew d' s own stream
anew_calls d d' s own stream calls is = record {
  idle = idle_aside d d' calls.aside is.idle;
  kept = kept_as d.kept d'.kept calls.kept is.kept;
  queue = subst (λ (list : List Entry). AreShakes list) (sym calls.coming) is.queue;
  unsent = is.unsent;
  first = λ there keeps'. is.first there (sym calls.kept ∙ keeps');
  stirs = λ there waits. stirs (is.stirs there waits);
  logging = λ there logs. logging_calls d d' s stream calls.kept (is.logging there logs);
}
  where
    stirs : Stirs d s stream → Stirs d' s stream
    stirs (inl news) = inl news
    stirs (inr (inl kept)) = inr (inl (λ none. kept (sym calls.kept ∙ none)))
    stirs (inr (inr (inl begins))) = inr (inr (inl (subst (HasEntry initialize) (sym calls.coming) begins)))
    stirs (inr (inr (inr due))) = inr (inr (inr due))

coming_calls : (d d' : Doing) (own : EndState) (ask : Ask) → CallsOnly d d' → IsComing d own ask → IsComing d' own ask
coming_calls d d' own ask calls is = record {
  idle = idle_aside d d' calls.aside is.idle;
  kept = kept_as d.kept d'.kept calls.kept is.kept;
  entry = λ same. is.entry (sym calls.kept ∙ same);
  front = is.front;
  back = is.back;
  queue = calls.coming ∙ is.queue;
  shakes = is.shakes;
  behind = is.behind;
  shows = shows_known d.client d'.client calls.aside.client (slot_address ask.slot) ask.bytes is.shows;
}

serving_calls : (d d' : Doing) (own : EndState) (ask : Ask) → CallsOnly d d' → IsServing d own ask → IsServing d' own ask
serving_calls d d' own ask calls serves =
    serving_as d d' own ask (ap (λ (l : LoginState). l.current) calls.aside.logins) calls.aside.served.pending calls.line.handshake (queue_as own d.coming d'.coming calls.coming serves.queue) serves

taken_calls : (d d' : Doing) (own : EndState) (ask : Ask) → CallsOnly d d' → IsTaken d own ask → IsTaken d' own ask
taken_calls d d' own ask calls is = record {
  serves = serving_calls d d' own ask calls is.serves;
  stage = calls.aside.served.stage ∙ is.stage;
  kept = kept_as d.kept d'.kept calls.kept is.kept;
  entry = λ same. is.entry (sym calls.kept ∙ same);
}

-- the answer that was worked out is that, under as many requests
pub answer_as : (d d' : Doing) (ask : Ask) (outcome : Outcome) → d'.logins.granted ≡ d.logins.granted → d'.answer ≡ d.answer → IsAnswerTo 0 d.logins.granted ask.tag (order_asked ask.iu) outcome d.answer
    → IsAnswerTo 0 d'.logins.granted ask.tag (order_asked ask.iu) outcome d'.answer
answer_as d d' ask outcome granted answer is =
    subst (λ (n : ℕ). IsAnswerTo 0 n ask.tag (order_asked ask.iu) outcome d'.answer) (sym granted)
    (subst (IsAnswerTo 0 d.logins.granted ask.tag (order_asked ask.iu) outcome) (sym answer) is)

prepared_calls : (d d' : Doing) (own : EndState) (ask : Ask) → CallsOnly d d' → IsPrepared d own ask → IsPrepared d' own ask
prepared_calls d d' own ask calls is = record {
  serves = serving_calls d d' own ask calls is.serves;
  outcome = is.outcome;
  stage = calls.aside.served.stage ∙ is.stage;
  grants = is.grants;
  answer = answer_as d d' ask is.outcome calls.stays.granted calls.aside.served.answer is.answer;
  kept = kept_as d.kept d'.kept calls.kept is.kept;
  entry = λ same. is.entry (sym calls.kept ∙ same);
}

written_calls : (granted : ℕ) (d d' : Doing) (own : EndState) (ask : Ask) → CallsOnly d d' → IsWritten granted d own ask → IsWritten granted d' own ask
unfolding serving_calls serving_as
written_calls granted d d' own ask calls is = record {
  serves = serving_calls d d' own ask calls is.serves;
  outcome = is.outcome;
  stage = calls.aside.served.stage ∙ is.stage;
  grants = is.grants;
  iu = is.iu;
  stands = subst (λ (bytes : List ℕ). AnswerStands granted d'.id d'.client ask (length bytes) is.outcome is.iu) (sym calls.aside.served.answer)
      (answer_known granted d.id d'.id d.client d'.client ask (length d.answer) is.outcome is.iu calls.stays.id calls.aside.client is.stands);
  kept = subst (λ (bytes : List ℕ). KeepsShake d'.kept ⊎ (d'.kept ≡ Some (keeps.Answer (entry_for is.serves.request bytes) is.outcome))) (sym calls.aside.served.answer)
      (subst (λ (k : Option Kept). KeepsShake k ⊎ (k ≡ Some (keeps.Answer (entry_for is.serves.request d.answer) is.outcome))) (sym calls.kept) is.kept);
  entry = λ same. is.entry (sym calls.kept ∙ same);
}

granted_calls : (d d' : Doing) (s : ClientState) (own : EndState) (stream : List Entry) → CallsOnly d d' → IsGranted d s own stream → IsGranted d' s own stream
granted_calls d d' s own stream calls is = record {
  current = λ none. is.current (sym (ap (λ (l : LoginState). l.current) calls.aside.logins) ∙ none);
  taking = calls.aside.taking ∙ is.taking;
  outstanding = calls.aside.outstanding ∙ is.outstanding;
  pending = calls.aside.served.pending ∙ is.pending;
  stage = calls.aside.served.stage ∙ is.stage;
  up = calls.line.handshake ∙ is.up;
  kept = calls.kept ∙ is.kept;
  queue = queue_as own d.coming d'.coming calls.coming is.queue;
  front = is.front;
  entry = is.entry;
  last = is.last;
  srp = is.srp;
}

pub stands_calls : (granted : ℕ) (failed : Bool) (d d' : Doing) (s : ClientState) (own : EndState) (stream : List Entry) (answered lost : List Ask) → CallsOnly d d'
    → StandsOver granted failed d s own stream answered lost → StandsOver granted failed d' s own stream answered lost
stands_calls granted failed d d' s own stream answered lost calls (inl is) = inl (shut_calls d d' s own stream calls is)
stands_calls granted failed d d' s own stream answered lost calls (inr (inl is)) = inr (inl (record { new = new_calls d d' calls is.new; early = early_as d d' calls.coming is.early }))
stands_calls granted failed d d' s own stream answered lost calls (inr (inr (inl is))) = inr (inr (inl (unheard_calls d d' own stream calls is)))
stands_calls granted failed d d' s own stream answered lost calls (inr (inr (inr is))) = rejoins_by granted failed d s own stream answered lost anew joins is
  where
    goes : IsGoing d' s own stream
    goes = record {
      going = calls.line.ended ∙ is.going;
      event = calls.line.event ∙ is.event;
      open_is = λ down. is.open_is (sym calls.line.handshake ∙ down);
      none_gone = is.none_gone;
      aware = is.aware;
    }

    anew : IsAnew d s own stream → StandsOver granted failed d' s own stream answered lost
    anew a = anew_again granted failed d' s own stream answered lost goes (anew_calls d d' s own stream calls a)

    joins : (own.registered ≡ true) ⊎ (failed ≡ true) → Joins granted d s own stream answered lost → StandsOver granted failed d' s own stream answered lost
    joins there j = joins_again granted failed d' s own stream answered lost goes there (record { ask = j.ask; has = j.has; where_is = by j.where_is })
      where
        by : (((answered ≡ []) × (lost ≡ j.ask ∷ [])) × (IsComing d own j.ask ⊎ (IsTaken d own j.ask ⊎ (IsPrepared d own j.ask ⊎ IsWritten granted d own j.ask))))
            ⊎ (((answered ≡ j.ask ∷ []) × (lost ≡ [])) × IsGranted d s own stream)
            → (((answered ≡ []) × (lost ≡ j.ask ∷ [])) × (IsComing d' own j.ask ⊎ (IsTaken d' own j.ask ⊎ (IsPrepared d' own j.ask ⊎ IsWritten granted d' own j.ask))))
            ⊎ (((answered ≡ j.ask ∷ []) × (lost ≡ [])) × IsGranted d' s own stream)
        by (inl (parts, inl c)) = inl (parts, inl (coming_calls d d' own j.ask calls c))
        by (inl (parts, inr (inl t))) = inl (parts, inr (inl (taken_calls d d' own j.ask calls t)))
        by (inl (parts, inr (inr (inl p)))) = inl (parts, inr (inr (inl (prepared_calls d d' own j.ask calls p))))
        by (inl (parts, inr (inr (inr w)))) = inl (parts, inr (inr (inr (written_calls granted d d' own j.ask calls w))))
        by (inr (parts, g)) = inr (parts, granted_calls d d' s own stream calls g)
