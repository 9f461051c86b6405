-- A client beside a server unit whose session is over, or was, of which nothing more is to come: a login becomes due.
use Rattle.std.proofs.Common.{◌≡◌, ◌≢◌, ◌∙◌, ◌⊎◌, inl, inr, ℕ, ◌++◌, ◌&&◌, ◌||◌, All, Bool, true, false, true≢false, not, List, [], ◌∷◌, Option, None, refl, sym, ap, subst}
use Rattle.std.specs.List.{list_any}
use Rattle.std.proofs.lemmas.List.Elements.{All-nil}
use Rattle.vio_num.specs.Entry.{initialization_complete}
use Rattle.vio_num.specs.declared.entry.Entry.{Entry}
use Rattle.crq_session.specs.EndState.{EndState}
use Rattle.crq_session.specs.declared.handshake.Handshake.{Handshake}
use Rattle.crq_session.specs.declared.handshake.Handshake.TheVariants.{Down, Up, Waiting}
use Rattle.block_server.specs.Doings.{Doing}
use Rattle.block_server.specs.Talk.{to_come}
use Rattle.vscsi_client.specs.State.{ClientState}
use Rattle.vscsi_client.specs.Turned.{SameHands, Site, Steps, begins, is_idle, is_login, is_up, login_due}
use Rattle.vscsi_client.specs.Turned.LoginStep.{Began}
use Rattle.vscsi_client.specs.declared.stage.Due.{Due}
use Rattle.vscsi_client.specs.declared.stage.Due.TheVariants as dues
use Rattle.vscsi_client.specs.declared.stage.Stage.TheVariants.{Idle, Sent}
use Rattle.vcpu_run.specs.OwnOver.{IsAnew, IsOwed, IsShut, Joins, WillHear, held_in, is_login_due, stream_of, tells_gone}
use Rattle.vcpu_run.specs.PlainTalk.{Ask}
use Rattle.vcpu_run.proofs.RejoinLooks.{looks_still}
use Rattle.vcpu_run.proofs.RejoinPhases.{PhaseOver, off_on}
use Rattle.vcpu_run.proofs.RejoinSteps.{NextIn, StandsIn, StepsTo, rest_come}
use Rattle.vcpu_run.proofs.OwnStreams.{AreSrp, gone_kept, news_kept}
use Rattle.vcpu_run.proofs.RejoinTaken.{owed_same}
use Rattle.vcpu_run.proofs.PlainDues.{begins_idle, begins_undue, idle_is}

-- Nothing more is to come, and no entry is held.
pub record PutsIn (promised : Bool) (granted : ℕ) (d : Doing) (a : Site) : Type 0 where
  pub stands : StandsIn promised granted d a
  pub none : to_come a.at.crq ≡ []
  pub held : a.client.held ≡ None

-- so it is to look at what it kept alone
pub stream_kept : (promised : Bool) (granted : ℕ) (d : Doing) (a : Site) → (puts : PutsIn promised granted d a) → stream_of a.client puts.stands.over.rest ≡ a.client.kept ++ []
stream_kept promised granted d a puts =
    ap (λ (held : Option Entry). a.client.kept ++ (held_in held ++ puts.stands.over.rest)) puts.held
    ∙ ap (λ (rest : List Entry). a.client.kept ++ rest) (rest_come promised granted d a puts.stands ∙ puts.none)

pub kept_phase : (promised : Bool) (granted : ℕ) (d : Doing) (a : Site) → (puts : PutsIn promised granted d a)
    → PhaseOver granted d a.client a.at.crq (a.client.kept ++ []) puts.stands.over.answered puts.stands.over.lost
kept_phase promised granted d a puts =
    subst (λ (list : List Entry). PhaseOver granted d a.client a.at.crq list puts.stands.over.answered puts.stands.over.lost) (stream_kept promised granted d a puts) puts.stands.over.phase

pub kept_gone : (kept : List Entry) → AreSrp kept → tells_gone (kept ++ []) ≡ true → ⊥
kept_gone kept are gone = true≢false (sym gone ∙ gone_kept kept [] are)

pub waits_up : (handshake : Handshake) → handshake ≡ Waiting → handshake ≡ Up → ⊥
waits_up handshake waits up = cc (waits, up)

-- ---- when a login becomes due

front_holds : (a b : Bool) → (a && b) ≡ true → a ≡ true
front_holds true b e = refl
front_holds false b e = absurd (true≢false (sym e))

begins_up : (s : ClientState) → begins s ≡ true → s.handshake ≡ Up
begins_up s on = by s.handshake (front_holds (is_up s.handshake) (is_idle s.login && not (list_any is_login s.due)) on)
  where
    by : (h : Handshake) → is_up h ≡ true → h ≡ Up
    by Down e = absurd (true≢false (sym e))
    by Waiting e = absurd (true≢false (sym e))
    by Up e = refl

pub same_due : (due : List Due) → list_any is_login_due due ≡ list_any is_login due
same_due [] = refl
same_due (dues.Initialize ∷ due) = same_due due
same_due (dues.Complete ∷ due) = same_due due
same_due (dues.Login ∷ due) = refl

-- behind what is due stands the one login
last_due : (due front others : List Due) → list_any is_login_due due ≡ false → due ++ dues.Login ∷ [] ≡ front ++ dues.Login ∷ others → others ≡ []
last_due [] [] others none is = tails dues.Login dues.Login [] others is
  where
    tails : (x y : Due) (xs ys : List Due) → x ∷ xs ≡ y ∷ ys → ys ≡ xs
    tails x y xs ys e = cc (e)
last_due [] (first ∷ front) others none is = absurd (some front (tails dues.Login first [] (front ++ dues.Login ∷ others) is))
  where
    tails : (x y : Due) (xs ys : List Due) → x ∷ xs ≡ y ∷ ys → ys ≡ xs
    tails x y xs ys e = cc (e)

    some : (xs : List Due) → xs ++ dues.Login ∷ others ≡ [] → ⊥
    some [] e = cc (e)
    some (x ∷ xs) e = cc (e)
last_due (one ∷ due) [] others none is =
    absurd (true≢false (sym (ap (λ (d : Due). is_login_due d || list_any is_login_due due) (heads one dues.Login (due ++ dues.Login ∷ []) others is)) ∙ none))
  where
    heads : (x y : Due) (xs ys : List Due) → x ∷ xs ≡ y ∷ ys → x ≡ y
    heads x y xs ys e = cc (e)
last_due (one ∷ due) (first ∷ front) others none is =
    last_due due front others (rest (is_login_due one) (list_any is_login_due due) none) (tails one first (due ++ dues.Login ∷ []) (front ++ dues.Login ∷ others) is)
  where
    rest : (b c : Bool) → (b || c) ≡ false → c ≡ false
    rest true c e = absurd (true≢false e)
    rest false c e = e

    tails : (x y : Due) (xs ys : List Due) → x ∷ xs ≡ y ∷ ys → xs ≡ ys
    tails x y xs ys e = cc (e)

-- ---- where both stand then

begun_shut : (d : Doing) (s : ClientState) (own : EndState) → own.registered ≡ true → AreSrp s.kept → s.handshake ≡ Up → IsShut d s own (s.kept ++ []) → IsShut d (login_due s) own (s.kept ++ [])
begun_shut d s own there are up shut = record { over = shut.over; idle = shut.idle; kept = shut.kept; event = shut.event; told = by shut.told }
  where
    by : (d.handshake ≢ Down) ⊎ WillHear d s own (s.kept ++ []) → (d.handshake ≢ Down) ⊎ WillHear d (login_due s) own (s.kept ++ [])
    by (inl on) = inl on
    by (inr (inl off)) = absurd (off_on own there off)
    by (inr (inr (inl (gone, behind)))) = absurd (kept_gone s.kept are gone)
    by (inr (inr (inr (inl event)))) = inr (inr (inr (inl event)))
    by (inr (inr (inr (inr fresh)))) = absurd (waits_up s.handshake fresh.handshake up)

begun_anew : (d : Doing) (s : ClientState) (own : EndState) → own.registered ≡ true → AreSrp s.kept → s.handshake ≡ Up → s.login ≡ Idle → list_any is_login_due s.due ≡ false
    → IsAnew d s own (s.kept ++ []) → IsAnew d (login_due s) own (s.kept ++ [])
begun_anew d s own there are up idle undue anew = record {
  idle = anew.idle;
  kept = anew.kept;
  queue = anew.queue;
  unsent = anew.unsent;
  first = anew.first;
  stirs = λ on waits. absurd (waits_up s.handshake waits up);
  logging = λ on logs. record {
    up = up;
    complete = subst (All (λ (e : Entry). e ≡ initialization_complete)) (sym (news_kept s.kept [] are)) (All-nil (λ (e : Entry). e ≡ initialization_complete));
    entry = λ kept. waits_up s.handshake (anew.first there kept).0 up;
    last = λ front others is. last_due s.due front others undue is;
  };
}

begun_phase : (granted : ℕ) (d : Doing) (s : ClientState) (own : EndState) (answered lost : List Ask) → own.registered ≡ true → AreSrp s.kept → s.handshake ≡ Up → s.login ≡ Idle
    → list_any is_login_due s.due ≡ false → PhaseOver granted d s own (s.kept ++ []) answered lost → PhaseOver granted d (login_due s) own (s.kept ++ []) answered lost
begun_phase granted d s own answered lost there are up idle undue (inl shut) = inl (begun_shut d s own there are up shut)
begun_phase granted d s own answered lost there are up idle undue (inr (inl stale)) = inr (inl stale)
begun_phase granted d s own answered lost there are up idle undue (inr (inr (inl un))) = absurd (kept_gone s.kept are un.gone)
begun_phase granted d s own answered lost there are up idle undue (inr (inr (inr joins))) = inr (inr (inr (record {
  going = joins.going;
  event = joins.event;
  open_is = joins.open_is;
  none_gone = joins.none_gone;
  aware = λ on. let aware = joins.aware on in record { granted = aware.granted; outgoing = aware.outgoing; logout = aware.logout; kept = aware.kept };
  there = inl there;
  how = by joins.how;
})))
  where
    no_stage : (tag slot : ℕ) → s.login ≡ Sent tag slot → ⊥
    no_stage tag slot is = cc (is, idle)

    by : IsAnew d s own (s.kept ++ []) ⊎ Joins granted d s own (s.kept ++ []) answered lost
        → IsAnew d (login_due s) own (s.kept ++ []) ⊎ Joins granted d (login_due s) own (s.kept ++ []) answered lost
    by (inl anew) = inl (begun_anew d s own there are up idle undue anew)
    by (inr asked) = absurd (no_stage asked.ask.tag asked.ask.slot asked.has.login)

-- ---- the step

-- Nothing more is to come behind it.
pub record PutsOn (promised : Bool) (granted : ℕ) (d : Doing) (a b : Site) : Type 0 where
  pub steps : StepsTo promised granted d a b
  pub none : to_come b.at.crq ≡ []
  pub held : b.client.held ≡ None

pub over_begins : (promised : Bool) (granted line : ℕ) (d : Doing) (a b : Site) → PutsIn promised granted d a → Steps line Began a b → SameHands a b → PutsOn promised granted d a b
over_begins promised granted line d a b puts began hands = record {
  steps = looks_still promised granted d a b puts.stands hands began.1 began.2 (subst (λ (s : ClientState). NextIn promised granted d s a.at.crq) (sym began.0.client) next);
  none = ap to_come began.1 ∙ puts.none;
  held = ap (λ (s : ClientState). s.held) began.0.client ∙ puts.held;
}
  where
    same : stream_of a.client puts.stands.over.rest ≡ stream_of (login_due a.client) (to_come a.at.crq)
    same = ap (λ (rest : List Entry). stream_of a.client rest) (rest_come promised granted d a puts.stands)

    next : NextIn promised granted d (login_due a.client) a.at.crq
    next = record {
      answered = puts.stands.over.answered;
      lost = puts.stands.over.lost;
      answers = puts.stands.over.answers;
      rest = to_come a.at.crq;
      come = refl;
      owed = subst (λ (list : List Entry). IsOwed granted d.id d.client (login_due a.client) list puts.stands.over.answered puts.stands.over.lost puts.stands.over.answers) same
          (owed_same granted d.id d.client a.client (login_due a.client) (stream_of a.client puts.stands.over.rest) puts.stands.over.answered puts.stands.over.lost puts.stands.over.answers
          (record { rows = refl; outgoing = refl; login = refl; logout = refl; granted = refl }) puts.stands.over.owed);
      there = puts.stands.over.there puts.stands.registered;
      tabled = puts.stands.over.tabled;
      on = λ current. puts.stands.over.on puts.stands.registered current;
      phase = subst (λ (list : List Entry). PhaseOver granted d (login_due a.client) a.at.crq list puts.stands.over.answered puts.stands.over.lost) (sym (stream_kept promised granted d a puts) ∙ same)
          (begun_phase granted d a.client a.at.crq puts.stands.over.answered puts.stands.over.lost puts.stands.registered puts.stands.kept (begins_up a.client began.0.begins_now)
          (idle_is a.client.login (begins_idle a.client began.0.begins_now)) (same_due a.client.due ∙ begins_undue a.client began.0.begins_now) (kept_phase promised granted d a puts));
      kept = puts.stands.kept;
      logout = puts.stands.logout;
      fewer = puts.stands.fewer;
    }
