-- A client beside a server unit whose session is over, or was, looks at an entry of the initialisation.
use Rattle.std.proofs.Common.{◌≡◌, ◌≢◌, ◌∙◌, ◌⊎◌, inl, inr, ℕ, ◌++◌, ◌||◌, All, Bool, true, false, true≢false, List, [], ◌∷◌, Option, Some, None, append-nil, refl, sym, ap, subst}
use Rattle.std.specs.List.{list_any}
use Rattle.std.proofs.lemmas.List.Elements.{All-head, All-tail}
use Rattle.vio_num.specs.Entry.{initialization_complete, initialize, is_srp_entry}
use Rattle.vio_num.specs.declared.entry.Entry.{Entry}
use Rattle.vio_num.specs.declared.names.UnitId.{UnitId}
use Rattle.crq_session.specs.EndState.{EndState}
use Rattle.crq_session.specs.Handshake.{state_after, step_after}
use Rattle.crq_session.specs.declared.handshake.Handshake.{Handshake}
use Rattle.crq_session.specs.declared.handshake.Handshake.TheVariants.{Down, Up, Waiting}
use Rattle.crq_session.specs.declared.handshake.Step.{Step}
use Rattle.crq_session.specs.declared.handshake.Step.TheVariants.{Nothing, SendComplete, SendInitialize}
use Rattle.srp_iu.specs.declared.unit.Iu.{Iu}
use Rattle.tce_window.specs.PortState.{PortState}
use Rattle.block_server.specs.Closings.{is_event}
use Rattle.block_server.specs.Doings.{Doing}
use Rattle.block_server.specs.Talk.{to_come}
use Rattle.block_server.specs.declared.line.Kept.TheVariants as keeps
use Rattle.vscsi_client.specs.State.{ClientState}
use Rattle.vscsi_client.specs.Taking.{due_by, shaken_by}
use Rattle.vscsi_client.specs.Turned.{Site}
use Rattle.vscsi_client.specs.declared.stage.Due.{Due}
use Rattle.vcpu_run.specs.OwnOver.{HasEntry, IsAnew, IsGranted, IsLogging, IsNews, IsOwed, IsShake, IsShut, IsUnheard, Joins, NoneBehindGone, WillHear, answers_among, behind_gone, held_in, is_login_due, is_under_way, news_among, stream_of, tells_gone}
use Rattle.vcpu_run.specs.PlainTalk.{Ask, HaveAnswers}
use Rattle.vcpu_run.proofs.RejoinPhases.{IsAskedFor, PhaseOver, off_on}
use Rattle.vcpu_run.proofs.RejoinSteps.{StandsIn, rest_come}
use Rattle.vcpu_run.proofs.OwnStreams.{AreSrp, behind_kept, behind_more, gone_kept, gone_other, news_kept, news_other}

-- ---- an entry of the initialisation

pub shake_up : (handshake : Handshake) (entry : Entry) → handshake ≢ Down → IsShake entry → state_after handshake entry ≡ Up
shake_up Down entry up shake = absurd (up refl)
shake_up Waiting entry up (inl is) = ap (state_after Waiting) is
shake_up Waiting entry up (inr is) = ap (state_after Waiting) is
shake_up Up entry up (inl is) = ap (state_after Up) is
shake_up Up entry up (inr is) = ap (state_after Up) is

-- no login comes of it
due_none : (due : List Due) (step : Step) → list_any is_login_due (due ++ due_by step) ≡ list_any is_login_due due
due_none [] Nothing = refl
due_none [] SendInitialize = refl
due_none [] SendComplete = refl
due_none (first ∷ due) step = ap (λ b. is_login_due first || b) (due_none due step)

-- where both have heard of one another nothing is due for one that says so
pub quiet_due : (s : ClientState) (entry : Entry) → s.handshake ≡ Up → entry ≡ initialization_complete → (shaken_by entry s).due ≡ s.due
quiet_due s entry up is =
    ap (λ (h : Handshake). s.due ++ due_by (step_after h entry)) up ∙ ap (λ (e : Entry). s.due ++ due_by (step_after Up e)) is ∙ append-nil s.due

-- ---- the entry that is held

-- what a client is to look at that holds this
pub stream_held : (promised : Bool) (granted : ℕ) (d : Doing) (a : Site) (entry : Entry) → (stands : StandsIn promised granted d a) → a.client.held ≡ Some entry
    → stream_of a.client stands.over.rest ≡ a.client.kept ++ entry ∷ to_come a.at.crq
stream_held promised granted d a entry stands held =
    ap (λ (one : Option Entry). a.client.kept ++ (held_in one ++ stands.over.rest)) held
    ∙ ap (λ (rest : List Entry). a.client.kept ++ entry ∷ rest) (rest_come promised granted d a stands)

pub some_stream : (kept : List Entry) (entry : Entry) (rest : List Entry) → kept ++ entry ∷ rest ≡ [] → ⊥
some_stream [] entry rest none = cc (none)
some_stream (first ∷ kept) entry rest none = cc (none)

-- what was asked stays as another stream is looked at
pub owed_stream : (granted : ℕ) (id : UnitId) (window : PortState) (s : ClientState) (old new : List Entry) (answered lost : List Ask) (answers : List Iu)
    → IsOwed granted id window s old answered lost answers → HaveAnswers window (answers_among new) answered answers → All IsNews (news_among new) → NoneBehindGone new
    → IsOwed granted id window s new answered lost answers
owed_stream granted id window s old new answered lost answers owed told news behind = record {
  each = owed.each;
  slots = owed.slots;
  tags = owed.tags;
  order = owed.order;
  told = told;
  news = news;
  behind = behind;
  awaited = owed.awaited;
  logouts = owed.logouts;
  sent = owed.sent;
  written = owed.written;
  unanswered = owed.unanswered;
  none = owed.none;
  within = owed.within;
  credits = owed.credits;
  grant = owed.grant;
}

-- the last of a list stays the last without another
pub last_without : (kept : List Entry) (entry : Entry) (rest front : List Entry) (last : Entry) → is_srp_entry entry ≡ false → is_srp_entry last ≡ true → kept ++ entry ∷ rest ≡ front ++ last ∷ []
    → (front' : List Entry) × (kept ++ rest ≡ front' ++ last ∷ [])
last_without [] entry rest [] last isnt srp is = absurd (true≢false (sym srp ∙ ap is_srp_entry (sym (heads entry last rest [] is)) ∙ isnt))
  where
    heads : (x y : Entry) (xs ys : List Entry) → x ∷ xs ≡ y ∷ ys → x ≡ y
    heads x y xs ys e = cc (e)
last_without [] entry rest (first ∷ front) last isnt srp is = (front, tails entry first rest (front ++ last ∷ []) is)
  where
    tails : (x y : Entry) (xs ys : List Entry) → x ∷ xs ≡ y ∷ ys → xs ≡ ys
    tails x y xs ys e = cc (e)
last_without (one ∷ kept) entry rest [] last isnt srp is = absurd (some_stream kept entry rest (tails one last (kept ++ entry ∷ rest) [] is))
  where
    tails : (x y : Entry) (xs ys : List Entry) → x ∷ xs ≡ y ∷ ys → xs ≡ ys
    tails x y xs ys e = cc (e)
last_without (one ∷ kept) entry rest (first ∷ front) last isnt srp is =
    let more = last_without kept entry rest front last isnt srp (tails one first (kept ++ entry ∷ rest) (front ++ last ∷ []) is) in
    (one ∷ more.0, ap (λ (list : List Entry). one ∷ list) more.1)
  where
    tails : (x y : Entry) (xs ys : List Entry) → x ∷ xs ≡ y ∷ ys → xs ≡ ys
    tails x y xs ys e = cc (e)

-- ---- where both stand then

-- the entry that was looked at, among answers that are kept and what is to come
pub record IsHeld (kept : List Entry) (entry : Entry) (rest : List Entry) : Type 0 where
  pub are : AreSrp kept
  pub shake : IsShake entry
  pub no_event : is_event entry ≡ false
  pub no_srp : is_srp_entry entry ≡ false

gone_without : (kept : List Entry) (entry : Entry) (rest : List Entry) → IsHeld kept entry rest → tells_gone (kept ++ rest) ≡ tells_gone (kept ++ entry ∷ rest)
gone_without kept entry rest is =
    gone_kept kept rest is.are ∙ sym (gone_other entry rest is.no_event) ∙ sym (gone_kept kept (entry ∷ rest) is.are)

behind_without : (kept : List Entry) (entry : Entry) (rest : List Entry) → IsHeld kept entry rest → tells_gone (kept ++ entry ∷ rest) ≡ true
    → behind_gone (kept ++ rest) ≡ behind_gone (kept ++ entry ∷ rest)
behind_without kept entry rest is gone =
    behind_kept kept rest is.are more ∙ sym (behind_more entry rest more) ∙ sym (behind_kept kept (entry ∷ rest) is.are (gone_other entry rest is.no_event ∙ more))
  where
    more : tells_gone rest ≡ true
    more = sym (gone_other entry rest is.no_event) ∙ sym (gone_kept kept (entry ∷ rest) is.are) ∙ gone

shut_shakes : (d : Doing) (s : ClientState) (own : EndState) (entry : Entry) (rest : List Entry) → own.registered ≡ true → IsHeld s.kept entry rest → IsShut d s own (s.kept ++ entry ∷ rest)
    → IsShut d (record (shaken_by entry s) { held = None }) own (s.kept ++ rest)
shut_shakes d s own entry rest there is shut = record { over = shut.over; idle = shut.idle; kept = shut.kept; event = shut.event; told = by shut.told }
  where
    by : (d.handshake ≢ Down) ⊎ WillHear d s own (s.kept ++ entry ∷ rest) → (d.handshake ≢ Down) ⊎ WillHear d (record (shaken_by entry s) { held = None }) own (s.kept ++ rest)
    by (inl up) = inl up
    by (inr (inl off)) = absurd (off_on own there off)
    by (inr (inr (inl (gone, behind)))) =
        inr (inr (inl (gone_without s.kept entry rest is ∙ gone, behind_without s.kept entry rest is gone ∙ behind)))
    by (inr (inr (inr (inl event)))) = inr (inr (inr (inl event)))
    by (inr (inr (inr (inr fresh)))) = absurd (some_stream s.kept entry rest fresh.none)

unheard_shakes : (d : Doing) (own : EndState) (kept : List Entry) (entry : Entry) (rest : List Entry) → IsHeld kept entry rest → IsUnheard d own (kept ++ entry ∷ rest)
    → IsUnheard d own (kept ++ rest)
unheard_shakes d own kept entry rest is un = record {
  new = un.new;
  registered = un.registered;
  gone = gone_without kept entry rest is ∙ un.gone;
  queue = un.queue;
  begins = by un.begins;
}
  where
    same : behind_gone (kept ++ entry ∷ rest) ≡ behind_gone (kept ++ rest)
    same = sym (behind_without kept entry rest is un.gone)

    by : (HasEntry initialize (behind_gone (kept ++ entry ∷ rest)) × (d.kept ≡ None)) ⊎ ((behind_gone (kept ++ entry ∷ rest) ≡ []) × (d.kept ≡ Some (keeps.Reply initialize)))
        → (HasEntry initialize (behind_gone (kept ++ rest)) × (d.kept ≡ None)) ⊎ ((behind_gone (kept ++ rest) ≡ []) × (d.kept ≡ Some (keeps.Reply initialize)))
    by (inl (has, none)) = inl (subst (HasEntry initialize) same has, none)
    by (inr (none, kept)) = inr (sym same ∙ none, kept)

news_held : (kept : List Entry) (entry : Entry) (rest : List Entry) → IsHeld kept entry rest → news_among (kept ++ entry ∷ rest) ≡ entry ∷ news_among (kept ++ rest)
news_held kept entry rest is =
    news_kept kept (entry ∷ rest) is.are ∙ news_other entry rest is.no_srp ∙ ap (λ (list : List Entry). entry ∷ list) (sym (news_kept kept rest is.are))

-- where all of these say that the unit has heard of its client
complete_held : (kept : List Entry) (entry : Entry) (rest : List Entry) → IsHeld kept entry rest → All (λ (e : Entry). e ≡ initialization_complete) (news_among (kept ++ entry ∷ rest))
    → (entry ≡ initialization_complete) × All (λ (e : Entry). e ≡ initialization_complete) (news_among (kept ++ rest))
complete_held kept entry rest is all =
    let both = subst (All (λ (e : Entry). e ≡ initialization_complete)) (news_held kept entry rest is) all in
    (All-head (λ (e : Entry). e ≡ initialization_complete) entry (news_among (kept ++ rest)) both, All-tail (λ (e : Entry). e ≡ initialization_complete) entry (news_among (kept ++ rest)) both)

anew_shakes : (d : Doing) (s : ClientState) (own : EndState) (entry : Entry) (rest : List Entry) → own.registered ≡ true → s.handshake ≢ Down → IsHeld s.kept entry rest
    → IsAnew d s own (s.kept ++ entry ∷ rest) → IsAnew d (record (shaken_by entry s) { held = None }) own (s.kept ++ rest)
anew_shakes d s own entry rest there up is anew = record {
  idle = anew.idle;
  kept = anew.kept;
  queue = anew.queue;
  unsent = anew.unsent;
  first = λ on kept. absurd (some_stream s.kept entry rest (anew.first on kept).1);
  stirs = λ on waits. absurd (up_waits (sym (shake_up s.handshake entry up is.shake) ∙ waits));
  logging = λ on logs. at (anew.logging on (by logs));
}
  where
    up_waits : Up ≡ Waiting → ⊥
    up_waits e = cc (e)

    by : (list_any is_login_due (s.due ++ due_by (step_after s.handshake entry)) ≡ true) ⊎ (is_under_way s.login ≡ true) → (list_any is_login_due s.due ≡ true) ⊎ (is_under_way s.login ≡ true)
    by (inl due) = inl (sym (due_none s.due (step_after s.handshake entry)) ∙ due)
    by (inr login) = inr login

    at : IsLogging d s (s.kept ++ entry ∷ rest) → IsLogging d (record (shaken_by entry s) { held = None }) (s.kept ++ rest)
    at logs =
        let both = complete_held s.kept entry rest is logs.complete in
        record {
          up = shake_up s.handshake entry up is.shake;
          complete = both.1;
          entry = logs.entry;
          last = λ front others due. logs.last front others (sym (quiet_due s entry logs.up both.0) ∙ due);
        }

joins_shakes : (granted : ℕ) (d : Doing) (s : ClientState) (own : EndState) (entry : Entry) (rest : List Entry) (answered lost : List Ask) → own.registered ≡ true → s.handshake ≢ Down
    → IsHeld s.kept entry rest → Joins granted d s own (s.kept ++ entry ∷ rest) answered lost
    → Joins granted d (record (shaken_by entry s) { held = None }) own (s.kept ++ rest) answered lost
joins_shakes granted d s own entry rest answered lost there up is joins = record {
  ask = joins.ask;
  has = record {
    login = joins.has.login;
    asked = joins.has.asked;
    due = λ on. quiet_due s entry (joins.has.up on) both.0 ∙ joins.has.due on;
    up = λ on. shake_up s.handshake entry up is.shake;
    complete = λ on. both.1;
  };
  where_is = by joins.where_is;
}
  where
    both : (entry ≡ initialization_complete) × All (λ (e : Entry). e ≡ initialization_complete) (news_among (s.kept ++ rest))
    both = complete_held s.kept entry rest is (joins.has.complete there)

    by : (((answered ≡ []) × (lost ≡ joins.ask ∷ [])) × IsAskedFor granted d own joins.ask) ⊎ (((answered ≡ joins.ask ∷ []) × (lost ≡ [])) × IsGranted d s own (s.kept ++ entry ∷ rest))
        → (((answered ≡ []) × (lost ≡ joins.ask ∷ [])) × IsAskedFor granted d own joins.ask)
        ⊎ (((answered ≡ joins.ask ∷ []) × (lost ≡ [])) × IsGranted d (record (shaken_by entry s) { held = None }) own (s.kept ++ rest))
    by (inl asked) = inl asked
    by (inr (lists, grants)) =
        let last = last_without s.kept entry rest grants.front grants.entry is.no_srp grants.srp grants.last in
        inr (
          lists,
          record {
            current = grants.current;
            taking = grants.taking;
            outstanding = grants.outstanding;
            pending = grants.pending;
            stage = grants.stage;
            up = grants.up;
            kept = grants.kept;
            queue = grants.queue;
            front = last.0;
            entry = grants.entry;
            last = last.1;
            srp = grants.srp;
          },
        )

pub phase_shakes : (granted : ℕ) (d : Doing) (s : ClientState) (own : EndState) (entry : Entry) (rest : List Entry) (answered lost : List Ask) → own.registered ≡ true → s.handshake ≢ Down
    → IsHeld s.kept entry rest → PhaseOver granted d s own (s.kept ++ entry ∷ rest) answered lost
    → PhaseOver granted d (record (shaken_by entry s) { held = None }) own (s.kept ++ rest) answered lost
phase_shakes granted d s own entry rest answered lost there up is (inl shut) = inl (shut_shakes d s own entry rest there is shut)
phase_shakes granted d s own entry rest answered lost there up is (inr (inl stale)) = inr (inl stale)
phase_shakes granted d s own entry rest answered lost there up is (inr (inr (inl un))) = inr (inr (inl (unheard_shakes d own s.kept entry rest is un)))
phase_shakes granted d s own entry rest answered lost there up is (inr (inr (inr joins))) = inr (inr (inr (record {
  going = joins.going;
  event = joins.event;
  open_is = joins.open_is;
  none_gone = λ on. gone_without s.kept entry rest is ∙ joins.none_gone on;
  aware = λ on. let aware = joins.aware on in record { granted = aware.granted; outgoing = aware.outgoing; logout = aware.logout; kept = aware.kept };
  there = inl there;
  how = by joins.how;
})))
  where
    by : IsAnew d s own (s.kept ++ entry ∷ rest) ⊎ Joins granted d s own (s.kept ++ entry ∷ rest) answered lost
        → IsAnew d (record (shaken_by entry s) { held = None }) own (s.kept ++ rest) ⊎ Joins granted d (record (shaken_by entry s) { held = None }) own (s.kept ++ rest) answered lost
    by (inl anew) = inl (anew_shakes d s own entry rest there up is anew)
    by (inr asks') = inr (joins_shakes granted d s own entry rest answered lost there up is asks')
