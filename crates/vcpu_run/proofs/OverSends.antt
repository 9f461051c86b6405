-- An entry that a unit kept, and which answers no request, is put: where its session was over, and begins anew.
use Rattle.std.proofs.Common.{◌≡◌, ◌≢◌, ◌∙◌, ◌⊎◌, inl, inr, ℕ, ◌++◌, All, Bool, true, false, cond, List, [], ◌∷◌, Option, Some, None, length, refl, sym, ap, subst}
use Rattle.std.proofs.lemmas.List.Elements.{All-cons, All-nil, All-push}
use Rattle.crq_ring.specs.declared.rows.PipeRow.{PipeRow}
use Rattle.crq_session.specs.EndState.{EndState}
use Rattle.crq_session.specs.declared.handshake.Handshake.TheVariants.{Waiting}
use Rattle.vio_num.specs.Entry.{initialization_complete, initialize}
use Rattle.vio_num.specs.declared.entry.Entry.{Entry}
use Rattle.block_server.specs.Doings.{Doing, SendsKept, Sends, entry_for, rows_to}
use Rattle.block_server.specs.Granting.{LoginState}
use Rattle.block_server.specs.declared.line.Kept.{Kept}
use Rattle.block_server.specs.declared.line.Kept.TheVariants as keeps
use Rattle.vscsi_client.specs.State.{ClientState}
use Rattle.vscsi_client.specs.Units.{slot_address}
use Rattle.vcpu_run.specs.OwnOver.{AreShakes, HasAsked, HasEntry, IsAnew, IsComing, IsGranted, IsIdle, IsLogging, IsNew, IsPrepared, IsServing, IsShake, IsStale, IsTaken, IsUnheard, IsWritten, Joins, KeepsShake, Stirs, behind_gone, news_among, tells_gone}
use Rattle.vcpu_run.specs.PlainTalk.{AnswerStands, Ask}
use Rattle.vcpu_run.proofs.OverAnew.{IsPlainNews, LeadsOn, no_reply, rows_if, shake_news}
use Rattle.vcpu_run.proofs.OverKinds.{shake_no_event, shake_no_srp}
use Rattle.vcpu_run.proofs.OverLists.{behind_other, gone_more, gone_other, has_last, news_last, some_last}
use Rattle.vcpu_run.proofs.OverMoves.{shows_known}
use Rattle.vcpu_run.proofs.OverPhases.{IsGoing, StandsOver, anew_again, answer_as, answer_known, early_or, early_as, idle_aside, joins_again, queue_as, serving_as}

-- ---- what is put where the client's queue is registered

-- an entry, in the client's session, or nothing
abbrev pub put_there : EndState → Entry → List Entry
put_there own entry = cond own.registered (entry ∷ []) []

pub sends_put : (d d' : Doing) (own : EndState) (entry : Entry) → d.reaches ≡ own.registered → Sends d d' (entry ∷ []) → d'.sent ≡ d.sent ++ rows_to d.to (put_there own entry)
sends_put d d' own entry reached sends =
    sends ∙ ap (λ (rows : List PipeRow). d.sent ++ rows) (rows_if d.reaches d.to (entry ∷ []))
    ∙ ap (λ (b : Bool). d.sent ++ rows_to d.to (cond b (entry ∷ []) [])) reached

pub there_news : (own : EndState) (entry : Entry) → IsShake entry → All IsPlainNews (put_there own entry)
there_news own entry is = by own.registered
  where
    by : (b : Bool) → All IsPlainNews (cond b (entry ∷ []) [])
    by true = All-cons IsPlainNews entry [] (shake_news entry is) (All-nil IsPlainNews)
    by false = All-nil IsPlainNews

-- what is so of the entry behind the others, where it is put
pub put_so : (P : List Entry → Type 0) (own : EndState) (stream : List Entry) (entry : Entry) → own.registered ≡ true → P (stream ++ entry ∷ []) → P (stream ++ put_there own entry)
put_so P own stream entry there is = subst (λ (b : Bool). P (stream ++ cond b (entry ∷ []) [])) (sym there) is

abbrev pub AreCompletions : List Entry → Type 0
AreCompletions = All (λ (entry : Entry). entry ≡ initialization_complete)

pub completions_last : (stream : List Entry) (entry : Entry) → IsShake entry → entry ≡ initialization_complete → AreCompletions (news_among stream) → AreCompletions (news_among (stream ++ entry ∷ []))
completions_last stream entry shake is all =
    subst AreCompletions (sym (news_last stream entry (shake_no_srp entry shake))) (All-push (λ (e : Entry). e ≡ initialization_complete) (news_among stream) entry all is)

pub put_none_gone : (own : EndState) (stream : List Entry) (entry : Entry) → IsShake entry → (own.registered ≡ true → tells_gone stream ≡ false)
    → own.registered ≡ true → tells_gone (stream ++ put_there own entry) ≡ false
put_none_gone own stream entry shake none there =
    put_so (λ (list : List Entry). tells_gone list ≡ false) own stream entry there (gone_other stream entry (shake_no_event entry shake) ∙ none there)

pub put_stirs : (d : Doing) (s : ClientState) (own : EndState) (stream : List Entry) (entry : Entry) → IsShake entry → own.registered ≡ true → Stirs d s (stream ++ put_there own entry)
put_stirs d s own stream entry shake there =
    inl (put_so (λ (list : List Entry). news_among list ≢ []) own stream entry there (λ none. some_last (news_among stream) entry (sym (news_last stream entry (shake_no_srp entry shake)) ∙ none)))

pub asked_put : (s : ClientState) (own : EndState) (stream : List Entry) (entry : Entry) (ask : Ask) → IsShake entry → entry ≡ initialization_complete → HasAsked s own stream ask
    → HasAsked s own (stream ++ put_there own entry) ask
asked_put s own stream entry ask shake is has = record {
  login = has.login;
  asked = has.asked;
  due = has.due;
  up = has.up;
  complete = λ there. put_so (λ (list : List Entry). AreCompletions (news_among list)) own stream entry there (completions_last stream entry shake is (has.complete there));
}

-- ---- it was kept

-- what is kept shakes, and is Complete, if it is not Initialize
pub kept_shake : (kept : Option Kept) (entry : Entry) → KeepsShake kept → kept ≡ Some (keeps.Reply entry) → IsShake entry
kept_shake None entry shake is = absurd (cc (is))
kept_shake (Some (keeps.Reply other)) entry shake is = subst IsShake (same other entry is) shake
  where
    same : (a b : Entry) → Some (keeps.Reply a) ≡ Some (keeps.Reply b) → a ≡ b
    same a b is = cc (is)
kept_shake (Some (keeps.Answer other outcome)) entry shake is = absurd shake

pub kept_complete : (kept : Option Kept) (entry : Entry) → KeepsShake kept → kept ≡ Some (keeps.Reply entry) → kept ≢ Some (keeps.Reply initialize) → entry ≡ initialization_complete
kept_complete kept entry shake is isnt = by (kept_shake kept entry shake is)
  where
    by : IsShake entry → entry ≡ initialization_complete
    by (inl begins) = absurd (isnt (is ∙ ap (λ (e : Entry). Some (keeps.Reply e)) begins))
    by (inr complete) = complete

same_reply : (kept : Option Kept) (a b : Entry) → kept ≡ Some (keeps.Reply a) → kept ≡ Some (keeps.Reply b) → a ≡ b
same_reply kept a b is other = cc (is, other)

-- ---- what goes on where nothing was asked for

pub anew_next : (d d' : Doing) (s : ClientState) (own : EndState) (stream stream' : List Entry) → IsAnew d s own stream → IsIdle d' → KeepsShake d'.kept → AreShakes d'.coming
    → d'.kept ≢ Some (keeps.Reply initialize) → (own.registered ≡ true → s.handshake ≡ Waiting → Stirs d' s stream')
    → (own.registered ≡ true → IsLogging d s stream → AreCompletions (news_among stream')) → IsAnew d' s own stream'
anew_next d d' s own stream stream' is idle kept queue apart stirs complete = record {
  idle = idle;
  kept = kept;
  queue = queue;
  unsent = is.unsent;
  first = λ there keeps'. absurd (apart keeps');
  stirs = stirs;
  logging = λ there logs.
      let before = is.logging there logs in
      record { up = before.up; complete = complete there before; entry = apart; last = before.last };
}

pub none_apart : (kept : Option Kept) → kept ≡ None → kept ≢ Some (keeps.Reply initialize)
none_apart kept none is = no_reply kept initialize none is

pub none_shake : (kept : Option Kept) → kept ≡ None → KeepsShake kept
none_shake kept none = subst KeepsShake (sym none) tt

-- ---- where it waits

new_sends : (d d' : Doing) → SendsKept d d' → IsNew d → IsNew d'
new_sends d d' step is = record {
  going = step.line.ended ∙ is.going;
  waiting = step.line.handshake ∙ is.waiting;
  idle = idle_aside d d' step.aside is.idle;
  kept = none_shake d'.kept step.kept;
  event = step.line.event ∙ is.event;
}

unheard_sends : (d d' : Doing) (own : EndState) (stream : List Entry) → SendsKept d d' → (is : IsUnheard d own stream) → IsUnheard d' own (stream ++ put_there own initialize)
unheard_sends d d' own stream step is = record {
  new = new_sends d d' step is.new;
  registered = is.registered;
  gone = put_so (λ (list : List Entry). tells_gone list ≡ true) own stream initialize is.registered (gone_more stream initialize is.gone);
  queue = early_or d d' step.coming is.queue;
  begins = inl (
    put_so (λ (list : List Entry). HasEntry initialize (behind_gone list)) own stream initialize is.registered
        (subst (HasEntry initialize) (sym (behind_other stream initialize refl is.gone)) (has_last initialize (behind_gone stream))),
    step.kept,
  );
}

-- it was Initialize
unheard_kept : (d d' : Doing) (own : EndState) (stream : List Entry) → SendsKept d d' → IsUnheard d own stream → d.kept ≡ Some (keeps.Reply initialize)
unheard_kept d d' own stream step is = by is.begins
  where
    by : (HasEntry initialize (behind_gone stream) × (d.kept ≡ None)) ⊎ ((behind_gone stream ≡ []) × (d.kept ≡ Some (keeps.Reply initialize))) → d.kept ≡ Some (keeps.Reply initialize)
    by (inl none) = absurd (no_reply d.kept step.entry none.1 step.was)
    by (inr kept) = kept.1

-- ---- where a login was asked for

coming_sends : (d d' : Doing) (own : EndState) (ask : Ask) → SendsKept d d' → IsComing d own ask → IsComing d' own ask
coming_sends d d' own ask step is = record {
  idle = idle_aside d d' step.aside is.idle;
  kept = none_shake d'.kept step.kept;
  entry = none_apart d'.kept step.kept;
  front = is.front;
  back = is.back;
  queue = step.coming ∙ is.queue;
  shakes = is.shakes;
  behind = is.behind;
  shows = shows_known d.client d'.client step.aside.client (slot_address ask.slot) ask.bytes is.shows;
}

serving_sends : (d d' : Doing) (own : EndState) (ask : Ask) → SendsKept d d' → IsServing d own ask → IsServing d' own ask
serving_sends d d' own ask step serves =
    serving_as d d' own ask (ap (λ (l : LoginState). l.current) step.aside.logins) step.aside.served.pending step.line.handshake (queue_as own d.coming d'.coming step.coming serves.queue) serves

taken_sends : (d d' : Doing) (own : EndState) (ask : Ask) → SendsKept d d' → IsTaken d own ask → IsTaken d' own ask
taken_sends d d' own ask step is = record {
  serves = serving_sends d d' own ask step is.serves;
  stage = step.aside.served.stage ∙ is.stage;
  kept = none_shake d'.kept step.kept;
  entry = none_apart d'.kept step.kept;
}

prepared_sends : (d d' : Doing) (own : EndState) (ask : Ask) → SendsKept d d' → IsPrepared d own ask → IsPrepared d' own ask
prepared_sends d d' own ask step is = record {
  serves = serving_sends d d' own ask step is.serves;
  outcome = is.outcome;
  stage = step.aside.served.stage ∙ is.stage;
  grants = is.grants;
  answer = answer_as d d' ask is.outcome step.stays.granted step.aside.served.answer is.answer;
  kept = none_shake d'.kept step.kept;
  entry = none_apart d'.kept step.kept;
}

written_sends : (granted : ℕ) (d d' : Doing) (own : EndState) (ask : Ask) → SendsKept d d' → IsWritten granted d own ask → IsWritten granted d' own ask
written_sends granted d d' own ask step is = record {
  serves = serving_sends d d' own ask step is.serves;
  outcome = is.outcome;
  stage = step.aside.served.stage ∙ is.stage;
  grants = is.grants;
  iu = is.iu;
  stands = subst (λ (bytes : List ℕ). AnswerStands granted d'.id d'.client ask (length bytes) is.outcome is.iu) (sym step.aside.served.answer)
      (answer_known granted d.id d'.id d.client d'.client ask (length d.answer) is.outcome is.iu step.stays.id step.aside.client is.stands);
  kept = inl (none_shake d'.kept step.kept);
  entry = none_apart d'.kept step.kept;
}

pub written_shake : (kept : Option Kept) (answer : Kept) (entry : Entry) → KeepsShake kept ⊎ (kept ≡ Some answer) → answer ≢ keeps.Reply entry → kept ≡ Some (keeps.Reply entry) → KeepsShake kept
written_shake kept answer entry (inl shake) apart is = shake
written_shake kept answer entry (inr kept') apart is = absurd (apart (same kept answer (keeps.Reply entry) kept' is))
  where
    same : (kept : Option Kept) (a b : Kept) → kept ≡ Some a → kept ≡ Some b → a ≡ b
    same kept a b is other = cc (is, other)

-- ---- the step

-- it is put behind what the client is to look at
sends_on : (granted : ℕ) (failed : Bool) (d d' : Doing) (s : ClientState) (own : EndState) (stream : List Entry) (answered lost : List Ask) (step : SendsKept d d') → d.reaches ≡ own.registered
    → IsShake step.entry → StandsOver granted failed d' s own (stream ++ put_there own step.entry) answered lost → LeadsOn granted failed d d' s own stream answered lost
sends_on granted failed d d' s own stream answered lost step reached shake stands =
    record { more = put_there own step.entry; put = sends_put d d' own step.entry reached step.sent; news = there_news own step.entry shake; stands = stands }

pub stale_sends : (granted : ℕ) (failed : Bool) (d d' : Doing) (s : ClientState) (own : EndState) (stream : List Entry) (answered lost : List Ask) → d.reaches ≡ own.registered → SendsKept d d'
    → IsStale d → LeadsOn granted failed d d' s own stream answered lost
stale_sends granted failed d d' s own stream answered lost reached step is =
    sends_on granted failed d d' s own stream answered lost step reached (kept_shake d.kept step.entry is.new.kept step.was)
    (inr (inl (record { new = new_sends d d' step is.new; early = early_as d d' step.coming is.early })))

pub unheard_sends_on : (granted : ℕ) (failed : Bool) (d d' : Doing) (s : ClientState) (own : EndState) (stream : List Entry) (answered lost : List Ask) → d.reaches ≡ own.registered → SendsKept d d'
    → IsUnheard d own stream → LeadsOn granted failed d d' s own stream answered lost
unheard_sends_on granted failed d d' s own stream answered lost reached step is =
    sends_on granted failed d d' s own stream answered lost step reached (inl begins)
    (subst (λ (entry : Entry). StandsOver granted failed d' s own (stream ++ put_there own entry) answered lost) (sym begins) (inr (inr (inl (unheard_sends d d' own stream step is)))))
  where
    begins : step.entry ≡ initialize
    begins = same_reply d.kept step.entry initialize step.was (unheard_kept d d' own stream step is)

sends_going : (d d' : Doing) (s : ClientState) (own : EndState) (stream : List Entry) (step : SendsKept d d') → IsShake step.entry → IsGoing d s own stream
    → IsGoing d' s own (stream ++ put_there own step.entry)
sends_going d d' s own stream step shake goes = record {
  going = step.line.ended ∙ goes.going;
  event = step.line.event ∙ goes.event;
  open_is = λ down. goes.open_is (sym step.line.handshake ∙ down);
  none_gone = put_none_gone own stream step.entry shake goes.none_gone;
  aware = goes.aware;
}

pub anew_sends : (granted : ℕ) (failed : Bool) (d d' : Doing) (s : ClientState) (own : EndState) (stream : List Entry) (answered lost : List Ask) → d.reaches ≡ own.registered → SendsKept d d'
    → IsGoing d s own stream → IsAnew d s own stream → LeadsOn granted failed d d' s own stream answered lost
anew_sends granted failed d d' s own stream answered lost reached step goes is =
    sends_on granted failed d d' s own stream answered lost step reached shake
    (anew_again granted failed d' s own (stream ++ put_there own step.entry) answered lost (sends_going d d' s own stream step shake goes)
    (anew_next d d' s own stream (stream ++ put_there own step.entry) is (idle_aside d d' step.aside is.idle) (none_shake d'.kept step.kept)
    (subst AreShakes (sym step.coming) is.queue) (none_apart d'.kept step.kept) (λ there waits. put_stirs d' s own stream step.entry shake there)
    (λ there logs. put_so (λ (list : List Entry). AreCompletions (news_among list)) own stream step.entry there
    (completions_last stream step.entry shake (kept_complete d.kept step.entry is.kept step.was logs.entry) logs.complete))))
  where
    shake : IsShake step.entry
    shake = kept_shake d.kept step.entry is.kept step.was

pub joins_sends : (granted : ℕ) (failed : Bool) (d d' : Doing) (s : ClientState) (own : EndState) (stream : List Entry) (answered lost : List Ask) → d.reaches ≡ own.registered → SendsKept d d'
    → IsGoing d s own stream → (own.registered ≡ true) ⊎ (failed ≡ true) → Joins granted d s own stream answered lost → LeadsOn granted failed d d' s own stream answered lost
joins_sends granted failed d d' s own stream answered lost reached step goes there j = by j.where_is
  where
    stream' : List Entry
    stream' = stream ++ put_there own step.entry

    -- its entry is Complete
    on : KeepsShake d.kept → d.kept ≢ Some (keeps.Reply initialize) → (answered ≡ []) × (lost ≡ j.ask ∷ [])
        → IsComing d' own j.ask ⊎ (IsTaken d' own j.ask ⊎ (IsPrepared d' own j.ask ⊎ IsWritten granted d' own j.ask)) → LeadsOn granted failed d d' s own stream answered lost
    on kept apart parts there_is =
        let shake = kept_shake d.kept step.entry kept step.was in
        sends_on granted failed d d' s own stream answered lost step reached shake
        (joins_again granted failed d' s own stream' answered lost (sends_going d d' s own stream step shake goes) there
        (record { ask = j.ask; has = asked_put s own stream step.entry j.ask shake (kept_complete d.kept step.entry kept step.was apart) j.has; where_is = inl (parts, there_is) }))

    by : (((answered ≡ []) × (lost ≡ j.ask ∷ [])) × (IsComing d own j.ask ⊎ (IsTaken d own j.ask ⊎ (IsPrepared d own j.ask ⊎ IsWritten granted d own j.ask))))
        ⊎ (((answered ≡ j.ask ∷ []) × (lost ≡ [])) × IsGranted d s own stream) → LeadsOn granted failed d d' s own stream answered lost
    by (inl (parts, inl c)) = on c.kept c.entry parts (inl (coming_sends d d' own j.ask step c))
    by (inl (parts, inr (inl t))) = on t.kept t.entry parts (inr (inl (taken_sends d d' own j.ask step t)))
    by (inl (parts, inr (inr (inl p)))) = on p.kept p.entry parts (inr (inr (inl (prepared_sends d d' own j.ask step p))))
    by (inl (parts, inr (inr (inr w)))) =
        on (written_shake d.kept (keeps.Answer (entry_for w.serves.request d.answer) w.outcome) step.entry w.kept (λ is. cc (is)) step.was) w.entry parts
        (inr (inr (inr (written_sends granted d d' own j.ask step w))))
    by (inr (parts, g)) = absurd (no_reply d.kept step.entry g.kept step.was)
