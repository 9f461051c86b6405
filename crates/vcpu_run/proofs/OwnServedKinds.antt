-- What a turn of a server unit puts into its client's queue is of the kinds that its tags say: an entry of the initialisation or an event, a
-- response, or the answer to a login, whether the client talks to the unit or its session is over, or was.
use Rattle.std.proofs.Common.{◌≡◌, ◌∙◌, ◌⊎◌, inl, inr, ℕ, ◌==◌, ◌||◌, ◌++◌, cond, All, Bool, true, false, true≢false, List, [], ◌∷◌, Some, None, MatchOption, append-nil, length, refl, sym, ap, subst}
use Rattle.std.proofs.lemmas.Bool.{eqb-true}
use Rattle.std.proofs.lemmas.List.Elements.{All-append, All-cons, All-head, All-nil, All-tail, All-weaker}
use Rattle.vio_num.specs.Entry.{initialization_complete, initialize, is_srp_entry, partner_freed, srp_entry}
use Rattle.vio_num.specs.declared.entry.Entry.{Entry}
use Rattle.crq_ring.specs.declared.rows.PipeRow.{PipeRow}
use Rattle.crq_session.specs.EndState.{EndState}
use Rattle.crq_session.specs.Handshake.{step_after, step_entry}
use Rattle.crq_session.specs.declared.handshake.Step.{Step}
use Rattle.crq_session.specs.declared.handshake.Step.TheVariants.{Nothing, SendInitialize, SendComplete}
use Rattle.srp_iu.specs.declared.unit.Iu.{Iu}
use Rattle.srp_iu.specs.declared.unit.Iu.TheVariants as units
use Rattle.block_server.specs.Doings.{Does, DoesOne, Doing, DropsAll, FreesLine, HearsInit, KeepsEntry, LeadsOver, LogsOutFirst, LosesEntry, OpensLine, Prepares, PutsEntry, SendsKept, SendsOrKeeps, SettlesEvent, TakesRequest, TellsNobody, TellsPartner, WritesAnswer, entry_for, event_put, rows_to}
use Rattle.block_server.specs.Entries.{is_response, is_response_len, rsp_code_len, rsp_len, rsp_sense_len}
use Rattle.block_server.specs.Stage.{fits}
use Rattle.block_server.specs.Talk.{PutsReplies, Suits, Word, order_asked, replies}
use Rattle.block_server.specs.declared.line.Kept.TheVariants as keeps
use Rattle.block_server.specs.declared.request.Request.{Request}
use Rattle.block_server.specs.declared.service.Outcome.{Outcome}
use Rattle.block_server.specs.declared.service.Outcome.TheVariants as outcomes
use Rattle.vscsi_client.specs.State.{ClientState}
use Rattle.vscsi_client.specs.declared.outgoing.Outgoing.{Outgoing}
use Rattle.vscsi_client.specs.declared.row.Row.{Row}
use Rattle.vscsi_client.specs.declared.stage.Stage.{Stage}
use Rattle.vscsi_client.specs.declared.stage.Stage.TheVariants.{Idle, Sent, Written}
use Rattle.vcpu_run.specs.OwnKinds.{IsLoginTag, IsOfKind, IsOfLogin}
use Rattle.vcpu_run.specs.OwnOver.{IsComing, IsGranted, IsOver, IsPrepared, IsTaken, IsWritten, Joins, KeepsShake, stream_of}
use Rattle.vcpu_run.specs.OwnTurns.{AwaitsAll, IsServedAt, StillTalks, TalksWithin}
use Rattle.vcpu_run.specs.PlainTalk.{ArePending, Ask, is_login, is_sent, login_name}
use Rattle.vcpu_run.proofs.OverAnew.{IsPlainNews, no_reply}
use Rattle.vcpu_run.proofs.OverDoes.{answer_entry, none_pending, over_does, start_entry}
use Rattle.vcpu_run.proofs.OverKinds.{shake_no_srp}
use Rattle.vcpu_run.proofs.OverListens.{over_datagram}
use Rattle.vcpu_run.proofs.OverPhases.{StandsOver, rejoins_by}
use Rattle.vcpu_run.proofs.OverSends.{kept_shake, written_shake}
use Rattle.vcpu_run.proofs.OverServes.{same_request}
use Rattle.vcpu_run.proofs.OverShut.{event_news}
use Rattle.vcpu_run.proofs.OverSteps.{IsJoining, heard_by, served_by}
use Rattle.vcpu_run.proofs.OwnDoes.{TalksOrOver, talks_does}
use Rattle.vcpu_run.proofs.OwnNever.{never_datagram, never_frees, never_inits, never_opens, never_sends}
use Rattle.vcpu_run.proofs.OwnPuts.{over_suits}
use Rattle.vcpu_run.proofs.PlainEnds.{has_login_mid}
use Rattle.vcpu_run.proofs.PlainFits.{said_all}
use Rattle.vcpu_run.proofs.PlainGiven.{put_rows}
use Rattle.vcpu_run.proofs.PlainLists.{last_login}
use Rattle.vcpu_run.proofs.PlainServed.{pending_first}
use Rattle.vcpu_run.proofs.PlainTells.{IsLastAsked, login_named}

-- What was put into the client's queue is of the kinds that its tags say.
abbrev pub PutOfKind : Doing → ClientState → Type 0
PutOfKind d s = All (λ (row : PipeRow). IsOfKind s.rows row.entry) d.sent

-- ---- what is put

-- the entries of these rows are
abbrev AreOfKind : List Row → List PipeRow → Type 0
AreOfKind rs sent = All (λ (row : PipeRow). IsOfKind rs row.entry) sent

-- an entry that carries no information unit is
other_kind : (rs : List Row) (entry : Entry) → is_srp_entry entry ≡ false → IsOfKind rs entry
other_kind rs entry is = λ srp. absurd (true≢false (sym srp ∙ is))

news_kinds : (rs : List Row) (entries : List Entry) → All IsPlainNews entries → All (IsOfKind rs) entries
news_kinds rs entries news = All-weaker IsPlainNews (IsOfKind rs) (λ entry is. other_kind rs entry is.0) entries news

kinds_rows : (rs : List Row) (q : ℕ) (entries : List Entry) → All (IsOfKind rs) entries → AreOfKind rs (rows_to q entries)
kinds_rows rs q [] kinds = All-nil (λ (row : PipeRow). IsOfKind rs row.entry)
kinds_rows rs q (entry ∷ entries) kinds =
    All-cons (λ (row : PipeRow). IsOfKind rs row.entry) (record { session = q; entry = entry }) (rows_to q entries) (All-head (IsOfKind rs) entry entries kinds)
    (kinds_rows rs q entries (All-tail (IsOfKind rs) entry entries kinds))

put_same : (rs : List Row) (sent sent' : List PipeRow) → sent' ≡ sent → AreOfKind rs sent → AreOfKind rs sent'
put_same rs sent sent' same put = subst (AreOfKind rs) (sym same) put

put_more : (rs : List Row) (q : ℕ) (sent sent' : List PipeRow) (entries : List Entry) → sent' ≡ sent ++ rows_to q entries → All (IsOfKind rs) entries → AreOfKind rs sent → AreOfKind rs sent'
put_more rs q sent sent' entries more kinds put =
    subst (AreOfKind rs) (sym more) (All-append (λ (row : PipeRow). IsOfKind rs row.entry) sent (rows_to q entries) put (kinds_rows rs q entries kinds))

-- these were put, if they could be
put_if : (rs : List Row) (b : Bool) (q : ℕ) (sent sent' : List PipeRow) (entries : List Entry) → sent' ≡ sent ++ cond b (rows_to q entries) [] → All (IsOfKind rs) entries → AreOfKind rs sent
    → AreOfKind rs sent'
put_if rs true q sent sent' entries more kinds put = put_more rs q sent sent' entries more kinds put
put_if rs false q sent sent' entries more kinds put = put_same rs sent sent' (more ∙ append-nil sent) put

one_kind : (rs : List Row) (entry : Entry) → IsOfKind rs entry → All (IsOfKind rs) (entry ∷ [])
one_kind rs entry is = All-cons (IsOfKind rs) entry [] is (All-nil (IsOfKind rs))

-- ---- the entry of an answer

-- one of such a length is that of a response
response_long : (n tag : ℕ) → is_response_len n ≡ true → is_response (srp_entry n tag) ≡ true
response_long n tag is = by (n == rsp_len) (n == rsp_code_len) (n == rsp_sense_len) refl refl refl is
  where
    at : (k : ℕ) → (n == k) ≡ true → is_response (srp_entry k tag) ≡ true → is_response (srp_entry n tag) ≡ true
    at k same long = subst (λ m. is_response (srp_entry m tag) ≡ true) (sym (eqb-true n k same)) long

    by : (a b c : Bool) → (n == rsp_len) ≡ a → (n == rsp_code_len) ≡ b → (n == rsp_sense_len) ≡ c → (a || (b || c)) ≡ true → is_response (srp_entry n tag) ≡ true
    by true b c first second third is = at rsp_len first refl
    by false true c first second third is = at rsp_code_len second refl
    by false false true first second third is = at rsp_sense_len third refl
    by false false false first second third is = absurd (true≢false (sym is))

entry_kind : (rs : List Row) (request : Request) (answer : List ℕ) → (is_response_len (length answer) ≡ true) ⊎ IsLoginTag rs request.tag → IsOfKind rs (entry_for request answer)
entry_kind rs request answer (inl long) = λ srp. inl (response_long (length answer) request.tag long)
entry_kind rs request answer (inr login) = λ srp. inr login

-- what is granted, or rejected, is a login
grants_login : (current number : ℕ) (iu : Iu) → Suits current (order_asked iu) (outcomes.Granted number) → is_login iu ≡ true
grants_login current number (units.LoginReq request) suits = refl
grants_login current number iu suits = absurd suits

rejects_login : (current : ℕ) (iu : Iu) → Suits current (order_asked iu) outcomes.Rejected → is_login iu ≡ true
rejects_login current (units.LoginReq request) suits = refl
rejects_login current iu suits = absurd suits

response_or : (current n : ℕ) (iu : Iu) (outcome : Outcome) → Suits current (order_asked iu) outcome → fits outcome n ≡ true → (is_response_len n ≡ true) ⊎ (is_login iu ≡ true)
response_or current n iu (outcomes.Granted number) suits long = inr (grants_login current number iu suits)
response_or current n iu outcomes.Rejected suits long = inr (rejects_login current iu suits)
response_or current n iu (outcomes.Served row) suits long = inl long

-- ---- while the client talks

-- A login that is asked is that which is under way.
asked_login : (s : ClientState) (front : List Ask) (ask : Ask) (more : List Ask) → AwaitsAll s (front ++ ask ∷ more) → is_login ask.iu ≡ true → IsOfLogin s.rows s.login → IsLoginTag s.rows ask.tag
asked_login s front ask more awaits is login = by s.login refl
  where
    sent : (stage : Stage) → s.login ≡ stage → is_sent stage ≡ true
    sent stage at = sym (ap is_sent at) ∙ sym awaits.sent ∙ has_login_mid front ask more is

    last : IsLastAsked (front ++ ask ∷ more)
    last = record { front = front; login = ask; is = ap (λ (list : List Ask). front ++ ask ∷ list) (last_login front ask more awaits.order is); is_login = is }

    tag_is : (tag slot : ℕ) → s.login ≡ Sent tag slot → ask.tag ≡ tag
    tag_is tag slot at =
        ap (λ (name : Outgoing). name.tag)
        (login_named (front ++ ask ∷ more) s.outgoing tag slot last (awaits.awaited ∙ ap (λ (stage : Stage). s.outgoing ++ login_name stage) at))

    by : (stage : Stage) → s.login ≡ stage → IsLoginTag s.rows ask.tag
    by Idle at = absurd (true≢false (sym (sent Idle at)))
    by (Written tag slot) at = absurd (true≢false (sym (sent (Written tag slot) at)))
    by (Sent tag slot) at = subst (IsLoginTag s.rows) (sym (tag_is tag slot at)) (subst (IsOfLogin s.rows) at login)

talks_puts : (granted : ℕ) (d d' : Doing) (s : ClientState) (own : EndState) (coming0 whole0 : List Ask) → StillTalks granted d s own coming0 whole0 → IsOfLogin s.rows s.login → PutsEntry d d'
    → PutOfKind d s → PutOfKind d' s
talks_puts granted d d' s own coming0 whole0 still login step put =
    let first = pending_first step.request d'.pending still.pending (subst (λ (requests : List Request). ArePending requests still.pending) step.pending still.talks.pends) in
    let talks : TalksWithin granted d s own still.answered (first.0 ∷ first.1) still.coming still.answers =
    subst (λ (pending : List Ask). TalksWithin granted d s own still.answered pending still.coming still.answers) first.2 still.talks in
    let suits = over_suits granted d step.outcome first.0 first.1 (subst (IsServedAt granted d (first.0 ∷ first.1)) step.first talks.served).1 in
    put_if s.rows d.reaches d.to d.sent d'.sent (entry_for step.request d.answer ∷ []) step.sent
    (one_kind s.rows (entry_for step.request d.answer) (entry_kind s.rows step.request d.answer
    (of_ask first.0 first.1 first.3.tag talks.all (response_or suits.0 (length d.answer) first.0.iu step.outcome suits.1 step.long)))) put
  where
    of_ask : (ask : Ask) (more : List Ask) → step.request.tag ≡ ask.tag → AwaitsAll s (still.answered ++ (ask ∷ (more ++ still.coming)))
        → (is_response_len (length d.answer) ≡ true) ⊎ (is_login ask.iu ≡ true) → (is_response_len (length d.answer) ≡ true) ⊎ IsLoginTag s.rows step.request.tag
    of_ask ask more tag awaits (inl long) = inl long
    of_ask ask more tag awaits (inr is) = inr (subst (IsLoginTag s.rows) (sym tag) (asked_login s still.answered ask (more ++ still.coming) awaits is login))

-- ---- where the session is over

-- the event that is kept, if one is
over_event : (granted : ℕ) (failed : Bool) (d : Doing) (s : ClientState) (own : EndState) → IsOver granted failed d s own → (d.event ≡ None) ⊎ (d.event ≡ Some partner_freed)
over_event granted failed d s own is =
    heard_by granted failed d s own (stream_of s is.rest) is.answered is.lost (λ shut. shut.event) (λ new queue. inl new.event) (λ goes anew. inl goes.event)
    (λ ask joins coming. inl joins.goes.event) (λ goes queue. inl goes.event) is.phase

-- what is kept that answers nothing carries no information unit
over_reply : (granted : ℕ) (failed : Bool) (d : Doing) (s : ClientState) (own : EndState) → IsOver granted failed d s own → (entry : Entry) → d.kept ≡ Some (keeps.Reply entry)
    → is_srp_entry entry ≡ false
over_reply granted failed d s own is entry was = by is.phase
  where
    stream : List Entry
    stream = stream_of s is.rest

    shake : KeepsShake d.kept → is_srp_entry entry ≡ false
    shake kept = shake_no_srp entry (kept_shake d.kept entry kept was)

    joined : (j : Joins granted d s own stream is.answered is.lost)
        → (((is.answered ≡ []) × (is.lost ≡ j.ask ∷ [])) × (IsComing d own j.ask ⊎ (IsTaken d own j.ask ⊎ (IsPrepared d own j.ask ⊎ IsWritten granted d own j.ask))))
        ⊎ (((is.answered ≡ j.ask ∷ []) × (is.lost ≡ [])) × IsGranted d s own stream) → is_srp_entry entry ≡ false
    joined j (inl (parts, inl c)) = shake c.kept
    joined j (inl (parts, inr (inl t))) = shake t.kept
    joined j (inl (parts, inr (inr (inl p)))) = shake p.kept
    joined j (inl (parts, inr (inr (inr w)))) = shake (written_shake d.kept (keeps.Answer (entry_for w.serves.request d.answer) w.outcome) entry w.kept (λ same. cc (same)) was)
    joined j (inr (parts, g)) = absurd (no_reply d.kept entry g.kept was)

    by : StandsOver granted failed d s own stream is.answered is.lost → is_srp_entry entry ≡ false
    by (inl shut) = absurd (no_reply d.kept entry shut.kept was)
    by (inr (inl stale)) = shake stale.new.kept
    by (inr (inr (inl unheard))) = shake unheard.new.kept
    by (inr (inr (inr back))) =
        rejoins_by granted failed d s own stream is.answered is.lost (λ anew. shake anew.kept) (λ there joins. joined joins joins.where_is) back

-- the answer that is put is that of the login which is under way
over_login : (granted : ℕ) (failed : Bool) (d d' : Doing) (s : ClientState) (own : EndState) → IsOver granted failed d s own → IsOfLogin s.rows s.login → (step : PutsEntry d d')
    → IsLoginTag s.rows step.request.tag
over_login granted failed d d' s own is login step =
    served_by granted failed d s own stream is.answered is.lost (λ none. absurd (none_pending d.pending step.request d'.pending none step.pending))
    (λ ask joins taken. absurd (start_entry d.stage step.outcome taken.stage step.first)) (λ ask joins prepared. absurd (answer_entry d.stage prepared.outcome step.outcome prepared.stage step.first))
    (λ ask joins written. first ask joins written) is.phase
  where
    stream : List Entry
    stream = stream_of s is.rest

    first : (ask : Ask) → IsJoining failed d s own stream is.answered is.lost ask → IsWritten granted d own ask → IsLoginTag s.rows step.request.tag
    first ask joins written =
        subst (IsLoginTag s.rows)
        (sym (ap (λ (r : Request). r.tag) (same_request d.pending step.request written.serves.request d'.pending [] step.pending written.serves.pending) ∙ written.serves.is.tag))
        (subst (IsOfLogin s.rows) joins.has.login login)

over_puts : (granted : ℕ) (failed : Bool) (d d' : Doing) (s : ClientState) (own : EndState) → IsOver granted failed d s own → IsOfLogin s.rows s.login → PutsEntry d d' → PutOfKind d s → PutOfKind d' s
over_puts granted failed d d' s own is login step put =
    put_if s.rows d.reaches d.to d.sent d'.sent (entry_for step.request d.answer ∷ []) step.sent
    (one_kind s.rows (entry_for step.request d.answer) (entry_kind s.rows step.request d.answer (inr (over_login granted failed d d' s own is login step)))) put

-- ---- what answers no request

settles_kinds : (d d' : Doing) (s : ClientState) → (d.event ≡ None) ⊎ (d.event ≡ Some partner_freed) → SettlesEvent d d' → PutOfKind d s → PutOfKind d' s
settles_kinds d d' s event step put =
    put_more s.rows d.to d.sent d'.sent (event_put d.partner d.event) step.sent (news_kinds s.rows (event_put d.partner d.event) (event_news d.partner d.event event)) put

frees_kinds : (d d' : Doing) (s : ClientState) → FreesLine d d' → PutOfKind d s → PutOfKind d' s
frees_kinds d d' s step put = by step.tells
  where
    told : ((d'.sent ≡ d.sent ++ rows_to d.to (partner_freed ∷ [])) × (d'.event ≡ None)) ⊎ ((d'.sent ≡ d.sent) × (d'.event ≡ Some partner_freed)) → PutOfKind d' s
    told (inl (sent, none)) = put_more s.rows d.to d.sent d'.sent (partner_freed ∷ []) sent (one_kind s.rows partner_freed (other_kind s.rows partner_freed refl)) put
    told (inr (same, some)) = put_same s.rows d.sent d'.sent same put

    by : TellsPartner d d' ⊎ TellsNobody d d' → PutOfKind d' s
    by (inl tells) = told tells.told
    by (inr tells) = put_same s.rows d.sent d'.sent tells.sent put

opens_kinds : (d d' : Doing) (s : ClientState) → (d.event ≡ None) ⊎ (d.event ≡ Some partner_freed) → OpensLine d d' → PutOfKind d s → PutOfKind d' s
opens_kinds d d' s event step put = by step.sent
  where
    news : List Entry
    news = event_put d.partner d.event

    kinds : All (IsOfKind s.rows) news
    kinds = news_kinds s.rows news (event_news d.partner d.event event)

    by : ((d'.sent ≡ (d.sent ++ rows_to d.to news) ++ cond d'.reaches (rows_to d.to (initialize ∷ [])) []) × (d'.kept ≡ d.kept))
        ⊎ ((d'.reaches ≡ true) × (d'.sent ≡ d.sent ++ rows_to d.to news) × (d'.kept ≡ Some (keeps.Reply initialize))) → PutOfKind d' s
    by (inl (sent, kept)) =
        put_if s.rows d'.reaches d.to (d.sent ++ rows_to d.to news) d'.sent (initialize ∷ []) sent (one_kind s.rows initialize (other_kind s.rows initialize refl))
        (put_more s.rows d.to d.sent (d.sent ++ rows_to d.to news) news refl kinds put)
    by (inr (up, sent, kept)) = put_more s.rows d.to d.sent d'.sent news sent kinds put

sends_kinds : (d d' : Doing) (s : ClientState) (step : SendsKept d d') → is_srp_entry step.entry ≡ false → PutOfKind d s → PutOfKind d' s
sends_kinds d d' s step other put = put_if s.rows d.reaches d.to d.sent d'.sent (step.entry ∷ []) step.sent (one_kind s.rows step.entry (other_kind s.rows step.entry other)) put

hears_kinds : (d d' : Doing) (s : ClientState) → HearsInit d d' → PutOfKind d s → PutOfKind d' s
hears_kinds d d' s step put = by (step_after d.handshake step.entry) step.sent
  where
    reply : (entry : Entry) → is_srp_entry entry ≡ false → SendsOrKeeps d d' entry → PutOfKind d' s
    reply entry other (inl (sent, kept)) = put_if s.rows d.reaches d.to d.sent d'.sent (entry ∷ []) sent (one_kind s.rows entry (other_kind s.rows entry other)) put
    reply entry other (inr (up, same, kept)) = put_same s.rows d.sent d'.sent same put

    by : (next : Step) → MatchOption (step_entry next) ((d'.sent ≡ d.sent) × (d'.kept ≡ d.kept)) (SendsOrKeeps d d') → PutOfKind d' s
    by Nothing sent = put_same s.rows d.sent d'.sent sent.0 put
    by SendInitialize sent = reply initialize refl sent
    by SendComplete sent = reply initialization_complete refl sent

-- ---- a step

-- of the service of requests, and of what ends it
abbrev ServesOne : (old new : Doing) → Type 0
ServesOne old new =
    TakesRequest old new
    ⊎ (DropsAll old new ⊎ (LogsOutFirst old new ⊎ (Prepares old new ⊎ (WritesAnswer old new ⊎ (KeepsEntry old new ⊎ (PutsEntry old new ⊎ LosesEntry old new))))))

serves_kinds : (d d' : Doing) (s : ClientState) → (PutsEntry d d' → PutOfKind d' s) → ServesOne d d' → PutOfKind d s → PutOfKind d' s
serves_kinds d d' s puts (inl step) put = put_same s.rows d.sent d'.sent step.put.sent put
serves_kinds d d' s puts (inr (inl step)) put = put_same s.rows d.sent d'.sent step.put.sent put
serves_kinds d d' s puts (inr (inr (inl step))) put = put_same s.rows d.sent d'.sent step.put.sent put
serves_kinds d d' s puts (inr (inr (inr (inl step)))) put = put_same s.rows d.sent d'.sent step.sent put
serves_kinds d d' s puts (inr (inr (inr (inr (inl step))))) put = put_same s.rows d.sent d'.sent step.sent put
serves_kinds d d' s puts (inr (inr (inr (inr (inr (inl step)))))) put = put_same s.rows d.sent d'.sent step.put.sent put
serves_kinds d d' s puts (inr (inr (inr (inr (inr (inr (inl step))))))) put = puts step
serves_kinds d d' s puts (inr (inr (inr (inr (inr (inr (inr step))))))) put = put_same s.rows d.sent d'.sent step.put.sent put

talks_kinds : (granted : ℕ) (d d' : Doing) (s : ClientState) (own : EndState) (coming0 whole0 : List Ask) → StillTalks granted d s own coming0 whole0 → IsOfLogin s.rows s.login → DoesOne d d'
    → PutOfKind d s → PutOfKind d' s
talks_kinds granted d d' s own coming0 whole0 still login (inl step) put = put_same s.rows d.sent d'.sent step.sent put
talks_kinds granted d d' s own coming0 whole0 still login (inr (inl step)) put = settles_kinds d d' s (inl still.talks.goes.event) step put
talks_kinds granted d d' s own coming0 whole0 still login (inr (inr (inl step))) put = absurd (never_frees granted d d' s own coming0 whole0 still step)
talks_kinds granted d d' s own coming0 whole0 still login (inr (inr (inr (inl step)))) put = absurd (never_opens granted d d' s own coming0 whole0 still step)
talks_kinds granted d d' s own coming0 whole0 still login (inr (inr (inr (inr (inl step))))) put = absurd (never_sends granted d d' s own coming0 whole0 still step)
talks_kinds granted d d' s own coming0 whole0 still login (inr (inr (inr (inr (inr (inl step)))))) put = absurd (never_inits granted d d' s own coming0 whole0 still step)
talks_kinds granted d d' s own coming0 whole0 still login (inr (inr (inr (inr (inr (inr (inl step))))))) put = absurd (never_datagram granted d d' s own coming0 whole0 still step)
talks_kinds granted d d' s own coming0 whole0 still login (inr (inr (inr (inr (inr (inr (inr (inl step)))))))) put = put_same s.rows d.sent d'.sent step.sent put
talks_kinds granted d d' s own coming0 whole0 still login (inr (inr (inr (inr (inr (inr (inr (inr rest)))))))) put =
    serves_kinds d d' s (λ step. talks_puts granted d d' s own coming0 whole0 still login step put) rest put

over_kinds : (granted : ℕ) (failed : Bool) (d d' : Doing) (s : ClientState) (own : EndState) → IsOver granted failed d s own → IsOfLogin s.rows s.login → DoesOne d d' → PutOfKind d s → PutOfKind d' s
over_kinds granted failed d d' s own is login (inl step) put = put_same s.rows d.sent d'.sent step.sent put
over_kinds granted failed d d' s own is login (inr (inl step)) put = settles_kinds d d' s (over_event granted failed d s own is) step put
over_kinds granted failed d d' s own is login (inr (inr (inl step))) put = frees_kinds d d' s step put
over_kinds granted failed d d' s own is login (inr (inr (inr (inl step)))) put = opens_kinds d d' s (over_event granted failed d s own is) step put
over_kinds granted failed d d' s own is login (inr (inr (inr (inr (inl step))))) put = sends_kinds d d' s step (over_reply granted failed d s own is step.entry step.was) put
over_kinds granted failed d d' s own is login (inr (inr (inr (inr (inr (inl step)))))) put = hears_kinds d d' s step put
over_kinds granted failed d d' s own is login (inr (inr (inr (inr (inr (inr (inl step))))))) put = absurd (over_datagram granted failed d d' s own is step)
over_kinds granted failed d d' s own is login (inr (inr (inr (inr (inr (inr (inr (inl step)))))))) put = put_same s.rows d.sent d'.sent step.sent put
over_kinds granted failed d d' s own is login (inr (inr (inr (inr (inr (inr (inr (inr rest)))))))) put =
    serves_kinds d d' s (λ step. over_puts granted failed d d' s own is login step put) rest put

-- ---- the turn

over_leads : (granted : ℕ) (failed : Bool) (s : ClientState) (own : EndState) → IsOfLogin s.rows s.login → (over : List Doing) (d d' : Doing) → IsOver granted failed d s own → LeadsOver over d d'
    → PutOfKind d s → PutOfKind d' s
over_leads granted failed s own login [] d d' is leads put = subst (λ (at : Doing). PutOfKind at s) (sym leads) put
over_leads granted failed s own login (next ∷ over) d d' is leads put =
    over_leads granted failed s own login over next d' (over_does granted failed d next s own is leads.0) leads.1 (over_kinds granted failed d next s own is login leads.0 put)

pub kinds_over_turn : (granted : ℕ) (failed : Bool) (d d' : Doing) (s : ClientState) (own : EndState) → IsOver granted failed d s own → IsOfLogin s.rows s.login → Does d d' → PutOfKind d s
    → PutOfKind d' s
kinds_over_turn granted failed d d' s own is login turn put = over_leads granted failed s own login turn.over d d' is turn.leads put

talks_leads : (granted : ℕ) (s : ClientState) (own : EndState) (coming0 whole0 : List Ask) → IsOfLogin s.rows s.login → (over : List Doing) (d d' : Doing)
    → TalksOrOver granted d s own coming0 whole0 → LeadsOver over d d' → PutOfKind d s → PutOfKind d' s
talks_leads granted s own coming0 whole0 login over d d' (inr is) leads put = over_leads granted false s own login over d d' is leads put
talks_leads granted s own coming0 whole0 login [] d d' (inl still) leads put = subst (λ (at : Doing). PutOfKind at s) (sym leads) put
talks_leads granted s own coming0 whole0 login (next ∷ over) d d' (inl still) leads put =
    talks_leads granted s own coming0 whole0 login over next d' (talks_does granted d next s own coming0 whole0 still leads.0) leads.1
    (talks_kinds granted d next s own coming0 whole0 still login leads.0 put)

pub kinds_turn : (granted : ℕ) (d d' : Doing) (s : ClientState) (own : EndState) (coming0 whole0 : List Ask) → TalksOrOver granted d s own coming0 whole0 → IsOfLogin s.rows s.login → Does d d'
    → PutOfKind d s → PutOfKind d' s
kinds_turn granted d d' s own coming0 whole0 talks login turn put = talks_leads granted s own coming0 whole0 login turn.over d d' talks turn.leads put

-- ---- what is put for what is heard of a plain client

-- that it was heard of is all that is said
pub kinds_heard : (s : ClientState) (server server' : EndState) (words : List Word) → PutsReplies server server' (replies words) → All (λ (row : PipeRow). IsOfKind s.rows row.entry) server.sent
    → All (λ (row : PipeRow). IsOfKind s.rows row.entry) server'.sent
kinds_heard s server server' words puts put =
    put_rows (IsOfKind s.rows) server server' (replies words) put (said_all (IsOfKind s.rows) (other_kind s.rows initialization_complete refl) words) puts
