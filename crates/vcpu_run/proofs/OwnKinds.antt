-- A client's tags keep what they were used for, whatever its lines do; and what it asked for, noted, or has under way is of these kinds.
use Rattle.std.proofs.Common.{◌≡◌, ◌∙◌, ◌⊎◌, inl, inr, ℕ, zero, suc, ◌≤◌, ◌<◌, ◌-◌, ◌==◌, ◌++◌, nat_le, All, Bool, true, false, true≢false, cond, IsSomeAnd, List, [], ◌∷◌, Ok, Err, None, Some, Result, arith, find, length, length-append, refl, sym, ap, subst, eq-eqb, eqb-true}
use Rattle.std.specs.Prelude.{◌+◌}
use Rattle.std.specs.List.{slice_index_or}
use Rattle.std.specs.Option.{option_map}
use Rattle.std.proofs.lemmas.Bool.Decides.{nat_tests}
use Rattle.std.proofs.lemmas.List.{length-set}
use Rattle.std.proofs.lemmas.List.Elements.{All-cons, All-head, All-nil, All-push, All-tail, All-weaker}
use Rattle.boot_text.specs.declared.verb.Verb.{Verb}
use Rattle.boot_text.specs.declared.verb.Verb.TheVariants as verbs
use Rattle.crq_ring.specs.declared.rows.PipeRow.{PipeRow}
use Rattle.crq_session.specs.EndState.{EndState}
use Rattle.crq_session.specs.declared.answers.RegAnswer.{RegAnswer}
use Rattle.crq_session.specs.declared.answers.RegAnswer.TheVariants as reg
use Rattle.crq_session.specs.declared.answers.SendAnswer.{SendAnswer}
use Rattle.srp_iu.specs.declared.response.Rsp.{Rsp as Response}
use Rattle.tce_window.specs.PortState.{PortState}
use Rattle.block_server.specs.Entries.{is_response}
use Rattle.vio_num.specs.declared.entry.Entry.{Entry}
use Rattle.vio_trace.specs.declared.rows.AnswerRow.{AnswerRow}
use Rattle.vscsi_client.specs.Login.{found_by}
use Rattle.vscsi_client.specs.Ports.{Ports}
use Rattle.vscsi_client.specs.State.{ClientState}
use Rattle.vscsi_client.specs.Taking.{Judges, TakesAs, TakesEntry, answered, row_answered, slot_of, taken_by, without_tag}
use Rattle.vscsi_client.specs.Turned.{LoginStep, RegistersAs, Runs, Site, Steps, is_dropped, sent_by, sent_stage, unlinked, written_at}
use Rattle.vscsi_client.specs.Turned.LoginStep.{Began, Looked, NotWritten, Put, RanOut, Registered, Took, TookNone, Wrote}
use Rattle.vscsi_client.specs.declared.answers.Refused.{Refused}
use Rattle.vscsi_client.specs.declared.answers.Taken.{Taken}
use Rattle.vscsi_client.specs.declared.answers.Taken.TheVariants as takens
use Rattle.vscsi_client.specs.declared.found.Found.{Found}
use Rattle.vscsi_client.specs.declared.found.Found.TheVariants as founds
use Rattle.vscsi_client.specs.declared.op.Op.{Op}
use Rattle.vscsi_client.specs.declared.outgoing.Outgoing.{Outgoing}
use Rattle.vscsi_client.specs.declared.row.Row.{Row}
use Rattle.vscsi_client.specs.declared.row.Row.TheVariants as rows
use Rattle.vscsi_client.specs.declared.stage.Due.{Due}
use Rattle.vscsi_client.specs.declared.stage.Due.TheVariants as dues
use Rattle.vscsi_client.specs.declared.stage.Stage.{Stage}
use Rattle.vscsi_client.specs.declared.stage.Stage.TheVariants.{Idle, Sent, Written}
use Rattle.unit_region.specs.declared.step.Step.{Step}
use Rattle.vcpu_run.specs.Acts.{Acting, ActsFor, LogsInOnce, LogsOutAs, NotesTaken, RefusesOp, ResetsFirst, ResetsOnce, SubmitsAs, TakesEach, TakesRest, TasksAs}
use Rattle.vcpu_run.specs.ActsAt.{FailsOnce}
use Rattle.vcpu_run.specs.OwnKinds.{IsAskedTag, IsLoginTag, IsOfKind, IsOfLogin, KeepsKinds, is_no_login}
use Rattle.vcpu_run.specs.TagRows.{row_at}
use Rattle.vcpu_run.specs.declared.script.Progress.{Progress}
use Rattle.vcpu_run.specs.declared.taking.Took as takings
use Rattle.vcpu_run.proofs.Announcing.{both_bools}
use Rattle.vcpu_run.proofs.Crediting.{here_or}
use Rattle.vcpu_run.proofs.TagsKept.{row_before, row_here, row_past, row_set, row_unset}

-- ---- rows

-- Behind these rows each tag is of the kind that it was of.
record StaysKind (rs rs' : List Row) : Type 0 where
  login : (tag : ℕ) → IsLoginTag rs tag → IsLoginTag rs' tag
  asked : (tag : ℕ) → IsAskedTag rs tag → IsAskedTag rs' tag

same_kind : (rs : List Row) → StaysKind rs rs
same_kind rs = record { login = λ tag is. is; asked = λ tag is. is }

-- a tag that has no row is none
asked_within : (rs : List Row) (tag : ℕ) → IsAskedTag rs tag → tag ≤ length rs
asked_within rs tag is = by (nat_le tag (length rs)) refl
  where
    by : (b : Bool) → nat_le tag (length rs) ≡ b → tag ≤ length rs
    by true e = grind (arith, nat_tests, e)
    by false e =
        let past : length rs < tag = grind (arith, nat_tests, e) in
        absurd (true≢false (sym is ∙ ap is_no_login (row_past rs tag past)))

more_kind : (rs : List Row) (row : Row) → StaysKind rs (rs ++ row ∷ [])
more_kind rs row = record {
  login = λ tag is. record {
    used = let long : length (rs ++ row ∷ []) ≡ length rs + 1 = length-append rs (row ∷ []) in omega (arith, long, is.used);
    row = row_before rs row tag is.used ∙ is.row;
  };
  asked = λ tag is. ap is_no_login (row_before rs row tag (asked_within rs tag is)) ∙ is;
}

-- an answer changes no kind
kind_answered : (response : Response) (row : Row) → is_no_login (row_answered response row) ≡ is_no_login row
kind_answered response (rows.Command dir at len said) = refl
kind_answered response rows.Login = refl
kind_answered response rows.Logout = refl
kind_answered response rows.Task = refl

used_kind : (rs : List Row) (tag : ℕ) (response : Response) → 1 ≤ tag → StaysKind rs (answered tag response rs)
used_kind rs tag response begun = record { login = logins; asked = others }
  where
    long : length (answered tag response rs) ≡ length rs
    long = length-set rs (tag - 1) (row_answered response (slice_index_or rs (tag - 1) rows.Login))

    else_row : (t : ℕ) → (tag == t) ≡ false → row_at (answered tag response rs) t ≡ row_at rs t
    else_row t e = row_unset rs tag t response begun (λ same. both_bools (tag == t) (eq-eqb tag t (sym same)) e)

    here_row : (t : ℕ) → tag ≡ t → t ≤ length rs → row_at (answered tag response rs) t ≡ row_answered response (row_at rs t)
    here_row t same within =
        subst (λ n. row_at (answered tag response rs) n ≡ row_answered response (row_at rs n)) same
        (row_set rs tag response begun (omega (arith, within, same)))

    logins : (t : ℕ) → IsLoginTag rs t → IsLoginTag (answered tag response rs) t
    logins t is = record { used = omega (arith, is.used, long); row = by (here_or tag t) }
      where
        by : ((tag == t) ≡ true) ⊎ ((tag == t) ≡ false) → row_at (answered tag response rs) t ≡ rows.Login
        by (inl e) = here_row t (eqb-true tag t e) is.used ∙ ap (row_answered response) is.row
        by (inr e) = else_row t e ∙ is.row

    others : (t : ℕ) → IsAskedTag rs t → IsAskedTag (answered tag response rs) t
    others t is = by (here_or tag t)
      where
        by : ((tag == t) ≡ true) ⊎ ((tag == t) ≡ false) → IsAskedTag (answered tag response rs) t
        by (inl e) = ap is_no_login (here_row t (eqb-true tag t e) (asked_within rs t is)) ∙ (kind_answered response (row_at rs t) ∙ is)
        by (inr e) = ap is_no_login (else_row t e) ∙ is

answered_kind : (rs : List Row) (tag : ℕ) (response : Response) → StaysKind rs (answered tag response rs)
answered_kind rs zero response = used_kind rs 1 response (omega arith)
answered_kind rs (suc n) response = used_kind rs (suc n) response (omega arith)

-- ---- what is asked, noted, under way, and put

all_asked : (rs rs' : List Row) → StaysKind rs rs' → (list : List Outgoing) → All (λ (o : Outgoing). IsAskedTag rs o.tag) list → All (λ (o : Outgoing). IsAskedTag rs' o.tag) list
all_asked rs rs' stays = All-weaker (λ (o : Outgoing). IsAskedTag rs o.tag) (λ (o : Outgoing). IsAskedTag rs' o.tag) (λ o is. stays.asked o.tag is)

all_noted : (rs rs' : List Row) → StaysKind rs rs' → (list : List AnswerRow) → All (λ (row : AnswerRow). IsAskedTag rs row.tag) list → All (λ (row : AnswerRow). IsAskedTag rs' row.tag) list
all_noted rs rs' stays = All-weaker (λ (row : AnswerRow). IsAskedTag rs row.tag) (λ (row : AnswerRow). IsAskedTag rs' row.tag) (λ row is. stays.asked row.tag is)

login_kind : (rs rs' : List Row) → StaysKind rs rs' → (stage : Stage) → IsOfLogin rs stage → IsOfLogin rs' stage
login_kind rs rs' stays (Written tag slot) is = stays.login tag is
login_kind rs rs' stays (Sent tag slot) is = stays.login tag is
login_kind rs rs' stays Idle is = tt

entry_kind : (rs rs' : List Row) → StaysKind rs rs' → (entry : Entry) → IsOfKind rs entry → IsOfKind rs' entry
entry_kind rs rs' stays entry is srp = by (is srp)
  where
    by : (is_response entry ≡ true) ⊎ IsLoginTag rs entry.low → (is_response entry ≡ true) ⊎ IsLoginTag rs' entry.low
    by (inl response) = inl response
    by (inr login) = inr (stays.login entry.low login)

kinds_on : (s s' : ClientState) (noted noted' : List AnswerRow) (sent : List PipeRow) → StaysKind s.rows s'.rows → All (λ (o : Outgoing). IsAskedTag s'.rows o.tag) s'.outgoing
    → All (λ (row : AnswerRow). IsAskedTag s'.rows row.tag) noted' → IsOfLogin s'.rows s'.login → KeepsKinds s noted sent → KeepsKinds s' noted' sent
kinds_on s s' noted noted' sent stays asked now login is = record {
  asked = asked;
  answered = now;
  login = login;
  put = All-weaker (λ (row : PipeRow). IsOfKind s.rows row.entry) (λ (row : PipeRow). IsOfKind s'.rows row.entry) (λ row kind. entry_kind s.rows s'.rows stays row.entry kind) sent is.put;
}

-- nothing of it changed
kinds_same : (s s' : ClientState) (noted : List AnswerRow) (sent : List PipeRow) → s'.rows ≡ s.rows → s'.outgoing ≡ s.outgoing → s'.login ≡ s.login
    → KeepsKinds s noted sent → KeepsKinds s' noted sent
kinds_same s s' noted sent same outgoing login is = record {
  asked = subst (λ (rs : List Row). All (λ (o : Outgoing). IsAskedTag rs o.tag) s'.outgoing) (sym same)
      (subst (All (λ (o : Outgoing). IsAskedTag s.rows o.tag)) (sym outgoing) is.asked);
  answered = subst (λ (rs : List Row). All (λ (row : AnswerRow). IsAskedTag rs row.tag) noted) (sym same) is.answered;
  login = subst (λ (rs : List Row). IsOfLogin rs s'.login) (sym same) (subst (IsOfLogin s.rows) (sym login) is.login);
  put = subst (λ (rs : List Row). All (λ (row : PipeRow). IsOfKind rs row.entry) sent) (sym same) is.put;
}

-- nothing is outstanding, or under way, any more
kinds_gone : (s s' : ClientState) (noted : List AnswerRow) (sent : List PipeRow) → s'.rows ≡ s.rows → s'.outgoing ≡ [] → s'.login ≡ Idle
    → KeepsKinds s noted sent → KeepsKinds s' noted sent
kinds_gone s s' noted sent same outgoing login is = record {
  asked = subst (All (λ (o : Outgoing). IsAskedTag s'.rows o.tag)) (sym outgoing) (All-nil (λ (o : Outgoing). IsAskedTag s'.rows o.tag));
  answered = subst (λ (rs : List Row). All (λ (row : AnswerRow). IsAskedTag rs row.tag) noted) (sym same) is.answered;
  login = subst (IsOfLogin s'.rows) (sym login) tt;
  put = subst (λ (rs : List Row). All (λ (row : PipeRow). IsOfKind rs row.entry) sent) (sym same) is.put;
}

-- a request more is asked for, that is no login
kinds_more : (s s' : ClientState) (noted : List AnswerRow) (sent : List PipeRow) (row : Row) (o : Outgoing) → is_no_login row ≡ true → o.tag ≡ length s.rows + 1 → s'.rows ≡ s.rows ++ row ∷ []
    → s'.outgoing ≡ s.outgoing ++ o ∷ [] → s'.login ≡ s.login → KeepsKinds s noted sent → KeepsKinds s' noted sent
kinds_more s s' noted sent row o kind tag more outgoing login is =
    kinds_on s s' noted noted sent stays
    (subst (All (λ (one : Outgoing). IsAskedTag s'.rows one.tag)) (sym outgoing)
    (All-push (λ (one : Outgoing). IsAskedTag s'.rows one.tag) s.outgoing o (all_asked s.rows s'.rows stays s.outgoing is.asked) here))
    (all_noted s.rows s'.rows stays noted is.answered) (subst (IsOfLogin s'.rows) (sym login) (login_kind s.rows s'.rows stays s.login is.login)) is
  where
    stays : StaysKind s.rows s'.rows
    stays = subst (StaysKind s.rows) (sym more) (more_kind s.rows row)

    here : IsAskedTag s'.rows o.tag
    here = subst (λ (rs : List Row). IsAskedTag rs o.tag) (sym more)
        (subst (IsAskedTag (s.rows ++ row ∷ [])) (sym tag) (ap is_no_login (row_here s.rows row) ∙ kind))

-- ---- a login

-- the same of a client alone
abbrev Kinds : List AnswerRow → List PipeRow → ClientState → Type 0
Kinds noted sent s = KeepsKinds s noted sent

registers_kinds : (noted : List AnswerRow) (sent : List PipeRow) (shared : Bool) (s s' : ClientState) (old new : EndState) (answer : RegAnswer) → RegistersAs shared s s' old new answer
    → Kinds noted sent s → Kinds noted sent s'
registers_kinds noted sent shared s s' old new reg.Resource did is = subst (Kinds noted sent) (sym did.2) is
registers_kinds noted sent shared s s' old new reg.Success did is = subst (Kinds noted sent) (sym did.2) (kinds_gone s _ noted sent refl refl refl is)
registers_kinds noted sent shared s s' old new (reg.Closed control) did is = subst (Kinds noted sent) (sym did.2) (kinds_gone s _ noted sent refl refl refl is)
registers_kinds noted sent shared s s' old new (reg.Busy number held) did is = subst (Kinds noted sent) (sym did.1) (kinds_gone s _ noted sent refl refl refl is)
registers_kinds noted sent shared s s' old new reg.Parameter did is = absurd did

found_kinds : (noted : List AnswerRow) (sent : List PipeRow) (entry : Entry) (found : Found) (s : ClientState) → Kinds noted sent s → Kinds noted sent (found_by entry found s)
found_kinds noted sent entry (founds.Granted credits) s is = kinds_gone s _ noted sent refl refl refl is
found_kinds noted sent entry (founds.Rejected reason) s is = kinds_on s _ noted noted sent (same_kind s.rows) is.asked is.answered tt is
found_kinds noted sent entry founds.Lost s is = kinds_gone s _ noted sent refl refl refl is
found_kinds noted sent entry founds.Step s is = kinds_same s _ noted sent refl refl refl is
found_kinds noted sent entry founds.Answer s is = kinds_same s _ noted sent refl refl refl is
found_kinds noted sent entry founds.Nothing s is = kinds_same s _ noted sent refl refl refl is
found_kinds noted sent entry (founds.InUse page word) s is = is

-- a login that is sent is the one that was written
stage_sent : (rs : List Row) (due : Due) (stage : Stage) → IsOfLogin rs stage → IsOfLogin rs (sent_stage due stage)
stage_sent rs dues.Login (Written tag slot) is = is
stage_sent rs dues.Login (Sent tag slot) is = is
stage_sent rs dues.Login Idle is = is
stage_sent rs dues.Initialize stage is = is
stage_sent rs dues.Complete stage is = is

put_kinds : (noted : List AnswerRow) (sent : List PipeRow) (due : Due) (others : List Due) (answer : SendAnswer) (s : ClientState) → Kinds noted sent s → Kinds noted sent (sent_by due others answer s)
put_kinds noted sent due others answer s is = by (is_dropped answer)
  where
    by : (b : Bool) → Kinds noted sent (cond b s (record s { due = others; login = sent_stage due s.login }))
    by true = is
    by false = kinds_on s _ noted noted sent (same_kind s.rows) is.asked is.answered (stage_sent s.rows due s.login is.login) is

written_kinds : (noted : List AnswerRow) (sent : List PipeRow) (slot : ℕ) (s : ClientState) → Kinds noted sent s → Kinds noted sent (written_at slot s)
written_kinds noted sent slot s is =
    kinds_on s (written_at slot s) noted noted sent stays (all_asked s.rows (s.rows ++ rows.Login ∷ []) stays s.outgoing is.asked) (all_noted s.rows (s.rows ++ rows.Login ∷ []) stays noted is.answered)
    (record { used = let long : length (s.rows ++ rows.Login ∷ []) ≡ length s.rows + 1 = length-append s.rows (rows.Login ∷ []) in omega (arith, long); row = row_here s.rows rows.Login }) is
  where
    stays : StaysKind s.rows (s.rows ++ rows.Login ∷ [])
    stays = more_kind s.rows rows.Login

step_kinds : (noted : List AnswerRow) (sent : List PipeRow) (line : ℕ) (step : LoginStep) (a b : Site) → Steps line step a b → Kinds noted sent a.client → Kinds noted sent b.client
step_kinds noted sent line (Registered answer) a b did is = registers_kinds noted sent a.at.crq_shared a.client b.client did.0.room b.at.crq answer did.0.registers is
step_kinds noted sent line Took a b did is = subst (Kinds noted sent) (sym did.0.client) (kinds_same a.client _ noted sent refl refl refl is)
step_kinds noted sent line TookNone a b did is = subst (Kinds noted sent) (sym did.0.client) is
step_kinds noted sent line (Looked found) a b did is = subst (Kinds noted sent) (sym did.0.client) (found_kinds noted sent did.0.entry found a.client is)
step_kinds noted sent line Began a b did is = subst (Kinds noted sent) (sym did.0.client) (kinds_same a.client _ noted sent refl refl refl is)
step_kinds noted sent line Wrote a b did is = subst (Kinds noted sent) (sym did.1.client) (written_kinds noted sent did.1.slot a.client is)
step_kinds noted sent line (NotWritten page word) a b did is = subst (Kinds noted sent) (sym did.1.client) is
step_kinds noted sent line (Put due answer) a b did is = subst (Kinds noted sent) (sym did.0.client) (put_kinds noted sent due did.0.others answer a.client is)
step_kinds noted sent line RanOut a b did is = subst (Kinds noted sent) (sym did.client) is

runs_kinds : (noted : List AnswerRow) (sent : List PipeRow) (line : ℕ) (steps : List LoginStep) (a b : Site) → Runs line steps a b → Kinds noted sent a.client → Kinds noted sent b.client
runs_kinds noted sent line [] a b same is = subst (λ (site : Site). Kinds noted sent site.client) (sym same) is
runs_kinds noted sent line (step ∷ steps) a c (b, runs, did, hands) is = step_kinds noted sent line step b c did (runs_kinds noted sent line steps a b runs is)

-- ---- at an end

-- what is so of a client with its answers
abbrev ActsKinds : List PipeRow → Acting → Type 0
ActsKinds sent a = KeepsKinds a.client a.answers sent

-- where its answers are as they were
with_answers : (sent : List PipeRow) (old new : Acting) → new.answers ≡ old.answers → KeepsKinds new.client old.answers sent → ActsKinds sent new
with_answers sent old new same is = subst (λ (list : List AnswerRow). KeepsKinds new.client list sent) (sym same) is

logs_in_kinds : (sent : List PipeRow) (line : ℕ) (old new : Acting) (step : Step) → LogsInOnce line old new step → ActsKinds sent old → ActsKinds sent new
logs_in_kinds sent line old new step logs is =
    with_answers sent old new logs.answers
    (runs_kinds old.answers sent line logs.turned.steps (record { client = old.client; at = old.ports }) (record { client = new.client; at = new.ports }) logs.turned.runs is)

-- its queue was freed
unlinked_kinds : (sent : List PipeRow) (old new : Acting) → new.client ≡ unlinked old.client → new.answers ≡ old.answers → ActsKinds sent old → ActsKinds sent new
unlinked_kinds sent old new client answers is =
    with_answers sent old new answers (subst (Kinds old.answers sent) (sym client) (kinds_same old.client _ old.answers sent refl refl refl is))

stays_kinds : (sent : List PipeRow) (old new : Acting) → new.client ≡ old.client → new.answers ≡ old.answers → ActsKinds sent old → ActsKinds sent new
stays_kinds sent old new client answers is = with_answers sent old new answers (subst (Kinds old.answers sent) (sym client) is)

resets_kinds : (sent : List PipeRow) (line : ℕ) (p p' : Progress) (old new : Acting) (step : Step) → ResetsOnce line p p' old new step → ActsKinds sent old → ActsKinds sent new
resets_kinds sent line p p' old new step (inl logs) is = logs_in_kinds sent line old new step logs.1 is
resets_kinds sent line p p' old new step (inr (going, first)) is = by first
  where
    by : ResetsFirst line p p' old new step → ActsKinds sent new
    by (inl frees) = unlinked_kinds sent old new frees.0.client frees.0.answers is
    by (inr (inl logs)) = logs_in_kinds sent line (record { client = old.client; ports = record old.ports { crq = logs.0.room }; answers = old.answers }) new step logs.0.logs is
    by (inr (inr used)) = stays_kinds sent old new used.0.client.client used.0.client.answers is

-- ---- requests

commands_kinds : (sent : List PipeRow) (line : ℕ) (op : Op) (old new : Acting) (answer : Result ℕ Refused) → SubmitsAs line op old new answer → new.answers ≡ old.answers
    → ActsKinds sent old → ActsKinds sent new
commands_kinds sent line op old new (Ok tag) submits same is =
    with_answers sent old new same (subst (Kinds old.answers sent) (sym submits.client)
    (kinds_more old.client _ old.answers sent (rows.Command op.dir op.at op.len None) _ refl refl refl refl refl is))
commands_kinds sent line op old new (Err why) refuses same is = by refuses
  where
    by : RefusesOp line op old new why → ActsKinds sent new
    by (inl refused) = stays_kinds sent old new refused.2 same is
    by (inr (_, inl not')) = stays_kinds sent old new not'.client same is
    by (inr (_, inr not')) = with_answers sent old new same (subst (Kinds old.answers sent) (sym not'.client) (kinds_same old.client _ old.answers sent refl refl refl is))

tasks_kinds : (sent : List PipeRow) (line function tag : ℕ) (old new : Acting) (answer : Result ℕ Refused) → TasksAs line function tag old new answer → new.answers ≡ old.answers
    → ActsKinds sent old → ActsKinds sent new
tasks_kinds sent line function tag old new (Ok own) tasks same is =
    with_answers sent old new same (subst (Kinds old.answers sent) (sym tasks.client) (kinds_more old.client _ old.answers sent rows.Task _ refl refl refl refl refl is))
tasks_kinds sent line function tag old new (Err why) refuses same is = stays_kinds sent old new refuses.1 same is

logs_out_kinds : (sent : List PipeRow) (line : ℕ) (old new : Acting) (answer : Result ℕ Refused) → LogsOutAs line old new answer → new.answers ≡ old.answers → ActsKinds sent old → ActsKinds sent new
logs_out_kinds sent line old new (Ok tag) logs same is =
    let stays : StaysKind old.client.rows (old.client.rows ++ rows.Logout ∷ []) = more_kind old.client.rows rows.Logout in
    with_answers sent old new same (subst (Kinds old.answers sent) (sym logs.client)
    (kinds_on old.client _ old.answers old.answers sent stays (all_asked old.client.rows (old.client.rows ++ rows.Logout ∷ []) stays old.client.outgoing is.asked)
    (all_noted old.client.rows (old.client.rows ++ rows.Logout ∷ []) stays old.answers is.answered)
    (login_kind old.client.rows (old.client.rows ++ rows.Logout ∷ []) stays old.client.login is.login) is))
logs_out_kinds sent line old new (Err why) refuses same is = stays_kinds sent old new refuses.1 same is

-- ---- answers

-- a tag that has a slot is outstanding
asked_slot : (P : ℕ → Type 0) (tag : ℕ) (list : List Outgoing) (Q : ℕ → Type 0) → All (λ (o : Outgoing). P o.tag) list → IsSomeAnd (slot_of tag list) Q → P tag
asked_slot P tag [] Q all is = absurd is
asked_slot P tag (first ∷ list) Q all is = by (asked_slot P tag list Q (All-tail (λ (o : Outgoing). P o.tag) first list all)) (first.tag == tag) refl is
  where
    by : (IsSomeAnd (slot_of tag list) Q → P tag) → (b : Bool) → (first.tag == tag) ≡ b
        → IsSomeAnd (option_map (λ (o : Outgoing). o.slot) (cond b (Some first) (find (λ (o : Outgoing). o.tag == tag) list))) Q → P tag
    by behind true e is = subst P (eqb-true first.tag tag e) (All-head (λ (o : Outgoing). P o.tag) first list all)
    by behind false e is = behind is

all_without : (P : Outgoing → Type 0) (tag : ℕ) (list : List Outgoing) → All P list → All P (without_tag tag list)
all_without P tag [] all = all
all_without P tag (first ∷ list) all = by (all_without P tag list (All-tail P first list all)) (first.tag == tag)
  where
    by : All P (without_tag tag list) → (b : Bool) → All P (cond b list (first ∷ without_tag tag list))
    by behind true = All-tail P first list all
    by behind false = All-cons P first (without_tag tag list) (All-head P first list all) behind

-- An entry was taken, and noted if it was an answer.
noted_kinds : (sent : List PipeRow) (s : ClientState) (noted noted' : List AnswerRow) (shared : Bool) (entry : Entry) (old new : PortState) (taken : Taken) (session : ℕ)
    → Judges shared s.outgoing entry old new taken → NotesTaken taken session noted noted' → KeepsKinds s noted sent → KeepsKinds (taken_by entry taken s) noted' sent
noted_kinds sent s noted noted' shared entry old new (takens.Answer tag response) session judged notes is =
    kinds_on s (taken_by entry (takens.Answer tag response) s) noted noted' sent stays
    (all_asked s.rows rs stays (without_tag tag s.outgoing) (all_without (λ (o : Outgoing). IsAskedTag s.rows o.tag) tag s.outgoing is.asked))
    (subst (All (λ (row : AnswerRow). IsAskedTag rs row.tag)) (sym notes.noted.rows)
    (All-push (λ (row : AnswerRow). IsAskedTag rs row.tag) noted notes.noted.row (all_noted s.rows rs stays noted is.answered)
    (subst (IsAskedTag rs) (sym notes.noted.tag_is) (stays.asked tag (asked_slot (IsAskedTag s.rows) tag s.outgoing _ is.asked judged.2)))))
    (login_kind s.rows rs stays s.login is.login) is
  where
    rs : List Row
    rs = answered tag response s.rows

    stays : StaysKind s.rows rs
    stays = answered_kind s.rows tag response
noted_kinds sent s noted noted' shared entry old new takens.Lost session judged notes is =
    subst (λ (list : List AnswerRow). KeepsKinds (taken_by entry takens.Lost s) list sent) (sym notes) (kinds_gone s _ noted sent refl refl refl is)
noted_kinds sent s noted noted' shared entry old new takens.Other session judged notes is =
    subst (λ (list : List AnswerRow). KeepsKinds (taken_by entry takens.Other s) list sent) (sym notes) (kinds_same s _ noted sent refl refl refl is)
noted_kinds sent s noted noted' shared entry old new (takens.Again page word) session judged notes is =
    subst (λ (list : List AnswerRow). KeepsKinds (taken_by entry (takens.Again page word) s) list sent) (sym notes) (kinds_same s _ noted sent refl refl refl is)
noted_kinds sent s noted noted' shared entry old new (takens.Stray tag) session judged notes is = subst (λ (list : List AnswerRow). KeepsKinds s list sent) (sym notes) is
noted_kinds sent s noted noted' shared entry old new (takens.Empty number) session judged notes is = absurd judged

takes_as_kinds : (sent : List PipeRow) (s s' : ClientState) (old new : Ports) (noted noted' : List AnswerRow) (taken : Taken) (session : ℕ) → TakesAs s s' old new taken
    → NotesTaken taken session noted noted' → KeepsKinds s noted sent → KeepsKinds s' noted' sent
takes_as_kinds sent s s' old new noted noted' taken session takes notes is =
    let kept : KeepsKinds takes.kept noted sent = subst (Kinds noted sent) (sym takes.fetched.client) (kinds_same s _ noted sent refl refl refl is) in
    let first : KeepsKinds (record takes.kept { kept = takes.judged.rest }) noted sent = kinds_same takes.kept _ noted sent refl refl refl kept in
    subst (Kinds noted' sent) (sym takes.judged.client)
    (noted_kinds sent (record takes.kept { kept = takes.judged.rest }) noted noted' old.own_shared takes.judged.entry old.own new.own taken session takes.judged.judged notes first)

entry_kinds : (sent : List PipeRow) (s s' : ClientState) (old new : Ports) (noted noted' : List AnswerRow) (taken : Taken) (session : ℕ) → TakesEntry s s' old new taken
    → NotesTaken taken session noted noted' → KeepsKinds s noted sent → KeepsKinds s' noted' sent
entry_kinds sent s s' old new noted noted' (takens.Answer tag response) session takes notes is = takes_as_kinds sent s s' old new noted noted' (takens.Answer tag response) session takes notes is
entry_kinds sent s s' old new noted noted' takens.Lost session takes notes is = takes_as_kinds sent s s' old new noted noted' takens.Lost session takes notes is
entry_kinds sent s s' old new noted noted' takens.Other session takes notes is = takes_as_kinds sent s s' old new noted noted' takens.Other session takes notes is
entry_kinds sent s s' old new noted noted' (takens.Again page word) session takes notes is = takes_as_kinds sent s s' old new noted noted' (takens.Again page word) session takes notes is
entry_kinds sent s s' old new noted noted' (takens.Stray tag) session takes notes is = takes_as_kinds sent s s' old new noted noted' (takens.Stray tag) session takes notes is
entry_kinds sent s s' old new noted noted' (takens.Empty number) session takes notes is =
    subst (λ (list : List AnswerRow). KeepsKinds s' list sent) (sym notes) (subst (Kinds noted sent) (sym takes.fetched.client) is)

takes_kinds : (sent : List PipeRow) (entries : List takings.Took) (old new : Acting) → TakesEach entries old new → ActsKinds sent old → ActsKinds sent new
takes_kinds sent [] old new same is = subst (ActsKinds sent) (sym same) is
takes_kinds sent (took ∷ entries) old new (middle, each, takes) is =
    entry_kinds sent middle.client new.client middle.ports new.ports middle.answers new.answers takes.taken new.ports.crq.last_session takes.takes takes.notes (takes_kinds sent entries old middle each is)

-- ---- a step of a line

pub kinds_acts : (sent : List PipeRow) (line : ℕ) (verb : Verb) (p p' : Progress) (old new : Acting) (step : Step) → ActsFor line verb p p' old new step
    → KeepsKinds old.client old.answers sent → KeepsKinds new.client new.answers sent
kinds_acts sent line verbs.Login p p' old new step acts is = logs_in_kinds sent line old new step acts is
kinds_acts sent line verbs.Reset p p' old new step acts is = resets_kinds sent line p p' old new step acts is
kinds_acts sent line verbs.Logout p p' old new step acts is = logs_out_kinds sent line old new acts.answer acts.logs_out acts.answers is
kinds_acts sent line (verbs.Task function tag) p p' old new step acts is = tasks_kinds sent line function tag old new acts.answer acts.tasks acts.answers is
kinds_acts sent line (verbs.Take count) p p' old new step acts is = takes_kinds sent acts.entries old new acts.each is
kinds_acts sent line (verbs.Data tag) p p' old new step acts is = stays_kinds sent old new acts.reads.aside.client.client acts.reads.aside.client.answers is
kinds_acts sent line (verbs.Peek at len) p p' old new step acts is = stays_kinds sent old new acts.reads.aside.client.client acts.reads.aside.client.answers is
kinds_acts sent line (verbs.Fill at len seed) p p' old new step acts is = stays_kinds sent old new acts.aside.client.client acts.aside.client.answers is
kinds_acts sent line (verbs.Poke at bytes) p p' old new step acts is = stays_kinds sent old new acts.aside.client.client acts.aside.client.answers is
kinds_acts sent line (verbs.Tce entry page readable writable) p p' old new step acts is = stays_kinds sent old new acts.aside.client.client acts.aside.client.answers is
kinds_acts sent line verb p p' old new step acts is = commands_kinds sent line acts.op old new acts.submits.answer acts.submits.submits acts.submits.answers is

-- ---- what is done besides lines

pub kinds_fails : (sent : List PipeRow) (old new : Acting) → FailsOnce old new → KeepsKinds old.client old.answers sent → KeepsKinds new.client new.answers sent
kinds_fails sent old new (inl fails) is = unlinked_kinds sent old new fails.client fails.answers is
kinds_fails sent old new (inr (inl free)) is = stays_kinds sent old new free.client.client free.client.answers is
kinds_fails sent old new (inr (inr used)) is = stays_kinds sent old new used.client.client used.client.answers is

pub kinds_rests : (sent : List PipeRow) (old new : Acting) → TakesRest old new → KeepsKinds old.client old.answers sent → KeepsKinds new.client new.answers sent
kinds_rests sent old new rests is = takes_kinds sent rests.entries old new rests.each is
