-- The data-in of an own client's commands lie behind the driver's pages, whatever its lines do.
use Rattle.std.proofs.Common.{◌≡◌, ◌∙◌, ◌⊎◌, inl, inr, ℕ, zero, suc, ◌≤◌, ◌<◌, ◌-◌, ◌==◌, ◌&&◌, ◌++◌, nat_le, Bool, true, false, cond, List, [], ◌∷◌, Ok, Err, None, Option, Result, arith, length, length-append, refl, sym, ap, subst, eq-eqb, eqb-true}
use Rattle.std.specs.Prelude.{◌*◌, ◌+◌}
use Rattle.std.specs.List.{slice_index_or}
use Rattle.std.proofs.lemmas.Bool.Decides.{nat_tests}
use Rattle.std.proofs.lemmas.List.{length-set}
use Rattle.boot_text.specs.declared.verb.Verb.{Verb}
use Rattle.boot_text.specs.declared.verb.Verb.TheVariants as verbs
use Rattle.crq_session.specs.EndState.{EndState}
use Rattle.crq_session.specs.declared.answers.RegAnswer.{RegAnswer}
use Rattle.crq_session.specs.declared.answers.RegAnswer.TheVariants as reg
use Rattle.crq_session.specs.declared.answers.SendAnswer.{SendAnswer}
use Rattle.srp_iu.specs.declared.response.Rsp.{Rsp as Response}
use Rattle.vio_num.specs.declared.entry.Entry.{Entry}
use Rattle.vscsi_client.specs.Login.{found_by}
use Rattle.vscsi_client.specs.Ports.{Ports}
use Rattle.vscsi_client.specs.Sending.{Submitted}
use Rattle.vscsi_client.specs.Spans.{by_dir, data_in_range, in_range, op_in_range, table_in_range}
use Rattle.vscsi_client.specs.State.{ClientState}
use Rattle.vscsi_client.specs.Taking.{TakesAs, TakesEntry, answered, row_answered, taken_by}
use Rattle.vscsi_client.specs.Turned.{LoginStep, RegistersAs, Runs, Site, Steps, is_dropped, sent_by, sent_stage}
use Rattle.vscsi_client.specs.Turned.LoginStep.{Began, Looked, NotWritten, Put, RanOut, Registered, Took, TookNone, Wrote}
use Rattle.vscsi_client.specs.declared.TheConstants.{DATA_START}
use Rattle.vscsi_client.specs.declared.answers.Refused.{Refused}
use Rattle.vscsi_client.specs.declared.answers.Taken.{Taken}
use Rattle.vscsi_client.specs.declared.answers.Taken.TheVariants as takens
use Rattle.vscsi_client.specs.declared.found.Found.{Found}
use Rattle.vscsi_client.specs.declared.found.Found.TheVariants as founds
use Rattle.vscsi_client.specs.declared.op.Dir.{Dir}
use Rattle.vscsi_client.specs.declared.op.Dir.TheVariants as dirs
use Rattle.vscsi_client.specs.declared.op.Op.{Op}
use Rattle.vscsi_client.specs.declared.row.DataIn.{DataIn}
use Rattle.vscsi_client.specs.declared.row.Row.{Row}
use Rattle.vscsi_client.specs.declared.row.Row.TheVariants as rows
use Rattle.vscsi_client.specs.declared.stage.Due.{Due}
use Rattle.vscsi_client.proofs.Allowing.{not_range}
use Rattle.unit_region.specs.declared.step.Step.{Step}
use Rattle.vcpu_run.specs.Acts.{Acting, ActsFor, LogsInOnce, LogsOutAs, RefusesOp, ResetsFirst, ResetsOnce, SubmitsAs, TakesEach, TakesRest, TasksAs}
use Rattle.vcpu_run.specs.ActsAt.{FailsOnce}
use Rattle.vcpu_run.specs.OwnCounts.{LieBehind}
use Rattle.vcpu_run.specs.TagRows.{row_at}
use Rattle.vcpu_run.specs.declared.script.Progress.{Progress}
use Rattle.vcpu_run.specs.declared.taking.Took as takings
use Rattle.vcpu_run.proofs.Crediting.{here_or}
use Rattle.vcpu_run.proofs.Announcing.{both_bools}
use Rattle.vcpu_run.proofs.DataStays.{no_login}
use Rattle.vcpu_run.proofs.TagsKept.{Later, Next, Stands, Used, row_before, row_here, row_past, row_set, row_unset, stands}

-- ---- rows

-- where a row is of a command with data-in, they lie behind the driver's pages
abbrev LiesBehind : Row → Type 0
LiesBehind row = (at len : ℕ) (said : Option DataIn) → row ≡ rows.Command dirs.In at len said → DATA_START ≤ at

more_behind : (rs : List Row) (row : Row) → LiesBehind row → LieBehind rs → LieBehind (rs ++ row ∷ [])
more_behind rs row one behind tag at len is = by (stands (length rs) tag)
  where
    by : Stands (length rs) tag → DATA_START ≤ at
    by (Used within) = behind tag at len (is.0, sym (row_before rs row tag within) ∙ is.1)
    by (Next next) = one at len is.0 (sym (ap (row_at (rs ++ row ∷ [])) next ∙ row_here rs row) ∙ is.1)
    by (Later later) =
        let long = length-append rs (row ∷ []) in
        absurd (no_login at len is.0 (sym (row_past (rs ++ row ∷ []) tag (omega (arith, long, later))) ∙ is.1))

-- an answer says nothing of where they lie
before_answer : (response : Response) (row : Row) (at len : ℕ) (said : Option DataIn) → row_answered response row ≡ rows.Command dirs.In at len said
    → (was : Option DataIn) × (row ≡ rows.Command dirs.In at len was)
before_answer response (rows.Command dirs.In a l s) at len said is = (s, cc (is))
before_answer response (rows.Command dirs.Out a l s) at len said is = absurd (cc (is))
before_answer response (rows.Command dirs.Neither a l s) at len said is = absurd (cc (is))
before_answer response rows.Login at len said is = absurd (cc (is))
before_answer response rows.Logout at len said is = absurd (cc (is))
before_answer response rows.Task at len said is = absurd (cc (is))

used_behind : (rs : List Row) (tag : ℕ) (response : Response) → 1 ≤ tag → LieBehind rs → LieBehind (answered tag response rs)
used_behind rs tag response begun behind t at len is = by (here_or tag t)
  where
    long : length (answered tag response rs) ≡ length rs
    long = length-set rs (tag - 1) (row_answered response (slice_index_or rs (tag - 1) rows.Login))

    here : tag ≡ t → (b : Bool) → nat_le tag (length rs) ≡ b → DATA_START ≤ at
    here same true e =
        let was = before_answer response (row_at rs tag) at len is.0
        (sym (row_set rs tag response begun (grind (arith, nat_tests, e))) ∙ ap (row_at (answered tag response rs)) same ∙ is.1) in
        behind tag at len (was.0, was.1)
    here same false e =
        let past : length rs < tag = grind (arith, nat_tests, e) in
        absurd (no_login at len is.0 (sym (row_past (answered tag response rs) t (omega (arith, past, same, long))) ∙ is.1))

    by : ((tag == t) ≡ true) ⊎ ((tag == t) ≡ false) → DATA_START ≤ at
    by (inl e) = here (eqb-true tag t e) (nat_le tag (length rs)) refl
    by (inr e) = behind t at len (is.0, sym (row_unset rs tag t response begun (λ same. both_bools (tag == t) (eq-eqb tag t (sym same)) e)) ∙ is.1)

answered_behind : (rs : List Row) (tag : ℕ) (response : Response) → LieBehind rs → LieBehind (answered tag response rs)
answered_behind rs zero response = used_behind rs 1 response (omega arith)
answered_behind rs (suc n) response = used_behind rs (suc n) response (omega arith)

login_behind : LiesBehind rows.Login
login_behind at len said is = absurd (no_login at len said is)

logout_behind : LiesBehind rows.Logout
logout_behind at len said is = cc (is)

task_behind : LiesBehind rows.Task
task_behind at len said is = cc (is)

-- those of a command that is sent lie in range
in_behind : (pages a l : ℕ) → in_range pages a l ≡ true → DATA_START ≤ a
in_behind pages a l e = by (nat_le DATA_START a) refl e
  where
    by : (b : Bool) → nat_le DATA_START a ≡ b → (b && nat_le (a + l) (4096 * pages)) ≡ true → DATA_START ≤ a
    by true is e = grind (arith, nat_tests, is)
    by false is e = absurd (cc (e))

dir_behind : (dir : Dir) (pages a l : ℕ) → by_dir dir true (in_range pages a l) ≡ true → LiesBehind (rows.Command dir a l None)
dir_behind dirs.In pages a l inside at len said is = subst (λ n. DATA_START ≤ n) (first is) (in_behind pages a l inside)
  where
    first : rows.Command dirs.In a l None ≡ rows.Command dirs.In at len said → a ≡ at
    first e = cc (e)
dir_behind dirs.Out pages a l inside at len said is = absurd (cc (is))
dir_behind dirs.Neither pages a l inside at len said is = absurd (cc (is))

both_first : (a b : Bool) → (a && b) ≡ true → a ≡ true
both_first true b e = refl
both_first false b e = e

sent_behind : (line : ℕ) (op : Op) (s s' : ClientState) (old new : Ports) (tag : ℕ) → Submitted line op s s' old new tag → LieBehind s.rows → LieBehind s'.rows
sent_behind line op s s' old new tag sent behind =
    let inside = (not_range (op_in_range old.own.place.size op) _ sent.allowed).0 in
    subst (λ (c : ClientState). LieBehind c.rows) (sym sent.client) (more_behind s.rows (rows.Command op.dir op.at op.len None)
    (dir_behind op.dir old.own.place.size op.at op.len (both_first (data_in_range old.own.place.size op) (table_in_range old.own.place.size op.table op.pieces) inside)) behind)

-- ---- a login

-- so is it of a client
abbrev IsBehind : ClientState → Type 0
IsBehind s = LieBehind s.rows

registers_behind : (shared : Bool) (s s' : ClientState) (old new : EndState) (answer : RegAnswer) → RegistersAs shared s s' old new answer → IsBehind s → IsBehind s'
registers_behind shared s s' old new reg.Resource did is = subst IsBehind (sym did.2) is
registers_behind shared s s' old new reg.Success did is = subst IsBehind (sym did.2) is
registers_behind shared s s' old new (reg.Closed control) did is = subst IsBehind (sym did.2) is
registers_behind shared s s' old new (reg.Busy number held) did is = subst IsBehind (sym did.1) is
registers_behind shared s s' old new reg.Parameter did is = absurd did

found_behind : (entry : Entry) (found : Found) (s : ClientState) → IsBehind s → IsBehind (found_by entry found s)
found_behind entry (founds.Granted credits) s is = is
found_behind entry (founds.Rejected reason) s is = is
found_behind entry founds.Lost s is = is
found_behind entry founds.Step s is = is
found_behind entry founds.Answer s is = is
found_behind entry founds.Nothing s is = is
found_behind entry (founds.InUse page word) s is = is

put_behind : (due : Due) (others : List Due) (answer : SendAnswer) (s : ClientState) → IsBehind s → IsBehind (sent_by due others answer s)
put_behind due others answer s is = by (is_dropped answer)
  where
    by : (b : Bool) → IsBehind (cond b s (record s { due = others; login = sent_stage due s.login }))
    by true = is
    by false = is

step_behind : (line : ℕ) (step : LoginStep) (a b : Site) → Steps line step a b → IsBehind a.client → IsBehind b.client
step_behind line (Registered answer) a b did is = registers_behind a.at.crq_shared a.client b.client did.0.room b.at.crq answer did.0.registers is
step_behind line Took a b did is = subst IsBehind (sym did.0.client) is
step_behind line TookNone a b did is = subst IsBehind (sym did.0.client) is
step_behind line (Looked found) a b did is = subst IsBehind (sym did.0.client) (found_behind did.0.entry found a.client is)
step_behind line Began a b did is = subst IsBehind (sym did.0.client) is
step_behind line Wrote a b did is = subst IsBehind (sym did.1.client) (more_behind a.client.rows rows.Login login_behind is)
step_behind line (NotWritten page word) a b did is = subst IsBehind (sym did.1.client) is
step_behind line (Put due answer) a b did is = subst IsBehind (sym did.0.client) (put_behind due did.0.others answer a.client is)
step_behind line RanOut a b did is = subst IsBehind (sym did.client) is

runs_behind : (line : ℕ) (steps : List LoginStep) (a b : Site) → Runs line steps a b → IsBehind a.client → IsBehind b.client
runs_behind line [] a b same is = subst (λ (site : Site). IsBehind site.client) (sym same) is
runs_behind line (step ∷ steps) a c (b, runs, did, hands) is = step_behind line step b c did (runs_behind line steps a b runs is)

logs_in_behind : (line : ℕ) (old new : Acting) (step : Step) → LogsInOnce line old new step → IsBehind old.client → IsBehind new.client
logs_in_behind line old new step logs is = runs_behind line logs.turned.steps (record { client = old.client; at = old.ports }) (record { client = new.client; at = new.ports }) logs.turned.runs is

resets_behind : (line : ℕ) (p p' : Progress) (old new : Acting) (step : Step) → ResetsOnce line p p' old new step → IsBehind old.client → IsBehind new.client
resets_behind line p p' old new step (inl logs) is = logs_in_behind line old new step logs.1 is
resets_behind line p p' old new step (inr (going, first)) is = by first
  where
    by : ResetsFirst line p p' old new step → IsBehind new.client
    by (inl frees) = subst IsBehind (sym frees.0.client) is
    by (inr (inl logs)) = logs_in_behind line (record { client = old.client; ports = record old.ports { crq = logs.0.room }; answers = old.answers }) new step logs.0.logs is
    by (inr (inr used)) = subst IsBehind (sym used.0.client.client) is

-- ---- requests

commands_behind : (line : ℕ) (op : Op) (old new : Acting) (answer : Result ℕ Refused) → SubmitsAs line op old new answer → IsBehind old.client → IsBehind new.client
commands_behind line op old new (Ok tag) submits is = sent_behind line op old.client new.client old.ports new.ports tag submits is
commands_behind line op old new (Err why) refuses is = by refuses
  where
    by : RefusesOp line op old new why → IsBehind new.client
    by (inl refused) = subst IsBehind (sym refused.2) is
    by (inr (_, inl not')) = subst IsBehind (sym not'.client) is
    by (inr (_, inr not')) = subst IsBehind (sym not'.client) is

tasks_behind : (line function tag : ℕ) (old new : Acting) (answer : Result ℕ Refused) → TasksAs line function tag old new answer → IsBehind old.client → IsBehind new.client
tasks_behind line function tag old new (Ok own) tasks is = subst IsBehind (sym tasks.client) (more_behind old.client.rows rows.Task task_behind is)
tasks_behind line function tag old new (Err why) refuses is = subst IsBehind (sym refuses.1) is

logs_out_behind : (line : ℕ) (old new : Acting) (answer : Result ℕ Refused) → LogsOutAs line old new answer → IsBehind old.client → IsBehind new.client
logs_out_behind line old new (Ok tag) logs is = subst IsBehind (sym logs.client) (more_behind old.client.rows rows.Logout logout_behind is)
logs_out_behind line old new (Err why) refuses is = subst IsBehind (sym refuses.1) is

-- ---- answers

taken_behind : (entry : Entry) (taken : Taken) (s : ClientState) → IsBehind s → IsBehind (taken_by entry taken s)
taken_behind entry (takens.Answer tag response) s is = answered_behind s.rows tag response is
taken_behind entry takens.Lost s is = is
taken_behind entry takens.Other s is = is
taken_behind entry (takens.Again page word) s is = is
taken_behind entry (takens.Stray tag) s is = is
taken_behind entry (takens.Empty number) s is = is

takes_as_behind : (s s' : ClientState) (old new : Ports) (taken : Taken) → TakesAs s s' old new taken → IsBehind s → IsBehind s'
takes_as_behind s s' old new taken takes is =
    let kept : IsBehind takes.kept = subst IsBehind (sym takes.fetched.client) is in
    subst IsBehind (sym takes.judged.client) (taken_behind takes.judged.entry taken (record takes.kept { kept = takes.judged.rest }) kept)

entry_behind : (s s' : ClientState) (old new : Ports) (taken : Taken) → TakesEntry s s' old new taken → IsBehind s → IsBehind s'
entry_behind s s' old new (takens.Answer tag response) takes is = takes_as_behind s s' old new (takens.Answer tag response) takes is
entry_behind s s' old new takens.Lost takes is = takes_as_behind s s' old new takens.Lost takes is
entry_behind s s' old new takens.Other takes is = takes_as_behind s s' old new takens.Other takes is
entry_behind s s' old new (takens.Again page word) takes is = takes_as_behind s s' old new (takens.Again page word) takes is
entry_behind s s' old new (takens.Stray tag) takes is = takes_as_behind s s' old new (takens.Stray tag) takes is
entry_behind s s' old new (takens.Empty number) takes is = subst IsBehind (sym takes.fetched.client) is

takes_behind : (entries : List takings.Took) (old new : Acting) → TakesEach entries old new → IsBehind old.client → IsBehind new.client
takes_behind [] old new same is = subst (λ (a : Acting). IsBehind a.client) (sym same) is
takes_behind (took ∷ entries) old new (middle, each, takes) is =
    entry_behind middle.client new.client middle.ports new.ports takes.taken takes.takes (takes_behind entries old middle each is)

-- ---- a step of a line

pub behind_acts : (line : ℕ) (verb : Verb) (p p' : Progress) (old new : Acting) (step : Step) → ActsFor line verb p p' old new step → LieBehind old.client.rows → LieBehind new.client.rows
behind_acts line verbs.Login p p' old new step acts is = logs_in_behind line old new step acts is
behind_acts line verbs.Reset p p' old new step acts is = resets_behind line p p' old new step acts is
behind_acts line verbs.Logout p p' old new step acts is = logs_out_behind line old new acts.answer acts.logs_out is
behind_acts line (verbs.Task function tag) p p' old new step acts is = tasks_behind line function tag old new acts.answer acts.tasks is
behind_acts line (verbs.Take count) p p' old new step acts is = takes_behind acts.entries old new acts.each is
behind_acts line (verbs.Data tag) p p' old new step acts is = subst IsBehind (sym acts.reads.aside.client.client) is
behind_acts line (verbs.Peek at len) p p' old new step acts is = subst IsBehind (sym acts.reads.aside.client.client) is
behind_acts line (verbs.Fill at len seed) p p' old new step acts is = subst IsBehind (sym acts.aside.client.client) is
behind_acts line (verbs.Poke at bytes) p p' old new step acts is = subst IsBehind (sym acts.aside.client.client) is
behind_acts line (verbs.Tce entry page readable writable) p p' old new step acts is = subst IsBehind (sym acts.aside.client.client) is
behind_acts line verb p p' old new step acts is = commands_behind line acts.op old new acts.submits.answer acts.submits.submits is

-- ---- what is done besides lines

pub behind_fails : (old new : Acting) → FailsOnce old new → LieBehind old.client.rows → LieBehind new.client.rows
behind_fails old new (inl fails) is = subst IsBehind (sym fails.client) is
behind_fails old new (inr (inl free)) is = subst IsBehind (sym free.client.client) is
behind_fails old new (inr (inr used)) is = subst IsBehind (sym used.client.client) is

pub behind_rests : (old new : Acting) → TakesRest old new → LieBehind old.client.rows → LieBehind new.client.rows
behind_rests old new rests is = takes_behind rests.entries old new rests.each is
