-- A client that knows of a login awaits no logout, whatever its lines do.
use Rattle.std.proofs.Common.{inl, inr, ℕ, Bool, true, false, cond, List, [], ◌∷◌, Ok, Err, Result, refl, sym, subst}
use Rattle.boot_text.specs.declared.verb.Verb.{Verb}
use Rattle.boot_text.specs.declared.verb.Verb.TheVariants as verbs
use Rattle.crq_session.specs.EndState.{EndState}
use Rattle.crq_session.specs.declared.answers.RegAnswer.{RegAnswer}
use Rattle.crq_session.specs.declared.answers.RegAnswer.TheVariants as reg
use Rattle.crq_session.specs.declared.answers.SendAnswer.{SendAnswer}
use Rattle.vio_num.specs.declared.entry.Entry.{Entry}
use Rattle.vscsi_client.specs.Login.{found_by}
use Rattle.vscsi_client.specs.Ports.{Ports}
use Rattle.vscsi_client.specs.State.{ClientState}
use Rattle.vscsi_client.specs.Taking.{TakesAs, TakesEntry, taken_by}
use Rattle.vscsi_client.specs.Turned.{LoginStep, RegistersAs, Runs, Site, Steps, is_dropped, sent_by, sent_stage}
use Rattle.vscsi_client.specs.Turned.LoginStep.{Began, Looked, NotWritten, Put, RanOut, Registered, Took, TookNone, Wrote}
use Rattle.vscsi_client.specs.declared.answers.Refused.{Refused}
use Rattle.vscsi_client.specs.declared.answers.Taken.{Taken}
use Rattle.vscsi_client.specs.declared.answers.Taken.TheVariants as takens
use Rattle.vscsi_client.specs.declared.found.Found.{Found}
use Rattle.vscsi_client.specs.declared.found.Found.TheVariants as founds
use Rattle.vscsi_client.specs.declared.op.Op.{Op}
use Rattle.vscsi_client.specs.declared.stage.Due.{Due}
use Rattle.unit_region.specs.declared.step.Step.{Step}
use Rattle.vcpu_run.specs.Acts.{Acting, ActsFor, LogsInOnce, LogsOutAs, RefusesOp, ResetsFirst, ResetsOnce, SubmitsAs, TakesEach, TakesRest, TasksAs}
use Rattle.vcpu_run.specs.ActsAt.{FailsOnce}
use Rattle.vcpu_run.specs.OwnCounts.{IsLogoutDone}
use Rattle.vcpu_run.specs.declared.script.Progress.{Progress}
use Rattle.vcpu_run.specs.declared.taking.Took as takings

-- ---- a login

registered_done : (shared : Bool) (s s' : ClientState) (old new : EndState) (answer : RegAnswer) → RegistersAs shared s s' old new answer → IsLogoutDone s → IsLogoutDone s'
registered_done shared s s' old new reg.Resource did is = subst IsLogoutDone (sym did.2) is
registered_done shared s s' old new reg.Success did is = subst IsLogoutDone (sym did.2) tt
registered_done shared s s' old new (reg.Closed control) did is = subst IsLogoutDone (sym did.2) tt
registered_done shared s s' old new (reg.Busy number held) did is = subst IsLogoutDone (sym did.1) tt
registered_done shared s s' old new reg.Parameter did is = absurd did

found_done : (entry : Entry) (found : Found) (s : ClientState) → IsLogoutDone s → IsLogoutDone (found_by entry found s)
found_done entry (founds.Granted credits) s is = refl
found_done entry (founds.Rejected reason) s is = is
found_done entry founds.Lost s is = tt
found_done entry founds.Step s is = is
found_done entry founds.Answer s is = is
found_done entry founds.Nothing s is = is
found_done entry (founds.InUse page word) s is = is

sent_done : (due : Due) (others : List Due) (answer : SendAnswer) (s : ClientState) → IsLogoutDone s → IsLogoutDone (sent_by due others answer s)
sent_done due others answer s is = by (is_dropped answer)
  where
    by : (b : Bool) → IsLogoutDone (cond b s (record s { due = others; login = sent_stage due s.login }))
    by true = is
    by false = is

step_done : (line : ℕ) (step : LoginStep) (a b : Site) → Steps line step a b → IsLogoutDone a.client → IsLogoutDone b.client
step_done line (Registered answer) a b did is = registered_done a.at.crq_shared a.client b.client did.0.room b.at.crq answer did.0.registers is
step_done line Took a b did is = subst IsLogoutDone (sym did.0.client) is
step_done line TookNone a b did is = subst IsLogoutDone (sym did.0.client) is
step_done line (Looked found) a b did is = subst IsLogoutDone (sym did.0.client) (found_done did.0.entry found a.client is)
step_done line Began a b did is = subst IsLogoutDone (sym did.0.client) is
step_done line Wrote a b did is = subst IsLogoutDone (sym did.1.client) is
step_done line (NotWritten page word) a b did is = subst IsLogoutDone (sym did.1.client) is
step_done line (Put due answer) a b did is = subst IsLogoutDone (sym did.0.client) (sent_done due did.0.others answer a.client is)
step_done line RanOut a b did is = subst IsLogoutDone (sym did.client) is

runs_done : (line : ℕ) (steps : List LoginStep) (a b : Site) → Runs line steps a b → IsLogoutDone a.client → IsLogoutDone b.client
runs_done line [] a b same is = subst (λ (site : Site). IsLogoutDone site.client) (sym same) is
runs_done line (step ∷ steps) a c (b, runs, did, hands) is = step_done line step b c did (runs_done line steps a b runs is)

logs_in_done : (line : ℕ) (old new : Acting) (step : Step) → LogsInOnce line old new step → IsLogoutDone old.client → IsLogoutDone new.client
logs_in_done line old new step logs is = runs_done line logs.turned.steps (record { client = old.client; at = old.ports }) (record { client = new.client; at = new.ports }) logs.turned.runs is

resets_done : (line : ℕ) (p p' : Progress) (old new : Acting) (step : Step) → ResetsOnce line p p' old new step → IsLogoutDone old.client → IsLogoutDone new.client
resets_done line p p' old new step (inl logs) is = logs_in_done line old new step logs.1 is
resets_done line p p' old new step (inr (going, first)) is = by first
  where
    by : ResetsFirst line p p' old new step → IsLogoutDone new.client
    by (inl frees) = subst IsLogoutDone (sym frees.0.client) is
    by (inr (inl logs)) = logs_in_done line (record { client = old.client; ports = record old.ports { crq = logs.0.room }; answers = old.answers }) new step logs.0.logs is
    by (inr (inr used)) = subst IsLogoutDone (sym used.0.client.client) is

-- ---- requests

commands_done : (line : ℕ) (op : Op) (old new : Acting) (answer : Result ℕ Refused) → SubmitsAs line op old new answer → IsLogoutDone old.client → IsLogoutDone new.client
commands_done line op old new (Ok tag) submits is = subst IsLogoutDone (sym submits.client) is
commands_done line op old new (Err why) refuses is = by refuses
  where
    by : RefusesOp line op old new why → IsLogoutDone new.client
    by (inl refused) = subst IsLogoutDone (sym refused.2) is
    by (inr (_, inl not')) = subst IsLogoutDone (sym not'.client) is
    by (inr (_, inr not')) = subst IsLogoutDone (sym not'.client) is

tasks_done : (line function tag : ℕ) (old new : Acting) (answer : Result ℕ Refused) → TasksAs line function tag old new answer → IsLogoutDone old.client → IsLogoutDone new.client
tasks_done line function tag old new (Ok own) tasks is = subst IsLogoutDone (sym tasks.client) is
tasks_done line function tag old new (Err why) refuses is = subst IsLogoutDone (sym refuses.1) is

logs_out_done : (line : ℕ) (old new : Acting) (answer : Result ℕ Refused) → LogsOutAs line old new answer → IsLogoutDone old.client → IsLogoutDone new.client
logs_out_done line old new (Ok tag) logs is = subst IsLogoutDone (sym logs.client) tt
logs_out_done line old new (Err why) refuses is = subst IsLogoutDone (sym refuses.1) is

-- ---- answers

taken_done : (entry : Entry) (taken : Taken) (s : ClientState) → IsLogoutDone s → IsLogoutDone (taken_by entry taken s)
taken_done entry (takens.Answer tag response) s is = is
taken_done entry takens.Lost s is = tt
taken_done entry takens.Other s is = is
taken_done entry (takens.Again page word) s is = is
taken_done entry (takens.Stray tag) s is = is
taken_done entry (takens.Empty number) s is = is

as_done : (s s' : ClientState) (old new : Ports) (taken : Taken) → TakesAs s s' old new taken → IsLogoutDone s → IsLogoutDone s'
as_done s s' old new taken takes is =
    let kept : IsLogoutDone takes.kept = subst IsLogoutDone (sym takes.fetched.client) is in
    subst IsLogoutDone (sym takes.judged.client) (taken_done takes.judged.entry taken (record takes.kept { kept = takes.judged.rest }) kept)

entry_done : (s s' : ClientState) (old new : Ports) (taken : Taken) → TakesEntry s s' old new taken → IsLogoutDone s → IsLogoutDone s'
entry_done s s' old new (takens.Answer tag response) takes is = as_done s s' old new (takens.Answer tag response) takes is
entry_done s s' old new takens.Lost takes is = as_done s s' old new takens.Lost takes is
entry_done s s' old new takens.Other takes is = as_done s s' old new takens.Other takes is
entry_done s s' old new (takens.Again page word) takes is = as_done s s' old new (takens.Again page word) takes is
entry_done s s' old new (takens.Stray tag) takes is = as_done s s' old new (takens.Stray tag) takes is
entry_done s s' old new (takens.Empty number) takes is = subst IsLogoutDone (sym takes.fetched.client) is

takes_done : (entries : List takings.Took) (old new : Acting) → TakesEach entries old new → IsLogoutDone old.client → IsLogoutDone new.client
takes_done [] old new same is = subst (λ (a : Acting). IsLogoutDone a.client) (sym same) is
takes_done (took ∷ entries) old new (middle, each, takes) is =
    entry_done middle.client new.client middle.ports new.ports takes.taken takes.takes (takes_done entries old middle each is)

-- ---- a step of a line

pub logout_acts : (line : ℕ) (verb : Verb) (p p' : Progress) (old new : Acting) (step : Step) → ActsFor line verb p p' old new step → IsLogoutDone old.client → IsLogoutDone new.client
logout_acts line verbs.Login p p' old new step acts is = logs_in_done line old new step acts is
logout_acts line verbs.Reset p p' old new step acts is = resets_done line p p' old new step acts is
logout_acts line verbs.Logout p p' old new step acts is = logs_out_done line old new acts.answer acts.logs_out is
logout_acts line (verbs.Task function tag) p p' old new step acts is = tasks_done line function tag old new acts.answer acts.tasks is
logout_acts line (verbs.Take count) p p' old new step acts is = takes_done acts.entries old new acts.each is
logout_acts line (verbs.Data tag) p p' old new step acts is = subst IsLogoutDone (sym acts.reads.aside.client.client) is
logout_acts line (verbs.Peek at len) p p' old new step acts is = subst IsLogoutDone (sym acts.reads.aside.client.client) is
logout_acts line (verbs.Fill at len seed) p p' old new step acts is = subst IsLogoutDone (sym acts.aside.client.client) is
logout_acts line (verbs.Poke at bytes) p p' old new step acts is = subst IsLogoutDone (sym acts.aside.client.client) is
logout_acts line (verbs.Tce entry page readable writable) p p' old new step acts is = subst IsLogoutDone (sym acts.aside.client.client) is
logout_acts line verb p p' old new step acts is = commands_done line acts.op old new acts.submits.answer acts.submits.submits is

-- ---- what is done besides lines

pub logout_fails : (old new : Acting) → FailsOnce old new → IsLogoutDone old.client → IsLogoutDone new.client
logout_fails old new (inl fails) is = subst IsLogoutDone (sym fails.client) is
logout_fails old new (inr (inl free)) is = subst IsLogoutDone (sym free.client.client) is
logout_fails old new (inr (inr used)) is = subst IsLogoutDone (sym used.client.client) is

pub logout_rests : (old new : Acting) → TakesRest old new → IsLogoutDone old.client → IsLogoutDone new.client
logout_rests old new rests is = takes_done rests.entries old new rests.each is
