-- A turn of a client's login leaves the login due whose unit is written, until it is sent.
use Rattle.std.proofs.Common.{◌≡◌, ◌∙◌, ◌||◌, ◌++◌, ℕ, Bool, true, false, true≢false, cond, List, [], ◌∷◌, Ok, refl, sym, ap, subst}
use Rattle.std.specs.List.{list_any}
use Rattle.vio_num.specs.declared.entry.Entry.{Entry}
use Rattle.crq_session.specs.EndState.{EndState}
use Rattle.crq_session.specs.declared.answers.RegAnswer.{RegAnswer}
use Rattle.crq_session.specs.declared.answers.RegAnswer.TheVariants as reg
use Rattle.crq_session.specs.declared.answers.SendAnswer.{SendAnswer}
use Rattle.vscsi_client.specs.Login.{found_by}
use Rattle.vscsi_client.specs.State.{ClientState}
use Rattle.vscsi_client.specs.Turned.{IsFirst, LoginStep, RegistersAs, Runs, Site, Steps, Turned, is_dropped, sent_by, sent_stage}
use Rattle.vscsi_client.specs.Turned.LoginStep.{Began, Looked, NotWritten, Put, RanOut, Registered, Took, TookNone, Wrote}
use Rattle.vscsi_client.specs.declared.answers.LoginTurn.{LoginTurn}
use Rattle.vscsi_client.specs.declared.found.Found.{Found}
use Rattle.vscsi_client.specs.declared.found.Found.TheVariants as founds
use Rattle.vscsi_client.specs.declared.stage.Due.{Due}
use Rattle.vscsi_client.specs.declared.stage.Due.TheVariants as dues
use Rattle.vscsi_client.specs.declared.stage.Stage.{Stage}
use Rattle.vscsi_client.specs.declared.stage.Stage.TheVariants.{Idle, Sent, Written}
use Rattle.vcpu_run.specs.OwnOver.{is_login_due}

-- The login of which this is the stage is due if its unit is written.
abbrev pub WrittenDue : ClientState → Type 0
WrittenDue s = (tag slot : ℕ) → s.login ≡ Written tag slot → list_any is_login_due s.due ≡ true

-- ---- what is due

-- more is due behind it
due_more : (due more : List Due) → list_any is_login_due due ≡ true → list_any is_login_due (due ++ more) ≡ true
due_more [] more is = absurd (true≢false (sym is))
due_more (first ∷ due) more is = by (is_login_due first) is (λ rest. due_more due more rest)
  where
    by : (b : Bool) → (b || list_any is_login_due due) ≡ true → (list_any is_login_due due ≡ true → list_any is_login_due (due ++ more) ≡ true)
        → (b || list_any is_login_due (due ++ more)) ≡ true
    by true is rest = refl
    by false is rest = rest is

due_first : (due : List Due) → IsFirst dues.Login due → list_any is_login_due due ≡ true
due_first [] first = absurd first
due_first (one ∷ due) first = ap (λ (d : Due). is_login_due d || list_any is_login_due due) first

-- where none is under way
idle_due : (s : ClientState) → s.login ≡ Idle → WrittenDue s
idle_due s idle tag slot written = absurd (cc (idle, written))

-- ---- one step

more_due : (s s' : ClientState) (more : List Due) → s'.login ≡ s.login → s'.due ≡ s.due ++ more → WrittenDue s → WrittenDue s'
more_due s s' more login due is tag slot written = ap (list_any is_login_due) due ∙ due_more s.due more (is tag slot (sym login ∙ written))

registered_due : (shared : Bool) (s s' : ClientState) (old new : EndState) (answer : RegAnswer) → RegistersAs shared s s' old new answer → WrittenDue s → WrittenDue s'
registered_due shared s s' old new reg.Resource is due = subst WrittenDue (sym is.2) due
registered_due shared s s' old new reg.Success is due = idle_due s' (ap (λ (s : ClientState). s.login) is.2)
registered_due shared s s' old new (reg.Closed control) is due = idle_due s' (ap (λ (s : ClientState). s.login) is.2)
registered_due shared s s' old new (reg.Busy number held) is due = idle_due s' (ap (λ (s : ClientState). s.login) is.1)
registered_due shared s s' old new reg.Parameter is due = absurd is

found_due : (entry : Entry) (found : Found) (s : ClientState) → WrittenDue s → WrittenDue (found_by entry found s)
found_due entry (founds.Granted credits) s is = idle_due (found_by entry (founds.Granted credits) s) refl
found_due entry (founds.Rejected reason) s is = idle_due (found_by entry (founds.Rejected reason) s) refl
found_due entry founds.Lost s is = idle_due (found_by entry founds.Lost s) refl
found_due entry founds.Step s is = λ tag slot written. due_more s.due _ (is tag slot written)
found_due entry founds.Answer s is = is
found_due entry founds.Nothing s is = is
found_due entry (founds.InUse page word) s is = is

-- what was put is due no more
rest_due : (due : Due) (others list : List Due) → list ≡ due ∷ others → is_login_due due ≡ false → list_any is_login_due list ≡ true → list_any is_login_due others ≡ true
rest_due due others list are other is = sym (ap (λ b. b || list_any is_login_due others) other) ∙ sym (ap (list_any is_login_due) are) ∙ is

put_due : (due : Due) (others : List Due) (s : ClientState) → s.due ≡ due ∷ others → WrittenDue s → WrittenDue (record s { due = others; login = sent_stage due s.login })
put_due dues.Initialize others s first is = λ tag slot written. rest_due dues.Initialize others s.due first refl (is tag slot written)
put_due dues.Complete others s first is = λ tag slot written. rest_due dues.Complete others s.due first refl (is tag slot written)
put_due dues.Login others s first is = λ tag slot written. absurd (sent s.login written)
  where
    sent : {tag slot : ℕ} (stage : Stage) → sent_stage dues.Login stage ≡ Written tag slot → ⊥
    sent Idle e = cc (e)
    sent (Written a b) e = cc (e)
    sent (Sent a b) e = cc (e)

sent_due : (due : Due) (others : List Due) (answer : SendAnswer) (s : ClientState) → s.due ≡ due ∷ others → WrittenDue s → WrittenDue (sent_by due others answer s)
sent_due due others answer s first is = by (is_dropped answer)
  where
    by : (b : Bool) → WrittenDue (cond b s (record s { due = others; login = sent_stage due s.login }))
    by true = is
    by false = put_due due others s first is

step_due : (line : ℕ) (step : LoginStep) (a b : Site) → Steps line step a b → WrittenDue a.client → WrittenDue b.client
step_due line (Registered answer) a b did is = registered_due a.at.crq_shared a.client b.client did.0.room b.at.crq answer did.0.registers is
step_due line Took a b did is = subst WrittenDue (sym did.0.client) is
step_due line TookNone a b did is = subst WrittenDue (sym did.0.client) is
step_due line (Looked found) a b did is = subst WrittenDue (sym did.0.client) (found_due did.0.entry found a.client is)
step_due line Began a b did is = more_due a.client b.client (dues.Login ∷ []) (ap (λ (s : ClientState). s.login) did.0.client) (ap (λ (s : ClientState). s.due) did.0.client) is
step_due line Wrote a b did is = λ tag slot written. ap (λ (s : ClientState). list_any is_login_due s.due) did.1.client ∙ due_first a.client.due did.0.first
step_due line (NotWritten page word) a b did is = subst WrittenDue (sym did.1.client) is
step_due line (Put due answer) a b did is = subst WrittenDue (sym did.0.client) (sent_due due did.0.others answer a.client did.0.first is)
step_due line RanOut a b did is = subst WrittenDue (sym did.client) is

-- ---- a turn

pub due_runs : (line : ℕ) (steps : List LoginStep) (a b : Site) → Runs line steps a b → WrittenDue a.client → WrittenDue b.client
due_runs line [] a b same is = subst (λ (site : Site). WrittenDue site.client) (sym same) is
due_runs line (step ∷ steps) a c (b, runs, did, hands) is = step_due line step b c did (due_runs line steps a b runs is)

pub due_turned : (line : ℕ) (a b : Site) (turn : LoginTurn) → Turned line a b (Ok turn) → WrittenDue a.client → WrittenDue b.client
due_turned line a b turn turned is = due_runs line turned.steps a b turned.runs is
