-- What a client's line says that does not log in: it says of no login that it was granted, or rejected; and how many requests one that logs in says
-- were granted, where it says what the replay does.
use Rattle.std.proofs.Common.{◌≡◌, ◌⊎◌, inl, inr, ℕ, Bool, false, true, true≢false, cond, IfSome, List, Option, Result, Ok, Err, refl, sym, subst}
use Rattle.vio_num.specs.declared.names.UnitId.{UnitId}
use Rattle.boot_text.specs.declared.verb.Verb.{Verb}
use Rattle.boot_text.specs.declared.verb.Verb.TheVariants as verbs
use Rattle.vio_trace.specs.declared.outcome.Outcome.{Outcome}
use Rattle.vio_trace.specs.declared.outcome.Outcome.TheVariants as outcomes
use Rattle.srp_iu.specs.declared.login.TheConstants.{UNABLE_TO_ESTABLISH_CHANNEL}
use Rattle.page_slots.specs.Stroke.{StrokeValue}
use Rattle.unit_region.specs.declared.step.Step.{Step}
use Rattle.unit_region.specs.declared.step.Step.TheVariants as steps
use Rattle.vscsi_client.specs.declared.answers.DataFault.{DataFault}
use Rattle.vscsi_client.specs.declared.answers.DataFault.TheVariants as faults
use Rattle.vscsi_client.specs.declared.answers.Refused.{Refused}
use Rattle.vscsi_client.specs.declared.answers.Refused.TheVariants as whys
use Rattle.vcpu_run.specs.Acts.{Acting, ActsFor, CommandsOnce, SaysAs, SaysData}
use Rattle.vcpu_run.specs.Credited.{grants}
use Rattle.vcpu_run.specs.OwnClients.{IsGrantOf}
use Rattle.vcpu_run.specs.OwnSteps.{LogsIn}
use Rattle.vcpu_run.specs.PlainRejected.{TellsRejection}
use Rattle.vcpu_run.specs.Replay.{Replay, ends_as, forgotten, login_says}
use Rattle.vcpu_run.specs.declared.script.Progress.{Progress}

grants_or : (outcome : Outcome) → ((credits : ℕ) × (outcome ≡ outcomes.Granted credits)) ⊎ (grants outcome ≡ false)
grants_or (outcomes.Granted credits) = inl (credits, refl)
grants_or outcome = inr refl

-- ---- none says that a login was granted

abbrev granting : ℕ → Step
granting credits = steps.Ends (outcomes.Granted credits)

sent_grants : (credits : ℕ) (answer : Result ℕ Refused) → SaysAs answer (granting credits) → ⊥
sent_grants credits (Ok tag) says = cc
sent_grants credits (Err whys.Range) says = cc
sent_grants credits (Err whys.NotLoggedIn) says = cc
sent_grants credits (Err (whys.NoCredit limit)) says = cc
sent_grants credits (Err (whys.Overlap tag)) says = cc
sent_grants credits (Err (whys.InUse page word)) says = cc
sent_grants credits (Err (whys.Closed control)) says = cc
sent_grants credits (Err (whys.Dropped number held)) says = cc
sent_grants credits (Err whys.NoMemory) says = cc

data_grants : (credits : ℕ) (answer : Result (List ℕ) DataFault) → SaysData answer (granting credits) → ⊥
data_grants credits (Ok bytes) says = cc
data_grants credits (Err faults.Unknown) says = cc
data_grants credits (Err (faults.Stale page)) says = cc
data_grants credits (Err (faults.InUse page word)) says = absurd says
data_grants credits (Err faults.NoMemory) says = absurd says

command_grants : (line : ℕ) (verb : Verb) (old new : Acting) (credits : ℕ) → CommandsOnce line verb old new (granting credits) → ⊥
command_grants line verb old new credits once = sent_grants credits once.submits.answer once.submits.says

none_grants : (line : ℕ) (verb : Verb) (p p' : Progress) (old new : Acting) (credits : ℕ) → (LogsIn verb → ⊥) → ActsFor line verb p p' old new (granting credits) → ⊥
none_grants line verbs.Login p p' old new credits other acts = absurd (other tt)
none_grants line verbs.Reset p p' old new credits other acts = absurd (other tt)
none_grants line verbs.Logout p p' old new credits other acts = sent_grants credits acts.answer acts.says
none_grants line (verbs.Task function tag) p p' old new credits other acts = sent_grants credits acts.answer acts.says
none_grants line (verbs.Take count) p p' old new credits other acts = absurd acts.ends
none_grants line (verbs.Data tag) p p' old new credits other acts = data_grants credits acts.answer acts.says
none_grants line (verbs.Peek at len) p p' old new credits other acts = absurd acts.says
none_grants line (verbs.Fill at len seed) p p' old new credits other acts = absurd acts.says
none_grants line (verbs.Poke at bytes) p p' old new credits other acts = absurd acts.says
none_grants line (verbs.Tce entry page readable writable) p p' old new credits other acts = absurd acts.says
none_grants line verbs.Tur p p' old new credits other acts = command_grants line verbs.Tur old new credits acts
none_grants line (verbs.Read lba blocks at pieces table) p p' old new credits other acts = command_grants line (verbs.Read lba blocks at pieces table) old new credits acts
none_grants line (verbs.Write lba blocks at pieces table) p p' old new credits other acts = command_grants line (verbs.Write lba blocks at pieces table) old new credits acts
none_grants line (verbs.Command cdb) p p' old new credits other acts = command_grants line (verbs.Command cdb) old new credits acts
none_grants line (verbs.CommandIn cdb at len pieces table) p p' old new credits other acts = command_grants line (verbs.CommandIn cdb at len pieces table) old new credits acts
none_grants line (verbs.CommandOut cdb at len pieces table) p p' old new credits other acts = command_grants line (verbs.CommandOut cdb at len pieces table) old new credits acts
none_grants line verbs.Open p p' old new credits other acts = command_grants line verbs.Open old new credits acts
none_grants line verbs.Close p p' old new credits other acts = command_grants line verbs.Close old new credits acts
none_grants line (verbs.Post at len count) p p' old new credits other acts = command_grants line (verbs.Post at len count) old new credits acts
none_grants line (verbs.Send to len seed at) p p' old new credits other acts = command_grants line (verbs.Send to len seed at) old new credits acts
none_grants line (verbs.ChangeMac mac) p p' old new credits other acts = command_grants line (verbs.ChangeMac mac) old new credits acts
none_grants line (verbs.Multicast control group) p p' old new credits other acts = command_grants line (verbs.Multicast control group) old new credits acts
none_grants line (verbs.Hcall number arguments) p p' old new credits other acts = command_grants line (verbs.Hcall number arguments) old new credits acts
none_grants line verbs.Fail p p' old new credits other acts = command_grants line verbs.Fail old new credits acts

pub acts_grant : (line : ℕ) (verb : Verb) (p p' : Progress) (old new : Acting) (outcome : Outcome) → (LogsIn verb → ⊥) → ActsFor line verb p p' old new (steps.Ends outcome) → grants outcome ≡ false
acts_grant line verb p p' old new outcome other acts = by (grants_or outcome)
  where
    by : ((credits : ℕ) × (outcome ≡ outcomes.Granted credits)) ⊎ (grants outcome ≡ false) → grants outcome ≡ false
    by (inr none) = none
    by (inl is) = absurd (none_grants line verb p p' old new is.0 other (subst (λ (o : Outcome). ActsFor line verb p p' old new (steps.Ends o)) is.1 acts))

-- ---- how many requests a line says were granted

-- one that says of no login that it was granted says no number
none_number : (granted : ℕ) (outcome : Outcome) → grants outcome ≡ false → IsGrantOf granted outcome
none_number granted (outcomes.Granted credits) none = absurd (true≢false none)
none_number granted outcome none = tt

pub acts_number : (granted line : ℕ) (verb : Verb) (p p' : Progress) (old new : Acting) (outcome : Outcome) → (LogsIn verb → ⊥) → ActsFor line verb p p' old new (steps.Ends outcome)
    → IsGrantOf granted outcome
acts_number granted line verb p p' old new outcome other acts = none_number granted outcome (acts_grant line verb p p' old new outcome other acts)

-- where the replay says that a login was granted, it says that this many were
login_number : (granted : ℕ) (now : Replay) → IsGrantOf granted (login_says granted now)
login_number granted now = by now.is_on
  where
    by : (b : Bool) → IsGrantOf granted (cond b (outcomes.Rejected UNABLE_TO_ESTABLISH_CHANNEL) (outcomes.Granted granted))
    by true = tt
    by false = refl

pub says_number : (granted pages : ℕ) (now : Replay) (verb : Verb) (outcome : Outcome) → LogsIn verb → IfSome (ends_as granted pages now verb) (λ said. outcome ≡ said) → IsGrantOf granted outcome
says_number granted pages now verbs.Login outcome logs says = subst (IsGrantOf granted) (sym says) (login_number granted now)
says_number granted pages now verbs.Reset outcome logs says = subst (IsGrantOf granted) (sym says) (login_number granted (forgotten now))
says_number granted pages now verb outcome logs says = absurd logs

-- ---- none says that one was rejected

pub none_rejects : (verb : Verb) (outcome : Outcome) (who : UnitId) (strokes : ℕ → Option (List StrokeValue)) → (LogsIn verb → ⊥) → TellsRejection verb outcome who strokes
none_rejects verbs.Login outcome who strokes other = absurd (other tt)
none_rejects verb outcome who strokes other = tt
