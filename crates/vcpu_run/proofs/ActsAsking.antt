-- What a request of a client's line does: it was sent, or was not for the cause that the line says.
use Rattle.std.proofs.Common.{◌≡◌, ◌≢◌, ◌∙◌, inl, inr, ℕ, true, Option, Some, None, Result, Ok, Err, IfOk, IfErr, IfSome, IsErr, OnErr, refl, sym, subst}
use Rattle.vio_num.specs.declared.memory.NoMemory.{NoMemory}
use Rattle.boot_text.specs.declared.verb.Verb.{Verb}
use Rattle.vio_trace.specs.declared.outcome.Outcome.TheVariants as outcomes
use Rattle.crq_session.specs.EndState.{OnlySends}
use Rattle.tce_window.specs.PortState.{OnlyWrites}
use Rattle.unit_region.specs.declared.step.Step.{Step}
use Rattle.unit_region.specs.declared.step.Step.TheVariants as steps
use Rattle.vscsi_client.specs.Sending.{LoggedOut, Submitted, Tasked, WhyNotSent, WhyNotSubmitted, command_refusal, logout_refusal, logout_unit, task_refusal, task_unit}
use Rattle.vscsi_client.specs.declared.answers.Refused.{Refused}
use Rattle.vscsi_client.specs.declared.answers.Refused.TheVariants as whys
use Rattle.vscsi_client.specs.declared.op.Op.{Op}
use Rattle.vcpu_run.specs.Acts.{Acting, ActsFor, CommandsOnce, LogsOutOnce, RefusesLogout, RefusesOp, RefusesTask, SubmitsOnce, TasksOnce}
use Rattle.vcpu_run.specs.Commands.{IsOpOf, cdb_of}
use Rattle.vcpu_run.specs.Sendings.{SaysSent, SaysWhy}
use Rattle.vcpu_run.specs.Works.{sends}
use Rattle.vcpu_run.specs.declared.script.Progress.{Progress}
use Rattle.boot_text.specs.declared.verb.Verb.TheVariants as verbs

same_why : (a b : Refused) (answer : Result ℕ Refused) → answer ≡ Err a → answer ≡ Err b → a ≡ b
same_why a b answer one other = cc (one, other)

-- the step says what was answered
says_sent : (tag : ℕ) (step : Step) (result : Result Step NoMemory) → result ≡ Ok step → SaysSent (Ok tag) result → step ≡ steps.Ends (outcomes.Sent tag)
says_sent tag step result is says = cc (is, says)

-- memory did not run out where there is a step
sent_memory : (tag : ℕ) (answer : Result ℕ Refused) → answer ≡ Ok tag → answer ≢ Err whys.NoMemory
sent_memory tag answer ok is = cc (ok, is)

no_error : (step : Step) (result : Result Step NoMemory) → result ≡ Ok step → IsErr result → ⊥
no_error step (Ok one) ok is = cc (is)
no_error step (Err memory) ok is = cc (ok)

none_memory : (why : Refused) (step : Step) (answer : Result ℕ Refused) (result : Result Step NoMemory) → answer ≡ Err why → result ≡ Ok step → (why ≡ whys.NoMemory → IsErr result)
    → answer ≢ Err whys.NoMemory
none_memory why step answer result err ok memory is = no_error step result ok (memory (same_why why whys.NoMemory answer err is))

-- a command
refused_op : (line : ℕ) (op : Op) (old new : Acting) (why : Refused) (answer : Result ℕ Refused) (refusal : Option Refused) → answer ≡ Err why → command_refusal old.ports.own.place.size old.client op ≡ refusal
    → IfSome refusal (λ w. (answer ≡ Err w) × (new.client ≡ old.client) × (new.ports.crq ≡ old.ports.crq) × (new.ports.own ≡ old.ports.own))
    → (refusal ≡ None → WhyNotSubmitted line op old.client new.client old.ports new.ports why)
    → RefusesOp line op old new why
refused_op line op old new why answer (Some w) err is (same, client, crq, own) unsent = inl (is ∙ subst (λ (v : Refused). Some w ≡ Some v) (sym (same_why why w answer err same)) refl, record { crq = crq; own = own }, client)
refused_op line op old new why answer None err is refused unsent = inr (is, unsent refl)

pub command_acts : (line : ℕ) (op : Op) (old new : Acting) (answer : Result ℕ Refused) (result : Result Step NoMemory) → new.answers ≡ old.answers
    → SaysSent answer result → IfErr answer (λ why. SaysWhy why result)
    → IfSome (command_refusal old.ports.own.place.size old.client op)
    (λ why. (answer ≡ Err why) × (new.client ≡ old.client) × (new.ports.crq ≡ old.ports.crq) × (new.ports.own ≡ old.ports.own))
    → IfOk answer (Submitted line op old.client new.client old.ports new.ports)
    → (command_refusal old.ports.own.place.size old.client op ≡ None → IfErr answer (WhyNotSubmitted line op old.client new.client old.ports new.ports))
    → OnlySends old.ports.crq_shared old.ports.crq new.ports.crq → OnlyWrites old.ports.own new.ports.own → IfErr answer (λ why. why ≡ whys.NoMemory → IsErr result)
    → IfOk result (SubmitsOnce line op old new)
command_acts line op old new answer (Err memory) same says why refused sent unsent crq own ran = tt
command_acts line op old new (Ok tag) (Ok step) same says why refused sent unsent crq own memory = record {
  answer = Ok tag;
  submits = sent;
  says = says_sent tag step (Ok step) refl says;
  answers = same;
  crq = crq;
  own = own;
  memory = sent_memory tag (Ok tag) refl;
}
command_acts line op old new (Err why) (Ok step) same says said refused sent unsent crq own memory = record {
  answer = Err why;
  submits = refused_op line op old new why (Err why) (command_refusal old.ports.own.place.size old.client op) refl refl refused unsent;
  says = said;
  answers = same;
  crq = crq;
  own = own;
  memory = none_memory why step (Err why) (Ok step) refl refl memory;
}

-- a line that sends one
commands : (line : ℕ) (verb : Verb) (op : Op) (p p' : Progress) (old new : Acting) (step : Step) → sends verb ≡ true → CommandsOnce line verb old new step → ActsFor line verb p p' old new step
commands line verbs.Tur op p p' old new step is does = does
commands line (verbs.Read lba blocks at pieces table) op p p' old new step is does = does
commands line (verbs.Write lba blocks at pieces table) op p p' old new step is does = does
commands line (verbs.Command cdb) op p p' old new step is does = does
commands line (verbs.CommandIn cdb at len pieces table) op p p' old new step is does = does
commands line (verbs.CommandOut cdb at len pieces table) op p p' old new step is does = does
commands line verbs.Login op p p' old new step is does = absurd (cc)
commands line verbs.Reset op p p' old new step is does = absurd (cc)
commands line verbs.Logout op p p' old new step is does = absurd (cc)
commands line (verbs.Task function of) op p p' old new step is does = absurd (cc)
commands line (verbs.Take count) op p p' old new step is does = absurd (cc)
commands line (verbs.Data of) op p p' old new step is does = absurd (cc)
commands line verbs.Open op p p' old new step is does = absurd (cc)
commands line verbs.Close op p p' old new step is does = absurd (cc)
commands line (verbs.Post at len count) op p p' old new step is does = absurd (cc)
commands line (verbs.Send to len seed at) op p p' old new step is does = absurd (cc)
commands line (verbs.ChangeMac own) op p p' old new step is does = absurd (cc)
commands line (verbs.Multicast control group) op p p' old new step is does = absurd (cc)
commands line (verbs.Fill at len seed) op p p' old new step is does = absurd (cc)
commands line (verbs.Poke at bytes) op p p' old new step is does = absurd (cc)
commands line (verbs.Peek at len) op p p' old new step is does = absurd (cc)
commands line (verbs.Tce entry page readable writable) op p p' old new step is does = absurd (cc)
commands line (verbs.Hcall number arguments) op p p' old new step is does = absurd (cc)
commands line verbs.Fail op p p' old new step is does = absurd (cc)

pub op_acts : (line : ℕ) (verb : Verb) (op : Op) (p p' : Progress) (old new : Acting) (result : Result Step NoMemory) → sends verb ≡ true → IsOpOf verb op → op.cdb ≡ cdb_of verb
    → IfOk result (SubmitsOnce line op old new) → IfOk result (ActsFor line verb p p' old new)
op_acts line verb op p p' old new (Ok step) is of cdb does = commands line verb op p p' old new step is (record { op = op; is_op = of; cdb = cdb; submits = does })
op_acts line verb op p p' old new (Err memory) is of cdb does = tt

-- a task management request
refused_task : (line function tag : ℕ) (old new : Acting) (why : Refused) (answer : Result ℕ Refused) (refusal : Option Refused) → answer ≡ Err why → task_refusal old.client ≡ refusal
    → IfSome refusal (λ w. (answer ≡ Err w) × (new.ports.crq ≡ old.ports.crq) × (new.ports.own ≡ old.ports.own))
    → (refusal ≡ None → WhyNotSent line old.client (task_unit function tag old.client) old.ports new.ports why) → RefusesTask line function tag old new why
refused_task line function tag old new why answer (Some w) err is (same, crq, own) unsent = inl (is ∙ subst (λ (v : Refused). Some w ≡ Some v) (sym (same_why why w answer err same)) refl, record { crq = crq; own = own })
refused_task line function tag old new why answer None err is refused unsent = inr (is, unsent refl)

pub task_acts : (line function tag : ℕ) (old new : Acting) (answer : Result ℕ Refused) (result : Result Step NoMemory) → new.answers ≡ old.answers
    → SaysSent answer result → IfErr answer (λ why. SaysWhy why result)
    → IfSome (task_refusal old.client) (λ why. (answer ≡ Err why) × (new.ports.crq ≡ old.ports.crq) × (new.ports.own ≡ old.ports.own))
    → IfOk answer (Tasked line function tag old.client new.client old.ports new.ports)
    → (task_refusal old.client ≡ None → IfErr answer (WhyNotSent line old.client (task_unit function tag old.client) old.ports new.ports))
    → OnErr answer (new.client ≡ old.client)
    → OnlySends old.ports.crq_shared old.ports.crq new.ports.crq → OnlyWrites old.ports.own new.ports.own → IfErr answer (λ why. why ≡ whys.NoMemory → IsErr result)
    → IfOk result (TasksOnce line function tag old new)
task_acts line function tag old new answer (Err memory) same says why refused sent unsent still crq own ran = tt
task_acts line function tag old new (Ok own) (Ok step) same says why refused sent unsent still crq wrote memory = record { answer = Ok own; tasks = sent; says = says_sent own step (Ok step) refl says; answers = same; crq = crq; own = wrote; memory = sent_memory own (Ok own) refl }
task_acts line function tag old new (Err why) (Ok step) same says said refused sent unsent still crq own memory = record {
  answer = Err why;
  tasks = (refused_task line function tag old new why (Err why) (task_refusal old.client) refl refl refused unsent, still);
  says = said;
  answers = same;
  crq = crq;
  own = own;
  memory = none_memory why step (Err why) (Ok step) refl refl memory;
}

-- a logout
refused_logout : (line : ℕ) (old new : Acting) (why : Refused) (answer : Result ℕ Refused) (refusal : Option Refused) → answer ≡ Err why → logout_refusal old.client ≡ refusal
    → IfSome refusal (λ w. (answer ≡ Err w) × (new.ports.crq ≡ old.ports.crq) × (new.ports.own ≡ old.ports.own))
    → (refusal ≡ None → WhyNotSent line old.client (logout_unit old.client) old.ports new.ports why) → RefusesLogout line old new why
refused_logout line old new why answer (Some w) err is (same, crq, own) unsent = inl (is ∙ subst (λ (v : Refused). Some w ≡ Some v) (sym (same_why why w answer err same)) refl, record { crq = crq; own = own })
refused_logout line old new why answer None err is refused unsent = inr (is, unsent refl)

pub logout_acts : (line : ℕ) (old new : Acting) (answer : Result ℕ Refused) (result : Result Step NoMemory) → new.answers ≡ old.answers
    → SaysSent answer result → IfErr answer (λ why. SaysWhy why result)
    → IfSome (logout_refusal old.client) (λ why. (answer ≡ Err why) × (new.ports.crq ≡ old.ports.crq) × (new.ports.own ≡ old.ports.own))
    → IfOk answer (LoggedOut line old.client new.client old.ports new.ports)
    → (logout_refusal old.client ≡ None → IfErr answer (WhyNotSent line old.client (logout_unit old.client) old.ports new.ports))
    → OnErr answer (new.client ≡ old.client)
    → OnlySends old.ports.crq_shared old.ports.crq new.ports.crq → OnlyWrites old.ports.own new.ports.own → IfErr answer (λ why. why ≡ whys.NoMemory → IsErr result)
    → IfOk result (LogsOutOnce line old new)
logout_acts line old new answer (Err memory) same says why refused sent unsent still crq own ran = tt
logout_acts line old new (Ok tag) (Ok step) same says why refused sent unsent still crq own memory = record { answer = Ok tag; logs_out = sent; says = says_sent tag step (Ok step) refl says; answers = same; crq = crq; own = own; memory = sent_memory tag (Ok tag) refl }
logout_acts line old new (Err why) (Ok step) same says said refused sent unsent still crq own memory = record {
  answer = Err why;
  logs_out = (refused_logout line old new why (Err why) (logout_refusal old.client) refl refl refused unsent, still);
  says = said;
  answers = same;
  crq = crq;
  own = own;
  memory = none_memory why step (Err why) (Ok step) refl refl memory;
}
