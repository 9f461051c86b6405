-- What a driver's call that sends a command, a task or a logout leaves, where nobody else has a hand in its end and its window.
use Rattle.std.proofs.Common.{◌≡◌, ℕ, Bool, true, false, true≢false, None, Result, Err, IfErr, IfOk, IfSome, IsErr, OnErr}
use Rattle.vio_num.specs.declared.memory.NoMemory.{NoMemory}
use Rattle.crq_session.specs.EndState.{OnlySends}
use Rattle.tce_window.specs.PortState.{OnlyWrites}
use Rattle.boot_text.specs.declared.verb.Verb.{Verb}
use Rattle.boot_text.specs.declared.verb.Verb.TheVariants as verbs
use Rattle.unit_region.specs.declared.step.Step.{Step}
use Rattle.vscsi_client.specs.Ports.{Ports, ports}
use Rattle.vscsi_client.specs.Sending.{LoggedOut, Submitted, Tasked, WhyNotSent, WhyNotSubmitted, command_refusal, logout_refusal, logout_unit, task_refusal, task_unit}
use Rattle.vscsi_client.specs.Units.{FitsOp}
use Rattle.vscsi_client.specs.declared.answers.Refused.{Refused}
use Rattle.vscsi_client.specs.declared.answers.Refused.TheVariants as whys
use Rattle.vscsi_client.specs.declared.op.Op.{Op}
use Rattle.vcpu_run.specs.Commands.{IsOpOf}
use Rattle.vcpu_run.specs.PlainSteps.{Own, StepsPlainly, beside}
use Rattle.vcpu_run.specs.Sendings.{SaysSent, SaysWhy}
use Rattle.vcpu_run.specs.declared.script.Progress.{Progress}
use Rattle.vcpu_run.proofs.PlainSending.{command_on, logout_on, task_on}

-- the ports of a client
abbrev ports_by : (crq_shared own_shared : Bool) → Own → Ports
ports_by crq_shared own_shared own = ports crq_shared own.end own_shared own.window

pub command_plainly : (crq_shared own_shared : Bool) (line : ℕ) (op : Op) (old new : Own) (answer : Result ℕ Refused) (result : Result Step NoMemory)
    → new.answers ≡ old.answers → SaysSent answer result → IfErr answer (λ x. SaysWhy x result) → IfErr answer (λ x. x ≡ whys.NoMemory → IsErr result)
    → IfSome (command_refusal old.window.place.size old.client op) (λ x. (answer ≡ Err x) × (new.client ≡ old.client) × (new.end ≡ old.end) × (new.window ≡ old.window))
    → IfOk answer (Submitted line op old.client new.client (ports_by crq_shared own_shared old) (ports_by crq_shared own_shared new))
    → (command_refusal old.window.place.size old.client op ≡ None
    → IfErr answer (WhyNotSubmitted line op old.client new.client (ports_by crq_shared own_shared old) (ports_by crq_shared own_shared new)))
    → OnlySends crq_shared old.end new.end → OnlyWrites old.window new.window → crq_shared ≡ false → own_shared ≡ false
    → (verb : Verb) (p : Progress) → IsOpOf verb op → FitsOp op → StepsPlainly verb p p old new result
command_plainly false false line op old new answer result noted says reason memory refused submitted why_not sends wrote crq_alone own_alone =
    λ verb p is fits plain granted unit server server' now spares stays talks come.
    command_on granted line verb p op now (beside unit server old) (beside unit server' new) old.answers new.answers answer result noted is fits talks come stays sends wrote says reason memory refused submitted why_not
command_plainly true own_shared line op old new answer result noted says reason memory refused submitted why_not sends wrote crq_alone own_alone = absurd (true≢false crq_alone)
command_plainly false true line op old new answer result noted says reason memory refused submitted why_not sends wrote crq_alone own_alone = absurd (true≢false own_alone)

pub task_plainly : (crq_shared own_shared : Bool) (line function task : ℕ) (old new : Own) (answer : Result ℕ Refused) (result : Result Step NoMemory)
    → new.answers ≡ old.answers → SaysSent answer result → IfErr answer (λ x. SaysWhy x result) → IfErr answer (λ x. x ≡ whys.NoMemory → IsErr result)
    → IfSome (task_refusal old.client) (λ x. (answer ≡ Err x) × (new.end ≡ old.end) × (new.window ≡ old.window)) → OnErr answer (new.client ≡ old.client)
    → IfOk answer (Tasked line function task old.client new.client (ports_by crq_shared own_shared old) (ports_by crq_shared own_shared new))
    → (task_refusal old.client ≡ None
    → IfErr answer (WhyNotSent line old.client (task_unit function task old.client) (ports_by crq_shared own_shared old) (ports_by crq_shared own_shared new)))
    → OnlySends crq_shared old.end new.end → OnlyWrites old.window new.window → crq_shared ≡ false → own_shared ≡ false
    → (p : Progress) → StepsPlainly (verbs.Task function task) p p old new result
task_plainly false false line function task old new answer result noted says reason memory refused same tasked why_not sends wrote crq_alone own_alone =
    λ p plain granted unit server server' now spares stays talks come.
    task_on granted line function task p now (beside unit server old) (beside unit server' new) old.answers new.answers answer result noted talks come stays sends wrote says reason memory refused same tasked why_not
task_plainly true own_shared line function task old new answer result noted says reason memory refused same tasked why_not sends wrote crq_alone own_alone = absurd (true≢false crq_alone)
task_plainly false true line function task old new answer result noted says reason memory refused same tasked why_not sends wrote crq_alone own_alone = absurd (true≢false own_alone)

pub logout_plainly : (crq_shared own_shared : Bool) (line : ℕ) (old new : Own) (answer : Result ℕ Refused) (result : Result Step NoMemory)
    → new.answers ≡ old.answers → SaysSent answer result → IfErr answer (λ x. SaysWhy x result) → IfErr answer (λ x. x ≡ whys.NoMemory → IsErr result)
    → IfSome (logout_refusal old.client) (λ x. (answer ≡ Err x) × (new.end ≡ old.end) × (new.window ≡ old.window)) → OnErr answer (new.client ≡ old.client)
    → IfOk answer (LoggedOut line old.client new.client (ports_by crq_shared own_shared old) (ports_by crq_shared own_shared new))
    → (logout_refusal old.client ≡ None
    → IfErr answer (WhyNotSent line old.client (logout_unit old.client) (ports_by crq_shared own_shared old) (ports_by crq_shared own_shared new)))
    → OnlySends crq_shared old.end new.end → OnlyWrites old.window new.window → crq_shared ≡ false → own_shared ≡ false
    → (p : Progress) → StepsPlainly verbs.Logout p p old new result
logout_plainly false false line old new answer result noted says reason memory refused same logged why_not sends wrote crq_alone own_alone =
    λ p plain granted unit server server' now spares stays talks come.
    logout_on granted line p now (beside unit server old) (beside unit server' new) old.answers new.answers answer result noted talks come stays sends wrote says reason memory refused same logged why_not
logout_plainly true own_shared line old new answer result noted says reason memory refused same logged why_not sends wrote crq_alone own_alone = absurd (true≢false crq_alone)
logout_plainly false true line old new answer result noted says reason memory refused same logged why_not sends wrote crq_alone own_alone = absurd (true≢false own_alone)
