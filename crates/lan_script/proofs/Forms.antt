-- The form in which lines of LAN units end, as their steps go on.
use Rattle.std.proofs.Common.{◌≡◌, ℕ, true, IfOk, Result, Ok, Err, sym, subst}
use Rattle.vio_num.specs.declared.hypervisor.Hrc.{Hrc}
use Rattle.vio_num.specs.declared.memory.NoMemory.{NoMemory}
use Rattle.vio_num.specs.declared.names.Mac.{Mac}
use Rattle.boot_text.specs.declared.verb.Verb.{Verb}
use Rattle.boot_text.specs.declared.verb.Verb.TheVariants as verbs
use Rattle.hcall_table.specs.Rows.{may_answer}
use Rattle.hcall_table.specs.declared.hcall.Hcall.{Hcall}
use Rattle.hcall_table.specs.declared.hcall.Hcall.TheVariants as rows
use Rattle.vio_trace.specs.declared.outcome.Outcome.{Outcome}
use Rattle.vio_trace.specs.declared.outcome.Outcome.TheVariants as outcomes
use Rattle.lan_script.specs.LineForms.{CodesAs, HasForm, IsCodeOf, SendForm, StepForm}
use Rattle.lan_script.specs.Seats.{is_in_region}
use Rattle.lan_script.specs.Taking.{TakesUpTo}
use Rattle.lan_script.specs.declared.lines.PortStep.{PortStep}
use Rattle.lan_script.specs.declared.lines.PortStep.TheVariants as steps

-- a line that ends with a code
pub coded_form : (verb : Verb) (row : Hcall) (code : Hrc) (step : PortStep) → ((outcome : Outcome) → IsCodeOf row outcome → HasForm verb outcome)
    → may_answer row code ≡ true → CodesAs code step → StepForm verb step
coded_form verb row code (steps.Ends outcome) has may is = has outcome (subst (λ (o : Outcome). IsCodeOf row o) (sym is) may)
coded_form verb row code (steps.Waits did done) has may is = tt

-- one that sends
pub send_form : (to : Mac) (len seed at : ℕ) (step : PortStep) → SendForm step → StepForm (verbs.Send to len seed at) step
send_form to len seed at (steps.Ends outcome) is = is
send_form to len seed at (steps.Waits did done) is = tt

-- one that posts
pub post_form : (at len count posted : ℕ) (code : Hrc) (step : PortStep) → step ≡ steps.Ends (outcomes.Posted posted code)
    → may_answer rows.AddLogicalLanBuffer code ≡ true → StepForm (verbs.Post at len count) step
post_form at len count posted code step is may = subst (λ (s : PortStep). StepForm (verbs.Post at len count) s) (sym is) may

-- one that takes
take_form : (count done : ℕ) (step : PortStep) → TakesUpTo count done step → StepForm (verbs.Take count) step
take_form count done (steps.Ends (outcomes.Took taken)) within = tt
take_form count done (steps.Ends outcome) within = absurd within
take_form count done (steps.Waits did far) within = tt

pub take_forms : (verb : Verb) (count done : ℕ) (r : Result PortStep NoMemory) → verb ≡ verbs.Take count → IfOk r (TakesUpTo count done)
    → IfOk r (StepForm verb)
take_forms verb count done (Ok step) is within = subst (λ (v : Verb). StepForm v step) (sym is) (take_form count done step within)
take_forms verb count done (Err memory) is within = tt

-- one in its unit's region
pub region_form : (verb : Verb) (step : PortStep) → is_in_region verb ≡ true → StepForm verb step
region_form verb (steps.Waits did done) here = tt
region_form verbs.Open (steps.Ends outcome) here = absurd (cc (here))
region_form verbs.Close (steps.Ends outcome) here = absurd (cc (here))
region_form (verbs.ChangeMac mac) (steps.Ends outcome) here = absurd (cc (here))
region_form (verbs.Multicast control mac) (steps.Ends outcome) here = absurd (cc (here))
region_form (verbs.Post at len count) (steps.Ends outcome) here = absurd (cc (here))
region_form (verbs.Send to len seed at) (steps.Ends outcome) here = absurd (cc (here))
region_form (verbs.Take count) (steps.Ends outcome) here = absurd (cc (here))
region_form verb (steps.Ends outcome) here = tt

-- the line of a step, by its verb
pub form_ok : (verb as_verb : Verb) (r : Result PortStep NoMemory) → verb ≡ as_verb → IfOk r (StepForm as_verb) → IfOk r (StepForm verb)
form_ok verb as_verb r is h = subst (λ (v : Verb). IfOk r (StepForm v)) (sym is) h
