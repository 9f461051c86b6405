-- What a line leaves of its client's answers, by what it is.
use Rattle.std.proofs.Common.{◌≡◌, ℕ, false, Result, OnOk, refl, sym, ap, subst}
use Rattle.vio_num.specs.declared.memory.NoMemory.{NoMemory}
use Rattle.crq_session.specs.EndState.{EndState}
use Rattle.boot_text.specs.declared.verb.Verb.{Verb}
use Rattle.unit_region.specs.declared.step.Step.{Step}
use Rattle.unit_region.specs.Steps.{IsPlain}
use Rattle.vscsi_client.specs.State.{ClientState}
use Rattle.vcpu_run.specs.declared.driver.Driver.{Driver}
use Rattle.vcpu_run.specs.Credited.{is_take}
use Rattle.vcpu_run.specs.EventsHeard.{events_waiting}
use Rattle.vcpu_run.specs.Takings.{Gives, StepsTaken, waiting}
use Rattle.vcpu_run.proofs.DataStays.{data_same}
use Rattle.vcpu_run.proofs.Giving.{beside_gives, gives_ok}
use Rattle.vcpu_run.proofs.AnswersCounted.{is_data, plain_taken}

-- the line is this one
pub taken_verb : (verb other : Verb) (taken taken' : ℕ) (a b : Driver) (result : Result Step NoMemory) → verb ≡ other → StepsTaken other taken taken' a b result → StepsTaken verb taken taken' a b result
taken_verb verb other taken taken' a b result is steps_so = subst (λ (v : Verb). StepsTaken v taken taken' a b result) (sym is) steps_so

-- it only touches the region
pub own_step : (verb : Verb) (taken : ℕ) (a : Driver) (result : Result Step NoMemory) → is_take verb ≡ false → is_data verb ≡ false → IsPlain result → StepsTaken verb taken taken a a result
own_step verb taken a result no_take no_data plain = plain_taken verb taken a a result no_take no_data (record { answers = refl; rows = refl; outgoing = refl }) plain

-- it only reads the data of a tag
pub data_step : (a b : Driver) (e : EndState) (result : Result Step NoMemory) → b.answers ≡ a.answers → b.client ≡ a.client → OnOk result (Gives a b e e)
data_step a b e result answers client =
    gives_ok a b e e result
    (beside_gives a b e e (ap events_waiting client) (ap (λ (s : ClientState). s.server) client)
    (data_same a.client b.client a.answers.items b.answers.items (ap (λ (s : ClientState). s.rows) client) (ap (λ (s : ClientState). s.outgoing) client) (ap (λ xs. xs.items) answers)) (ap (λ xs. xs.items) answers) (ap (λ (s : ClientState). s.kept) client) (ap waiting client) (refl, refl, refl))
