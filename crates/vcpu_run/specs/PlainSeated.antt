-- What the driver of a plain client does at its pair, as the replay of its lines says; and what a step says that did nothing.
use Rattle.std.specs.Prelude.{◌≡◌, ◌⊎◌, ℕ, ◌<◌, ◌≤◌, false, [], Result}
use Rattle.vio_num.specs.declared.hypervisor.Moved.TheVariants as moves
use Rattle.vio_num.specs.declared.memory.NoMemory.{NoMemory}
use Rattle.boot_text.specs.declared.verb.Verb.{Verb}
use Rattle.crq_session.specs.PlainState.{end_of}
use Rattle.tce_window.specs.PlainPort.{known_of}
use Rattle.unit_region.specs.declared.step.Step.{Step}
use Rattle.unit_region.specs.declared.step.Step.TheVariants as steps
use Rattle.vcpu_run.specs.Agreed.{OnDrivers}
use Rattle.vcpu_run.specs.PlainSteps.{Own, StepsPlainly, own_of}
use Rattle.vcpu_run.specs.declared.driver.Driver.{Driver}
use Rattle.vcpu_run.specs.declared.pair.Pair.{Pair}
use Rattle.vcpu_run.specs.declared.script.Progress.{Progress}

-- the client of a pair, its queue's end and its window
abbrev pub own_in : Driver → Pair → Own
own_in driver pair = own_of driver (end_of [] pair.link false) (known_of pair.window)

-- a step of a plain line goes on as the replay at the pair
abbrev pub DriverPlainly : Verb → (p p' : Progress) → (old new : Pair) → Result Step NoMemory → Type 0
DriverPlainly verb p p' old new result = OnDrivers old.driver new.driver (λ a b. StepsPlainly verb p p' (own_in a old) (own_in b new) result)

-- A step is told as it is; but one that says it did nothing did something just where the entries that were put, or those that were taken, are more
-- than before.
pub record IsToldSince (put put' taken taken' : ℕ) (step told : Step) : Type 0 where
  pub same : (told ≡ step) ⊎ ((step ≡ steps.Waits moves.Quiet) × (told ≡ steps.Waits moves.Moved))
  pub quiet : told ≡ steps.Waits moves.Quiet → (put' ≤ put) × (taken' ≤ taken)
  pub moved : step ≡ steps.Waits moves.Quiet → told ≡ steps.Waits moves.Moved → (put < put') ⊎ (taken < taken')
