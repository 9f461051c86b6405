-- Which values lines put into the entries of a window, by their records.
use Rattle.std.specs.Prelude.{◌≡◌, ℕ, ◌==◌, Bool, true, false, List, [], ◌∷◌, ◌++◌, if◌then◌else◌}
use Rattle.vio_num.specs.declared.hypervisor.Hrc.TheVariants as codes
use Rattle.boot_text.specs.declared.verb.Verb.{Verb}
use Rattle.boot_text.specs.declared.verb.Verb.TheVariants as verbs
use Rattle.vio_trace.specs.declared.outcome.Outcome.{Outcome}
use Rattle.vio_trace.specs.declared.outcome.Outcome.TheVariants as outcomes
use Rattle.unit_region.specs.Answers.{tce_of}
use Rattle.unit_region.specs.declared.step.Step.{Step}
use Rattle.unit_region.specs.declared.step.Step.TheVariants as steps

-- the value that a line put into an entry, by its record
abbrev pub put_by : (entry : ℕ) → Verb → Outcome → List ℕ
put_by e (verbs.Tce entry page readable writable) (outcomes.Code codes.Success) = if entry == e then tce_of page readable writable ∷ [] else []
put_by e verb outcome = []

-- a line that puts a value into an entry
abbrev pub is_put : Verb → Bool
is_put (verbs.Tce entry page readable writable) = true
is_put _ = false

-- a step of a line puts what its record says behind the values of each entry, and nothing while the line goes on
abbrev pub StepPuts : Verb → Step → (old new : ℕ → List ℕ) → Type 0
StepPuts verb (steps.Ends outcome) old new = (e : ℕ) → new e ≡ old e ++ put_by e verb outcome
StepPuts verb (steps.Waits did) old new = (e : ℕ) → new e ≡ old e
