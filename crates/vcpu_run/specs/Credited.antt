-- The credits of a client unit, as the records of its lines tell of them (SRP, "Flow control").
use Rattle.std.specs.Prelude.{◌≡◌, ℕ, ◌+◌, ◌-◌, ◌≤◌, ◌==◌, Bool, true, false, List, [], ◌∷◌, Option, Some, None, Result, Ok, Err, IfSome, IsSomeAnd, length, min, ⊤, if◌then◌else◌}
use Rattle.std.specs.Option.{option_map}
use Rattle.vio_num.specs.declared.memory.NoMemory.{NoMemory}
use Rattle.boot_text.specs.declared.plan.Line.{Line}
use Rattle.boot_text.specs.declared.verb.Verb.{Verb}
use Rattle.boot_text.specs.declared.verb.Verb.TheVariants as verbs
use Rattle.vio_trace.specs.declared.outcome.Outcome.{Outcome}
use Rattle.vio_trace.specs.declared.outcome.Outcome.TheVariants as outcomes
use Rattle.vio_trace.specs.declared.rows.LogRow.{LogRow}
use Rattle.vscsi_client.specs.State.{ClientState}
use Rattle.vcpu_run.specs.declared.script.Progress.{Progress}
use Rattle.vcpu_run.specs.declared.script.Progress.TheVariants as progress
use Rattle.unit_region.specs.declared.step.Step.{Step}
use Rattle.unit_region.specs.declared.step.Step.TheVariants as steps

-- a line that ended, and how
pub record Ended : Type 0 where
  pub verb : Verb
  pub outcome : Outcome

-- what a login granted, and how many commands and tasks are outstanding by the records
pub record Credit : Type 0 where
  pub granted : ℕ
  pub outstanding : ℕ

-- what is granted is in use: no more than that, of which 200 count
abbrev pub IsWithin : Option Credit → Type 0
IsWithin credit = IfSome credit (λ c. c.outstanding ≤ min c.granted 200)

-- whether a request that a line sends uses a credit
abbrev pub uses_credit : Verb → Bool
uses_credit verbs.Logout = false
uses_credit _ = true

abbrev pub one_more : Verb → Option Credit → Option Credit
one_more verb credit = if uses_credit verb then option_map (λ (c : Credit). record c { outstanding = c.outstanding + 1 }) credit else credit

abbrev pub gives_back : ℕ → Option Credit → Option Credit
gives_back count credit = option_map (λ (c : Credit). record c { outstanding = c.outstanding - count }) credit

-- a login that is granted begins with nothing outstanding; a command or a task that was sent is one more, answers that were
-- taken are so many less, and with its partner a login is lost
abbrev pub credit_by : Verb → Outcome → Option Credit → Option Credit
credit_by verb (outcomes.Granted credits) credit = Some (record { granted = credits; outstanding = 0 })
credit_by verb (outcomes.Sent tag) credit = one_more verb credit
credit_by verb (outcomes.Took count) credit = gives_back count credit
credit_by verb outcomes.Lost credit = None
credit_by verb (outcomes.TookThenLost count) credit = None
credit_by verb _ credit = credit

-- the same of lines one after the other
abbrev pub credit_after : Option Credit → List Ended → Option Credit
credit_after credit [] = credit
credit_after credit (ended ∷ more) = credit_after (credit_by ended.verb ended.outcome credit) more

-- never more is outstanding than was granted
abbrev pub KeepsCredit : Option Credit → List Ended → Type 0
KeepsCredit credit [] = ⊤
KeepsCredit credit (ended ∷ more) =
    IsWithin (credit_by ended.verb ended.outcome credit) × KeepsCredit (credit_by ended.verb ended.outcome credit) more

-- the lines of a unit that ended, of which each has its row
abbrev pub ended_by : (unit : ℕ) → List Line → List LogRow → List Ended
ended_by unit [] logs = []
ended_by unit (line ∷ lines) [] = []
ended_by unit (line ∷ lines) (row ∷ logs) =
    if line.unit == unit then record { verb = line.verb; outcome = row.outcome } ∷ ended_by unit lines logs else ended_by unit lines logs

-- a client that is logged in has as much as was granted, and by the records no more is outstanding than its requests and the
-- answers that the current line took
abbrev pub Agrees : (taken : ℕ) → Option Credit → ClientState → Type 0
Agrees taken credit s =
    IfSome s.granted (λ granted. IsSomeAnd credit (λ c. (granted ≡ min c.granted 200) × (c.outstanding ≤ length s.outgoing + taken)))

-- the answers that a line took in earlier turns; only one that takes has taken some
abbrev pub taken_in : Progress → ℕ
taken_in (progress.Took taken) = taken
taken_in _ = 0

abbrev pub is_take : Verb → Bool
is_take (verbs.Take count) = true
is_take _ = false

abbrev pub IsFresh : Verb → ℕ → Type 0
IsFresh verb taken = is_take verb ≡ false → taken ≡ 0

-- a step of a line keeps a client in agreement with the records
abbrev pub KeepsAgreed : Verb → (taken taken' : ℕ) → (s s' : ClientState) → Step → Type 0
KeepsAgreed verb taken taken' s s' (steps.Ends outcome) =
    (credit : Option Credit) → IsWithin credit → Agrees taken credit s
    → IsWithin (credit_by verb outcome credit) × Agrees 0 (credit_by verb outcome credit) s'
KeepsAgreed verb taken taken' s s' (steps.Waits did) =
    IsFresh verb taken' × ((credit : Option Credit) → Agrees taken credit s → Agrees taken' credit s')

abbrev pub StepsAgreed : Verb → (taken taken' : ℕ) → (s s' : ClientState) → Result Step NoMemory → Type 0
StepsAgreed verb taken taken' s s' (Ok step) = IsFresh verb taken → KeepsAgreed verb taken taken' s s' step
StepsAgreed verb taken taken' s s' (Err memory) = ⊤

-- whether an outcome says that a login was granted
abbrev pub grants : Outcome → Bool
grants (outcomes.Granted credits) = true
grants _ = false

-- a step of a line at a unit that has no credits
abbrev pub StepsPort : Verb → (taken taken' : ℕ) → Result Step NoMemory → Type 0
StepsPort verb taken taken' (Ok (steps.Ends outcome)) = grants outcome ≡ false
StepsPort verb taken taken' (Ok (steps.Waits did)) = IsFresh verb taken → IsFresh verb taken'
StepsPort verb taken taken' (Err memory) = ⊤
