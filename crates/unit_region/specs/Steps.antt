-- What came of a step of a script line.
use Rattle.std.specs.Prelude.{◌≡◌, Bool, true, false, Result, Ok, Err, ⊤}
use Rattle.vio_num.specs.declared.memory.NoMemory.{NoMemory}
use Rattle.vio_trace.specs.declared.outcome.Outcome.{Outcome}
use Rattle.vio_trace.specs.declared.outcome.Outcome.TheVariants as outcomes
use Rattle.unit_region.specs.declared.step.Step.{Step}
use Rattle.unit_region.specs.declared.step.Step.TheVariants as steps

-- an outcome that changes no credit: it tells of no login, of no request and of nothing taken
abbrev pub is_plain : Outcome → Bool
is_plain (outcomes.Granted credits) = false
is_plain (outcomes.Sent tag) = false
is_plain (outcomes.Took count) = false
is_plain outcomes.Lost = false
is_plain (outcomes.TookThenLost count) = false
is_plain _ = true

abbrev pub IsPlainStep : Step → Type 0
IsPlainStep (steps.Ends outcome) = is_plain outcome ≡ true
IsPlainStep (steps.Waits did) = ⊤

abbrev pub IsPlain : Result Step NoMemory → Type 0
IsPlain (Ok step) = IsPlainStep step
IsPlain (Err memory) = ⊤
