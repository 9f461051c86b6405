-- The events that a client's end put, with the one that it keeps: which calls of the end make one more (LoPAR, "Transport Events").
use Rattle.std.specs.Prelude.{ℕ, ◌+◌, ◌≤◌, Bool, true, false}
use Rattle.crq_session.specs.EndState.{EndState}
use Rattle.vcpu_run.specs.declared.script.Progress.{Progress}
use Rattle.vcpu_run.specs.declared.script.Progress.TheVariants as progress
use Rattle.vcpu_run.specs.EventsHeard.{event_if, events_taken}

-- those that an end put, and the one that it keeps
abbrev pub events_of : EndState → ℕ
events_of end = events_taken end.sent + event_if end.kept

-- none is made
abbrev pub MakesNoEvent : EndState → EndState → Type 0
MakesNoEvent old new = events_of new ≤ events_of old

-- whether the current line of a client freed its queue, as a number
abbrev pub times_freed : Progress → ℕ
times_freed progress.Freed = 1
times_freed _ = 0

-- a step of a line makes none, but where it resets its unit and frees the queue
abbrev pub FreesOnce : (p p' : Progress) → EndState → EndState → Type 0
FreesOnce p p' old new = events_of new + times_freed p ≤ events_of old + times_freed p'

abbrev pub StepMakes : (resets : Bool) → (p p' : Progress) → EndState → EndState → Type 0
StepMakes true p p' old new = FreesOnce p p' old new
StepMakes false p p' old new = MakesNoEvent old new
