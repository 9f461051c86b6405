-- The events that the clients of pairs put, with those that they keep: none is made, or one where a queue is freed (LoPAR, "Transport Events").
use Rattle.std.specs.Prelude.{ℕ, ◌+◌, ◌≤◌, false, List, [], Option, Some, None, if◌then◌else◌}
use Rattle.std.specs.List.{slice_get}
use Rattle.crq_session.specs.PlainState.{end_of, side_of}
use Rattle.boot_text.specs.declared.verb.Verb.{Verb}
use Rattle.vcpu_run.specs.declared.pair.Pair.{Pair}
use Rattle.vcpu_run.specs.declared.script.Progress.{Progress}
use Rattle.vcpu_run.specs.EventsPut.{StepMakes, events_of}
use Rattle.vcpu_run.specs.Freeing.{is_reset}

-- those of the client of a pair
abbrev pub events_at : Pair → ℕ
events_at pair = events_of (end_of [] pair.link false)

abbrev pub PairMakes : Verb → (p p' : Progress) → (old new : Pair) → Type 0
PairMakes verb p p' old new = StepMakes (is_reset verb) p p' (end_of [] old.link false) (end_of [] new.link false)

-- none is made at any of these pairs
abbrev pub PairCalm : (old new : Pair) → Type 0
PairCalm old new = events_at new ≤ events_at old

abbrev pub events_if : Option Pair → ℕ
events_if None = 0
events_if (Some pair) = events_at pair

abbrev pub AllCalm : List Pair → List Pair → Type 0
AllCalm old new = (k : ℕ) → events_if (slice_get new k) ≤ events_if (slice_get old k)

-- or one for each queue that was registered and is not any more
abbrev pub times_open : Pair → ℕ
times_open pair = if (side_of pair.link false).registered then 1 else 0

abbrev pub PairShuts : (old new : Pair) → Type 0
PairShuts old new = events_at new + times_open new ≤ events_at old + times_open old

abbrev pub shuts_if : Option Pair → ℕ
shuts_if None = 0
shuts_if (Some pair) = events_at pair + times_open pair

abbrev pub AllShut : List Pair → List Pair → Type 0
AllShut old new = (k : ℕ) → shuts_if (slice_get new k) ≤ shuts_if (slice_get old k)
