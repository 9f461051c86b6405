-- How often a client's records say that its partner was lost: at most as often as its queue handed over an event.
use Rattle.std.specs.Prelude.{ℕ, ◌+◌, ◌≤◌, List, [], ◌∷◌, Option, Some, None, Result, Ok, Err, map, ⊤, if◌then◌else◌}
use Rattle.vio_num.specs.declared.entry.Entry.{Entry}
use Rattle.vio_num.specs.declared.memory.NoMemory.{NoMemory}
use Rattle.vio_num.specs.declared.names.UnitId.{UnitId}
use Rattle.crq_ring.specs.declared.rows.PipeRow.{PipeRow}
use Rattle.crq_session.specs.EndState.{EndState}
use Rattle.vio_trace.specs.declared.outcome.Outcome.{Outcome}
use Rattle.vio_trace.specs.declared.outcome.Outcome.TheVariants as outcomes
use Rattle.vio_trace.specs.declared.rows.Trace.{Trace}
use Rattle.vscsi_client.specs.Slots.{is_event}
use Rattle.vscsi_client.specs.State.{ClientState}
use Rattle.unit_region.specs.declared.step.Step.{Step}
use Rattle.unit_region.specs.declared.step.Step.TheVariants as steps
use Rattle.vcpu_run.specs.declared.taking.Took.{Took}
use Rattle.vcpu_run.specs.declared.taking.Took.TheVariants as tooks
use Rattle.vcpu_run.specs.Credited.{Ended}
use Rattle.vcpu_run.specs.Intake.{entries_taken}

-- how many of these entries are events
abbrev pub one_event : Entry → ℕ
one_event entry = if is_event entry then 1 else 0

abbrev pub events_among : List Entry → ℕ
events_among [] = 0
events_among (entry ∷ more) = one_event entry + events_among more

abbrev pub event_if : Option Entry → ℕ
event_if None = 0
event_if (Some entry) = one_event entry

-- of those that a client took and did not look at yet
abbrev pub events_waiting : ClientState → ℕ
events_waiting s = events_among s.kept + event_if s.held

-- of what was taken from a queue
abbrev pub events_taken : List PipeRow → ℕ
events_taken rows = events_among (map (λ (row : PipeRow). row.entry) rows)

-- whether a record says that the partner was lost, and how many do
abbrev pub lost_of : Outcome → ℕ
lost_of outcomes.Lost = 1
lost_of (outcomes.TookThenLost count) = 1
lost_of _ = 0

abbrev pub losses_told : List Ended → ℕ
losses_told [] = 0
losses_told (ended ∷ more) = lost_of ended.outcome + losses_told more

-- the same of a step of a line, and of an entry that was taken
abbrev pub lost_in : Step → ℕ
lost_in (steps.Ends outcome) = lost_of outcome
lost_in (steps.Waits did) = 0

abbrev pub lost_by : Took → ℕ
lost_by tooks.Lost = 1
lost_by _ = 0

-- so many losses were told, and each of them has an event of its own that was taken, or was waiting
abbrev pub Hears : (lost : ℕ) → (s s' : ClientState) → (end end' : EndState) → Type 0
Hears lost s s' end end' = lost + (events_waiting s' + events_taken end.taken) ≤ events_waiting s + events_taken end'.taken

-- the same of all that a step of a line tells
abbrev pub StepHears : Result Step NoMemory → (s s' : ClientState) → (end end' : EndState) → Type 0
StepHears (Ok step) s s' end end' = Hears (lost_in step) s s' end end'
StepHears (Err memory) s s' end end' = ⊤

-- each loss that the records tell has an event of its own among what was taken, and those that wait are others
abbrev pub AreEventsHeard : List Ended → ClientState → List PipeRow → Type 0
AreEventsHeard own s taken = losses_told own + events_waiting s ≤ events_taken taken

-- A client's records say no more often that its partner was lost than events were handed to it.
abbrev pub LossesAreHeard : Trace → UnitId → List Ended → Type 0
LossesAreHeard trace client ended = losses_told ended ≤ events_taken (entries_taken trace client)
