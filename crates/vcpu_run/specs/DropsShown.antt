-- Where a client's record says that an entry found its slot full, its server unit's queue has a record of that drop.
use Rattle.std.specs.Prelude.{◌≡◌, ℕ, ◌≤◌, Bool, true, false, List, Some, Result, Ok, ⊤}
use Rattle.std.specs.List.{Contains, flat_map, slice_get}
use Rattle.vio_num.specs.Queue.{LawfulDrop}
use Rattle.vio_num.specs.declared.memory.NoMemory.{NoMemory}
use Rattle.vio_num.specs.declared.names.UnitId.{UnitId}
use Rattle.crq_ring.specs.Sessions.{of_session}
use Rattle.crq_ring.specs.declared.rows.DropRow.{DropRow}
use Rattle.crq_ring.specs.declared.rows.PipeRow.{PipeRow}
use Rattle.crq_session.specs.EndState.{EndState}
use Rattle.crq_session.specs.PlainState.{side_of}
use Rattle.boot_text.specs.declared.plan.Line.{Line}
use Rattle.vio_trace.specs.declared.outcome.Outcome.{Outcome}
use Rattle.vio_trace.specs.declared.outcome.Outcome.TheVariants as outcomes
use Rattle.vio_trace.specs.declared.rows.DropRow.{DropRow as TraceDrop}
use Rattle.vio_trace.specs.declared.rows.LogRow.{LogRow}
use Rattle.vio_trace.specs.declared.rows.Trace.{Trace}
use Rattle.unit_region.specs.declared.step.Step.{Step}
use Rattle.unit_region.specs.declared.step.Step.TheVariants as steps
use Rattle.vcpu_run.specs.declared.pair.Pair.{Pair}
use Rattle.vcpu_run.specs.DropsStay.{DropsStay}
use Rattle.vcpu_run.specs.LinesShow.{PairShows}
use Rattle.vcpu_run.specs.Shown.{sessions_of}
use Rattle.vcpu_run.specs.ShutShown.{PairShut}

-- A number of a session of a queue with these slots has a record of a drop, and this is the high half of what lay in its slot.
pub record HasDrop (session slots : ℕ) (sent : List PipeRow) (drops : List DropRow) (number held : ℕ) : Type 0 where
  pub row : DropRow
  pub there : Contains drops row
  pub session_is : row.session ≡ session
  pub number_is : row.number ≡ number
  pub lawful : LawfulDrop (of_session session sent) slots number held

-- The partner's queue has one in its present session, as an end sees it; where nobody else has a hand in it, it is registered.
pub record IsFullBy (shared : Bool) (end : EndState) (number held : ℕ) : Type 0 where
  pub drop : HasDrop end.counts.partner_session end.place.partner_slots end.sent end.drops number held
  pub partner : shared ≡ false → end.place.partner_registered ≡ true

-- The queue of a pair's server unit has one in a session, which count from 1.
pub record IsFullAt (pair : Pair) (number held : ℕ) : Type 0 where
  pub session : ℕ
  pub begun : 1 ≤ session
  pub drop : HasDrop session (side_of pair.link true).queue.slots (side_of pair.link true).queue.sent (side_of pair.link true).queue.drops number held

-- P of the number and of what lay there, where a line says that it was dropped
abbrev pub IsFullIf : (P : (number held : ℕ) → Type 0) → Outcome → Type 0
IsFullIf P (outcomes.Dropped number held) = P number held
IsFullIf P _ = ⊤

-- the same of a step of a line
abbrev pub StepFull : (P : (number held : ℕ) → Type 0) → Result Step NoMemory → Type 0
StepFull P (Ok (steps.Ends outcome)) = IsFullIf P outcome
StepFull P _ = ⊤

-- the same of each line of a unit that has a record: the records are those of the first lines, in their order
abbrev pub LinesFull : (P : (number held : ℕ) → Type 0) → (unit : ℕ) → List Line → List LogRow → Type 0
LinesFull P unit lines rows = (i : ℕ) (line : Line) (row : LogRow) → slice_get lines i ≡ Some line → slice_get rows i ≡ Some row
    → line.unit ≡ unit → IsFullIf P row.outcome

-- a step of a line shows what it says, at the pair where its client sits, what was dropped has its record there, and what met a closed
-- queue did so under a login
abbrev pub PairShowsLine : Line → (old new : Pair) → Result Step NoMemory → Type 0
PairShowsLine line old new result =
    PairShows line old new result × StepFull (IsFullAt new) result × PairShut line.verb old new result

-- The queue of a pair's server unit has as many slots as before, and each record of a drop.
pub record KeepsFull (old new : Pair) : Type 0 where
  pub slots : (side_of new.link true).queue.slots ≡ (side_of old.link true).queue.slots
  pub drops : DropsStay (side_of old.link true).queue.drops (side_of new.link true).queue.drops

-- what a trace shows as dropped at a unit's queue, over its sessions in order
abbrev pub drops_to : Trace → UnitId → List TraceDrop
drops_to trace unit = flat_map (λ row. row.drops) (sessions_of trace unit)

-- Where a line of a client says `dropped`, its server unit's queue has a record of this number and this high half.
abbrev pub AreDropsTold : Trace → (client server : UnitId) → List Line → List LogRow → Type 0
AreDropsTold trace client server lines rows =
    LinesFull (λ number held. Contains (drops_to trace server) (record { number = number; held = held })) client.unit lines rows
