-- How many buffers a port posted and how many frames it took from its receive queue, over all its sessions; and what steps of
-- lines and calls add to that.
use Rattle.std.specs.Prelude.{◌≡◌, ℕ, ◌+◌, ◌/◌, ◌%◌, ◌^◌, ◌==◌, Bool, false, Option, Some, None, length, filter, min}
use Rattle.vio_num.specs.declared.names.UnitId.{UnitId}
use Rattle.vio_num.specs.declared.hypervisor.Hrc.{Hrc}
use Rattle.vio_num.specs.declared.hypervisor.Hrc.TheVariants.{Success}
use Rattle.boot_text.specs.declared.verb.Verb.{Verb}
use Rattle.boot_text.specs.declared.verb.Verb.TheVariants as verbs
use Rattle.lan_buffers.specs.Port.{PortValue}
use Rattle.lan_switch.specs.Switch.{port_of, same_unit}
use Rattle.vio_trace.specs.declared.outcome.Outcome.{Outcome}
use Rattle.vio_trace.specs.declared.outcome.Outcome.TheVariants as outcomes
use Rattle.lan_script.specs.declared.calls.PortCall.{PortCall}
use Rattle.lan_script.specs.declared.calls.PortCall.TheVariants as calls
use Rattle.lan_script.specs.declared.lines.PortStep.{PortStep}
use Rattle.lan_script.specs.declared.lines.PortStep.TheVariants as steps
use Rattle.lan_script.specs.LineSays.{SentAs}
use Rattle.lan_script.specs.Rows.{harvest_rows, post_rows}
use Rattle.lan_script.specs.Spent.{AllGrow}
use Rattle.lan_script.specs.Units.{LanValue}

pub record PortCounts : Type 0 where
  pub posts : ℕ
  pub taken : ℕ

abbrev pub counts : (posts taken : ℕ) → PortCounts
counts posts taken = record { posts = posts; taken = taken }

-- whether the high half of a receive entry says that a frame came: its valid bit, the second highest
abbrev pub is_frame : (high : ℕ) → Bool
is_frame high = high / 2 ^ 62 % 2 == 1

-- those of a unit's port, by the rows that a trace has of it
abbrev pub counts_in : UnitId → Option PortValue → PortCounts
counts_in unit (Some port) = counts (length (post_rows unit port)) (length (filter (λ row. is_frame row.high) (harvest_rows unit port)))
counts_in unit None = counts 0 0

abbrev pub counts_at : LanValue → UnitId → PortCounts
counts_at lan unit = counts_in unit (port_of lan.stations unit)

-- The counts of a unit rose by as much as from `before` to `after`, and those of no other changed. No port lost a row.
pub record CountsOn (unit : UnitId) (before after : PortCounts) (old new : LanValue) : Type 0 where
  pub posts : (counts_at new unit).posts + before.posts ≡ (counts_at old unit).posts + after.posts
  pub taken : (counts_at new unit).taken + before.taken ≡ (counts_at old unit).taken + after.taken
  pub others : (other : UnitId) → same_unit other unit ≡ false → counts_at new other ≡ counts_at old other
  pub grows : AllGrow old new

-- No count changed, and no port lost a row.
pub record SameCounts (old new : LanValue) : Type 0 where
  pub same : (unit : UnitId) → counts_at new unit ≡ counts_at old unit
  pub grows : AllGrow old new

-- the end of a line tells of so many buffers and frames
abbrev pub counts_told : Outcome → PortCounts
counts_told (outcomes.Posted buffers code) = counts buffers 0
counts_told (outcomes.Took count) = counts 0 count
counts_told _ = counts 0 0

-- so many had a line posted, or taken, that came so far
abbrev pub counts_by : Verb → (done : ℕ) → PortCounts
counts_by (verbs.Post at len count) done = counts (min done count) 0
counts_by (verbs.Take count) done = counts 0 done
counts_by _ done = counts 0 0

-- the same of a line after a step
abbrev pub counts_after : Verb → PortStep → PortCounts
counts_after verb (steps.Ends outcome) = counts_told outcome
counts_after verb (steps.Waits did done) = counts_by verb done

-- What a step of a line, which came so far before, adds: in all its steps the line posted as many buffers, and took as many
-- frames, as its end tells.
abbrev pub CountsStep : UnitId → Verb → (done : ℕ) → PortStep → (old new : LanValue) → Type 0
CountsStep unit verb done step old new = CountsOn unit (counts_by verb done) (counts_after verb step) old new

-- the unit posted none, and took some frames or none
abbrev pub TakesSome : UnitId → (old new : LanValue) → Type 0
TakesSome unit old new = (n : ℕ) × CountsOn unit (counts 0 0) (counts 0 n) old new

-- a buffer that was posted with this code
abbrev pub posted_on : Hrc → PortCounts
posted_on Success = counts 1 0
posted_on _ = counts 0 0

-- what a call adds that was answered with this code: a buffer, where it posts one and succeeded
abbrev pub counts_called : PortCall → Hrc → PortCounts
counts_called (calls.Add descriptor) code = posted_on code
counts_called _ code = counts 0 0

-- a call that sends may have given its frame a number, and any other sent none
abbrev pub SendsCalled : UnitId → PortCall → Hrc → (old new : LanValue) → Type 0
SendsCalled unit (calls.Send descriptors) code old new = (number : Option ℕ) × SentAs unit code number old new
SendsCalled unit _ code old new = new.frames ≡ old.frames

-- the step tells of no buffer and no frame taken
abbrev pub TellsNoCount : PortStep → Type 0
TellsNoCount (steps.Ends outcome) = counts_told outcome ≡ counts 0 0
TellsNoCount (steps.Waits did done) = Unit {0}
