-- The buffers of a port, by their descriptors, and which of them a line posted.
use Rattle.std.specs.Prelude.{◌≡◌, ℕ, ◌+◌, ◌*◌, ◌^◌, List, [], ◌∷◌, ◌++◌, Option, Some, None, map, min, zero, suc}
use Rattle.vio_num.specs.declared.names.UnitId.{UnitId}
use Rattle.boot_text.specs.declared.verb.Verb.{Verb}
use Rattle.boot_text.specs.declared.verb.Verb.TheVariants as verbs
use Rattle.vio_trace.specs.declared.outcome.Outcome.{Outcome}
use Rattle.vio_trace.specs.declared.outcome.Outcome.TheVariants as outcomes
use Rattle.lan_buffers.specs.Port.{PortValue}
use Rattle.lan_switch.specs.Switch.{port_of}
use Rattle.lan_script.specs.declared.lines.PortStep.{PortStep}
use Rattle.lan_script.specs.declared.lines.PortStep.TheVariants as steps
use Rattle.lan_script.specs.Rows.{post_rows}
use Rattle.lan_script.specs.Units.{LanValue}

-- the descriptor of a buffer: its valid bit, its length and its address
abbrev pub descriptor_of : (address len : ℕ) → ℕ
descriptor_of address len = 2 ^ 63 + 2 ^ 32 * len + address

-- so many buffers of one length, one behind the other
abbrev pub line_buffers : (at len count : ℕ) → List ℕ
line_buffers at len zero = []
line_buffers at len (suc count) = line_buffers at len count ++ descriptor_of (at + len * count) len ∷ []

-- the buffers that a unit's port posted, by the rows that a trace has of it
abbrev pub posted_of : UnitId → Option PortValue → List ℕ
posted_of unit None = []
posted_of unit (Some port) = map (λ row. row.descriptor) (post_rows unit port)

abbrev pub posted_at : LanValue → UnitId → List ℕ
posted_at lan unit = posted_of unit (port_of lan.stations unit)

-- those of a line that came so far, and of one that ended so
abbrev pub buffers_by : Verb → (done : ℕ) → List ℕ
buffers_by (verbs.Post at len count) done = line_buffers at len (min done count)
buffers_by _ done = []

abbrev pub posted_told : (at len : ℕ) → Outcome → List ℕ
posted_told at len (outcomes.Posted buffers code) = line_buffers at len buffers
posted_told at len _ = []

abbrev pub buffers_told : Verb → Outcome → List ℕ
buffers_told (verbs.Post at len count) outcome = posted_told at len outcome
buffers_told _ outcome = []

abbrev pub buffers_after : Verb → PortStep → List ℕ
buffers_after verb (steps.Ends outcome) = buffers_told verb outcome
buffers_after verb (steps.Waits did done) = buffers_by verb done

-- The port of a unit posted these buffers more: what stands behind `before` in `after`.
pub record AddsBuffers (unit : UnitId) (before after : List ℕ) (old new : LanValue) : Type 0 where
  pub more : List ℕ
  pub posted : posted_at new unit ≡ posted_at old unit ++ more
  pub told : after ≡ before ++ more

-- A step of a line, which came so far before, posts the buffers of the line that come next.
abbrev pub PostsStep : UnitId → Verb → (done : ℕ) → PortStep → (old new : LanValue) → Type 0
PostsStep unit verb done step old new = AddsBuffers unit (buffers_by verb done) (buffers_after verb step) old new

-- the port of a unit posted this buffer more
abbrev pub AddsBuffer : UnitId → (descriptor : ℕ) → (old new : LanValue) → Type 0
AddsBuffer unit descriptor old new = posted_at new unit ≡ posted_at old unit ++ descriptor ∷ []

-- the same of one at an address
abbrev pub AddsAt : UnitId → Option ℕ → (len : ℕ) → (old new : LanValue) → Type 0
AddsAt unit None len old new = ⊥
AddsAt unit (Some address) len old new = AddsBuffer unit (descriptor_of address len) old new
