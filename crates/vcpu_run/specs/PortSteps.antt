-- What steps of lines make of the ports of a partition, as their lines tell of them.
use Rattle.std.specs.Prelude.{◌≡◌, ◌≢◌, ℕ, ◌+◌, ◌≤◌, ◌==◌, Bool, true, false, List, [], ◌++◌, None, Some, slice_get}
use Rattle.vio_num.specs.declared.names.UnitId.{UnitId}
use Rattle.boot_text.specs.declared.plan.Line.{Line}
use Rattle.boot_text.specs.declared.verb.Verb.{Verb}
use Rattle.page_slots.specs.Stroke.{StrokeValue}
use Rattle.unit_region.specs.RegionLines.{IsOn}
use Rattle.unit_region.specs.declared.step.Step.{Step}
use Rattle.unit_region.specs.declared.step.Step.TheVariants as steps
use Rattle.lan_switch.specs.Switch.{port_of}
use Rattle.lan_script.specs.Buffers.{posted_at}
use Rattle.lan_script.specs.Entries.{values_at}
use Rattle.lan_script.specs.Invariant.{posted_in}
use Rattle.lan_script.specs.OwnMac.{MovesMac}
use Rattle.lan_script.specs.PortCounts.{PortCounts, counts, counts_at, counts_by, counts_told}
use Rattle.lan_script.specs.PortReplay.{closed_replay}
use Rattle.lan_script.specs.Regions.{strokes_at}
use Rattle.lan_script.specs.Replayed.{GrantsAll, replay_at}
use Rattle.lan_script.specs.Units.{LanValue}
use Rattle.lan_script.specs.Values.{KeepsValues}
use Rattle.vcpu_run.specs.declared.unit_seat.Seat.{Seat}
use Rattle.vcpu_run.specs.declared.unit_seat.Seat.TheVariants as sits
use Rattle.vcpu_run.specs.Ports.{unit_of}
use Rattle.vcpu_run.specs.PortBytes.{StepBytes}
use Rattle.vcpu_run.specs.PortPosts.{StepFits}
use Rattle.vcpu_run.specs.PortRegions.{LaysLogged, RegionKept, StepShown, StepWrites}
use Rattle.vcpu_run.specs.PortReplays.{IsStill, StepReplays, sent_at}
use Rattle.vcpu_run.specs.PortWords.{FrameTold, frame_of, frames_at}
use Rattle.vcpu_run.specs.ValuesPut.{StepPuts}

-- A port did nothing of which lines tell. It may have been closed.
pub record IsSilent (old new : LanValue) (unit : UnitId) : Type 0 where
  pub frames : frames_at new unit ≡ frames_at old unit
  pub counts : counts_at new unit ≡ counts_at old unit
  pub posted : posted_at new unit ≡ posted_at old unit
  pub posts : posted_in unit (port_of new.stations unit) ≡ posted_in unit (port_of old.stations unit)
  pub rows : sent_at new unit ≡ sent_at old unit
  pub mac : MovesMac None (replay_at old unit) (replay_at new unit)
  pub values : KeepsValues unit old.places new.places
  pub regions : RegionKept unit old new
  pub seats : new.seats ≡ old.seats

-- It did nothing of which lines tell, nor a replay of them.
pub record IsIdle (old new : LanValue) (unit : UnitId) : Type 0 where
  pub frames : frames_at new unit ≡ frames_at old unit
  pub counts : counts_at new unit ≡ counts_at old unit
  pub still : IsStill old new unit

-- It sent these frames more, and its counts rose by as much as from `before` to `after`.
pub record Rises (more : List FrameTold) (before after : PortCounts) (old new : LanValue) (unit : UnitId) : Type 0 where
  pub frames : frames_at new unit ≡ frames_at old unit ++ more
  pub posts : (counts_at new unit).posts + before.posts ≡ (counts_at old unit).posts + after.posts
  pub taken : (counts_at new unit).taken + before.taken ≡ (counts_at old unit).taken + after.taken

-- It sent no frame and posted nothing, and took some frames or none.
pub record TakesOn (old new : LanValue) (unit : UnitId) : Type 0 where
  pub frames : frames_at new unit ≡ frames_at old unit
  pub posts : (counts_at new unit).posts ≡ (counts_at old unit).posts
  pub taken : (counts_at old unit).taken ≤ (counts_at new unit).taken
  pub still : IsStill old new unit

-- no port of another partition did anything
abbrev pub IsApart : (partition : ℕ) → (old new : LanValue) → Type 0
IsApart partition old new = (unit : UnitId) → unit.partition ≢ partition → IsIdle old new unit

-- no other port did
abbrev pub IsBeside : UnitId → (old new : LanValue) → Type 0
IsBeside unit old new = (other : UnitId) → other ≢ unit → IsIdle old new other

-- what a step of a line makes of the port of its own unit
abbrev pub StepRises : UnitId → Verb → (done done' : ℕ) → (old new : LanValue) → Step → Type 0
StepRises unit verb done done' old new (steps.Ends outcome) = Rises (frame_of outcome) (counts_by verb done) (counts_told outcome) old new unit
StepRises unit verb done done' old new (steps.Waits did) = Rises [] (counts_by verb done) (counts_by verb done') old new unit

-- and of any port of its partition
abbrev pub RisesIf : (own : Bool) → UnitId → Verb → (done done' : ℕ) → (old new : LanValue) → Step → Type 0
RisesIf true unit verb done done' old new step =
    StepRises unit verb done done' old new step × StepReplays unit verb done old new step × StepFits unit verb done done' old new step
    × StepBytes unit verb old new step × StepPuts verb step (values_at old unit) (values_at new unit)
RisesIf false unit verb done done' old new step = IsIdle old new unit

-- What a step of a line makes of each port of its partition, and what it says of its own unit's region.
pub record TellsStep (partition : ℕ) (seats : List Seat) (line : Line) (done done' : ℕ) (old new : LanValue) (step : Step) : Type 0 where
  pub rises : (u : ℕ) → slice_get seats u ≡ Some sits.Port → RisesIf (line.unit == u) (unit_of partition u) line.verb done done' old new step
  pub shows : (u : ℕ) → slice_get seats u ≡ Some sits.Port → line.unit ≡ u → StepShown (unit_of partition u) line new step
  pub marks : (u : ℕ) → slice_get seats u ≡ Some sits.Port → line.unit ≡ u → LaysLogged (unit_of partition u) line.number old new
  pub writes : (u : ℕ) → slice_get seats u ≡ Some sits.Port → line.unit ≡ u → StepWrites (unit_of partition u) line old new step

-- each port of a partition took some frames or none, and did nothing else
abbrev pub AllTake : (partition : ℕ) → (old new : LanValue) → Type 0
AllTake partition old new = (u : ℕ) → TakesOn old new (unit_of partition u)

-- no port did anything of which lines tell
abbrev pub AllSilent : (old new : LanValue) → Type 0
AllSilent old new = (unit : UnitId) → IsSilent old new unit

-- no stroke lies in a unit's region
abbrev pub HasNoStroke : LanValue → UnitId → Type 0
HasNoStroke lan unit = (page : ℕ) (stroke : StrokeValue) → ¬ (IsOn stroke (strokes_at lan unit page))

-- no port did anything yet
abbrev pub AreFresh : LanValue → Type 0
AreFresh lan = (unit : UnitId) → (frames_at lan unit ≡ []) × (counts_at lan unit ≡ counts 0 0) × (replay_at lan unit ≡ closed_replay) × GrantsAll lan unit
    × (posted_at lan unit ≡ []) × HasNoStroke lan unit
