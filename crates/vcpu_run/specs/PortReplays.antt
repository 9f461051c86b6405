-- The replay of the lines of a LAN unit: what its records say of the port, line by line, with no word of any other unit.
use Rattle.std.specs.Prelude.{◌≡◌, ◌⊎◌, ◌≤◌, ℕ, ◌==◌, ◌&&◌, Bool, true, false, All, List, [], ◌∷◌, Option, Some, None, ⊤, length}
use Rattle.std.specs.List.{Contains}
use Rattle.vio_num.specs.Words.{Begins}
use Rattle.vio_num.specs.declared.hypervisor.Hrc.{Hrc}
use Rattle.vio_num.specs.declared.names.UnitId.{UnitId}
use Rattle.boot_text.specs.declared.plan.Line.{Line}
use Rattle.boot_text.specs.declared.verb.Verb.{Verb}
use Rattle.unit_region.specs.declared.step.Step.{Step}
use Rattle.unit_region.specs.declared.step.Step.TheVariants as steps
use Rattle.lan_script.specs.declared.seat.PortSeat.{PortSeat}
use Rattle.lan_script.specs.PortReplay.{LineSays, PortReplay, closed_replay}
use Rattle.lan_script.specs.Regions.{RegionGrows}
use Rattle.lan_script.specs.Replayed.{IsFirst, IsReplayable, is_replayed, replay_at}
use Rattle.lan_script.specs.Invariant.{sent_by}
use Rattle.lan_switch.specs.Switch.{port_of, same_unit}
use Rattle.lan_script.specs.Spent.{Grows}
use Rattle.lan_script.specs.Targets.{IsTarget, OffersAll, offers_to}
use Rattle.lan_script.specs.Units.{LanValue, to_of}
use Rattle.vio_trace.specs.declared.lan_rows.FrameRow.{FrameRow}
use Rattle.vio_trace.specs.declared.outcome.Outcome.TheVariants as outcomes
use Rattle.lan_script.specs.Values.{KeepsValues, is_put}
use Rattle.vcpu_run.specs.Credited.{Ended}
use Rattle.vcpu_run.specs.Suited.{is_call}
use Rattle.vcpu_run.specs.PortRegions.{RegionKept}
use Rattle.vcpu_run.specs.Works.{fails}

-- the lines of a unit, one after the other, tell what the replay says of each, and leave this of the port
abbrev pub AreReplayed : PortSeat → (old : PortReplay) → List Ended → (new : PortReplay) → Type 0
AreReplayed seat old [] new = new ≡ old
AreReplayed seat old (ended ∷ more) new = (next : PortReplay) × LineSays seat ended.verb ended.outcome old next × AreReplayed seat next more new

-- whether a line of the unit puts a value into an entry of its window
abbrev pub puts_own : (unit : ℕ) → Line → Bool
puts_own unit line = (line.unit == unit) && is_put line.verb

-- A LAN unit is a plain port where no line of its partition makes a raw hypervisor call or fails the partition, and no line of its own
-- puts a value into an entry.
pub record IsPlainPort (unit : ℕ) (lines : List Line) : Type 0 where
  pub no_call : All (λ line. is_call line.verb ≡ false) lines
  pub no_failure : All (λ line. fails line.verb ≡ false) lines
  pub no_entry : All (λ line. puts_own unit line ≡ false) lines

-- the frames of a unit
abbrev pub sent_at : LanValue → UnitId → List FrameRow
sent_at lan unit = sent_by lan.seats lan.frames unit

-- Each frame that other units sent since has an offer to this one only where it is a target, as it stood before.
abbrev pub OffersSince : (old new : LanValue) → UnitId → Type 0
OffersSince old new unit = (sender : UnitId) → same_unit sender unit ≡ false → (row : FrameRow) → Contains (sent_at new sender) row
    → Contains (sent_at old sender) row ⊎ (1 ≤ length (offers_to unit row.offers) → IsTarget (replay_at old unit) (to_of row))

-- A port stands in its replay as it did, its window has the values that it had, it sent nothing, and lost nothing, nor a stroke.
pub record IsStill (old new : LanValue) (unit : UnitId) : Type 0 where
  pub seats : new.seats ≡ old.seats
  pub replay : replay_at new unit ≡ replay_at old unit
  pub values : KeepsValues unit old.places new.places
  pub rows : sent_at new unit ≡ sent_at old unit
  pub grows : Grows (port_of old.stations unit) (port_of new.stations unit)
  pub offered : OffersSince old new unit
  pub regions : RegionKept unit old new

-- The unit sent a frame of this number, which was offered to the ports as these stood before.
pub record SendsFrame (unit : UnitId) (number : ℕ) (old new : LanValue) : Type 0 where
  pub row : FrameRow
  pub number_is : row.number ≡ number
  pub kept : Contains (sent_at new unit) row
  pub offers : OffersAll unit old new row

-- what a step of a line says of the port: one that ends the line tells what the replay says, and one that waits is of no line of a replay
abbrev pub StepSays : PortSeat → Verb → Step → (old new : PortReplay) → Type 0
StepSays seat verb (steps.Ends outcome) old new = LineSays seat verb outcome old new
StepSays seat verb (steps.Waits did) old new = (is_replayed verb ≡ false) × (new ≡ old)

-- What a step of a line makes of the replay of the unit's port.
pub record StepReplays (unit : UnitId) (verb : Verb) (done : ℕ) (old new : LanValue) (step : Step) : Type 0 where
  pub seats : new.seats ≡ old.seats
  pub values : is_put verb ≡ false → KeepsValues unit old.places new.places
  pub rows : Begins (sent_at old unit) (sent_at new unit)
  pub grows : Grows (port_of old.stations unit) (port_of new.stations unit)
  pub others : (sender : UnitId) → same_unit sender unit ≡ false → sent_at new sender ≡ sent_at old sender
  pub sends : is_replayed verb ≡ true → (code : Hrc) (number : ℕ) → step ≡ steps.Ends (outcomes.Frame code number) → SendsFrame unit number old new
  pub regions : RegionGrows unit old new
  pub says : IsFirst verb done → (seat : PortSeat) → IsReplayable seat old unit → StepSays seat verb step (replay_at old unit) (replay_at new unit)

-- the current line, if it is of the unit, is in its first step where it is one of the replay
abbrev pub IsFirstOf : (unit done : ℕ) → Option Line → Type 0
IsFirstOf unit done None = ⊤
IsFirstOf unit done (Some line) = (line.unit == unit) ≡ true → IsFirst line.verb done

-- The lines of a unit that ended tell what the replay says, and it leaves the port as it is.
pub record KeepsReplay (seat : PortSeat) (own : List Ended) (lan : LanValue) (unit : UnitId) : Type 0 where
  pub able : IsReplayable seat lan unit
  pub replayed : AreReplayed seat closed_replay own (replay_at lan unit)
