-- The bytes of the frames of LAN units whose entries name their own pages, by the units' lines alone.
use Rattle.std.specs.Prelude.{◌≡◌, ◌-◌, ◌==◌, ◌&&◌, ℕ, All, Bool, false, List, [], ◌∷◌, ◌++◌, Option, Some, None}
use Rattle.vio_num.specs.declared.names.Mac.{Mac}
use Rattle.vio_num.specs.declared.names.UnitId.{UnitId}
use Rattle.boot_text.specs.declared.plan.Line.{Line}
use Rattle.boot_text.specs.declared.verb.Verb.{Verb}
use Rattle.boot_text.specs.declared.verb.Verb.TheVariants as verbs
use Rattle.unit_region.specs.declared.step.Step.{Step}
use Rattle.unit_region.specs.declared.step.Step.TheVariants as steps
use Rattle.vio_trace.specs.declared.outcome.Outcome.{Outcome}
use Rattle.vio_trace.specs.declared.outcome.Outcome.TheVariants as outcomes
use Rattle.lan_script.specs.Correlators.{CarryAddresses, KeepsAddresses}
use Rattle.lan_script.specs.LineBytes.{LineSends}
use Rattle.lan_script.specs.LineFrame.{line_frame}
use Rattle.lan_script.specs.OwnMac.{mac_at, mac_given}
use Rattle.lan_script.specs.Replayed.{bytes_sent}
use Rattle.lan_script.specs.Units.{LanValue}
use Rattle.lan_script.specs.Values.{NamesOwn, puts_other}
use Rattle.lan_script.specs.declared.seat.PortSeat.{PortSeat}
use Rattle.vcpu_run.specs.Credited.{Ended}

-- whether a line of the unit lets an entry of its window name another page than the entry's own
abbrev pub lends_other : (unit : ℕ) → Line → Bool
lends_other unit line = (line.unit == unit) && puts_other line.verb

abbrev pub NamesOwnPages : (unit : ℕ) → List Line → Type 0
NamesOwnPages unit lines = All (λ line. lends_other unit line ≡ false) lines

-- the address that a port has once it was given this one, or none
abbrev pub mac_or : (given : Option Mac) → (present : Mac) → Mac
mac_or (Some mac) present = mac
mac_or None present = present

-- the present address of a unit behind its lines that ended: that of the plan, or of the last `open` or `mac` that ended with code 0
abbrev pub present_behind : PortSeat → (present : Mac) → List Ended → Mac
present_behind seat present [] = present
present_behind seat present (ended ∷ more) = present_behind seat (mac_or (mac_given seat ended.verb ended.outcome) present) more

-- the frame of a line that ended with one
abbrev pub frame_by : (present : Mac) → Verb → Outcome → List (List ℕ)
frame_by present (verbs.Send to len seed at) (outcomes.Frame code number) = line_frame to present (len - 14) seed ∷ []
frame_by present verb outcome = []

-- the frames of lines that ended, in order, each from the present address
abbrev pub bytes_told : PortSeat → (present : Mac) → List Ended → List (List ℕ)
bytes_told seat present [] = []
bytes_told seat present (ended ∷ more) =
    frame_by present ended.verb ended.outcome ++ bytes_told seat (mac_or (mac_given seat ended.verb ended.outcome) present) more

-- a step of a line that ended with a frame sent the line's frame, and no other step sent any
abbrev pub StepSendsBytes : UnitId → Verb → (old new : LanValue) → Step → Type 0
StepSendsBytes unit verb old new (steps.Ends (outcomes.Frame code number)) = LineSends unit verb old new
StepSendsBytes unit verb old new step = bytes_sent new unit ≡ bytes_sent old unit

-- What a step of a line makes of a unit whose entries name their own pages.
pub record StepBytes (unit : UnitId) (verb : Verb) (old new : LanValue) (step : Step) : Type 0 where
  pub names : puts_other verb ≡ false → NamesOwn old unit → NamesOwn new unit
  pub sends : NamesOwn old unit → StepSendsBytes unit verb old new step
  pub addresses : NamesOwn old unit → KeepsAddresses unit old new

-- While a run goes on, the entries name their own pages, an open port has the present address, the frames so far are those of the lines, and
-- each post so far has its buffer's address as its correlator.
pub record KeepsBytes (lan : LanValue) (unit : UnitId) (seat : PortSeat) (own : List Ended) : Type 0 where
  pub names : NamesOwn lan unit
  pub mac : (mac : Mac) → mac_at lan unit ≡ Some mac → mac ≡ present_behind seat seat.mac own
  pub bytes : bytes_told seat seat.mac own ≡ bytes_sent lan unit
  pub addresses : CarryAddresses lan unit
