-- The bytes of the frames that lines of a unit send, whose entries name their own pages.
use Rattle.std.specs.Prelude.{◌≡◌, ◌-◌, ◌++◌, ℕ, [], ◌∷◌, Some, ⊤}
use Rattle.vio_num.specs.declared.names.Mac.{Mac}
use Rattle.vio_num.specs.declared.names.UnitId.{UnitId}
use Rattle.boot_text.specs.declared.verb.Verb.{Verb}
use Rattle.boot_text.specs.declared.verb.Verb.TheVariants as verbs
use Rattle.tce_window.specs.PortState.{PortState}
use Rattle.unit_region.specs.Answers.{AnswersPut, tce_of}
use Rattle.unit_region.specs.declared.step.Step.{Step}
use Rattle.vio_trace.specs.declared.outcome.Outcome.TheVariants as outcomes
use Rattle.lan_script.specs.LineFrame.{line_frame}
use Rattle.lan_script.specs.OwnMac.{mac_at}
use Rattle.lan_script.specs.Replayed.{bytes_sent}
use Rattle.lan_script.specs.Units.{LanValue}
use Rattle.lan_script.specs.declared.lines.PortStep.{PortStep}
use Rattle.lan_script.specs.declared.lines.PortStep.TheVariants as steps

-- The unit sent the frame of a line, from the present address of its port.
pub record SendsLine (unit : UnitId) (to : Mac) (len seed : ℕ) (old new : LanValue) : Type 0 where
  pub from : Mac
  pub present : mac_at old unit ≡ Some from
  pub bytes : bytes_sent new unit ≡ bytes_sent old unit ++ line_frame to from (len - 14) seed ∷ []

abbrev pub LineSends : UnitId → Verb → (old new : LanValue) → Type 0
LineSends unit (verbs.Send to len seed at) old new = SendsLine unit to len seed old new
LineSends unit verb old new = ⊥

-- a step that ends its line with a frame sent the line's frame
abbrev pub StepsBytes : UnitId → Verb → PortStep → (old new : LanValue) → Type 0
StepsBytes unit verb (steps.Ends (outcomes.Frame code number)) old new = LineSends unit verb old new
StepsBytes unit verb step old new = ⊤

-- what a line that puts a value into an entry says of its window
abbrev pub PutsOn : Verb → (old new : PortState) → Step → Type 0
PutsOn (verbs.Tce entry page readable writable) old new step = AnswersPut old new entry (tce_of page readable writable) step
PutsOn verb old new step = ⊤
