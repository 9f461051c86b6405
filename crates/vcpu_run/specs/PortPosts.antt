-- The buffers that the lines of a LAN unit posted, how many frames a line took, in which form each ends, and which end with `range`.
use Rattle.std.specs.Prelude.{◌≡◌, ℕ, ◌≤◌, ◌==◌, true, All, List, [], ◌∷◌, ◌++◌, Option, Some, None, ⊤, if◌then◌else◌}
use Rattle.vio_num.specs.declared.names.UnitId.{UnitId}
use Rattle.boot_text.specs.declared.plan.Line.{Line}
use Rattle.boot_text.specs.declared.verb.Verb.{Verb}
use Rattle.boot_text.specs.declared.verb.Verb.TheVariants as verbs
use Rattle.unit_region.specs.declared.step.Step.{Step}
use Rattle.unit_region.specs.declared.step.Step.TheVariants as steps
use Rattle.vio_trace.specs.declared.outcome.Outcome.{Outcome}
use Rattle.vio_trace.specs.declared.outcome.Outcome.TheVariants as outcomes
use Rattle.lan_script.specs.Buffers.{AddsBuffers, buffers_by, buffers_told}
use Rattle.lan_script.specs.LineForms.{HasForm}
use Rattle.lan_script.specs.Seats.{seat_at}
use Rattle.lan_script.specs.SendRanges.{SaysRange}
use Rattle.lan_script.specs.Units.{LanValue}
use Rattle.lan_script.specs.declared.seat.PortSeat.{PortSeat}
use Rattle.vcpu_run.specs.Credited.{Ended}
use Rattle.vcpu_run.specs.PortMacs.{StepsMac}

-- the buffers that lines tell as posted which ended, in order
abbrev pub buffers_of : List Ended → List ℕ
buffers_of [] = []
buffers_of (ended ∷ more) = buffers_told ended.verb ended.outcome ++ buffers_of more

-- those that the current line posted so far, if it is of the unit
abbrev pub buffers_under : (unit done : ℕ) → Option Line → List ℕ
buffers_under unit done None = []
buffers_under unit done (Some line) = if line.unit == unit then buffers_by line.verb done else []

-- a line that takes frames took no more than it says: so far, and when it ended, as it does with that number alone
abbrev pub TakesNoMore : Verb → (done : ℕ) → Type 0
TakesNoMore (verbs.Take count) done = done ≤ count
TakesNoMore _ done = ⊤

abbrev pub TellsTakenUpTo : (count : ℕ) → Outcome → Type 0
TellsTakenUpTo count (outcomes.Took taken) = taken ≤ count
TellsTakenUpTo count _ = ⊥

-- each line ends in its form, one that takes besides with no more than it says
abbrev pub EndsInForm : Verb → Outcome → Type 0
EndsInForm (verbs.Take count) outcome = TellsTakenUpTo count outcome
EndsInForm verb outcome = HasForm verb outcome

-- the current line did not, if it is of the unit
abbrev pub IsUnder : (unit done : ℕ) → Option Line → Type 0
IsUnder unit done None = ⊤
IsUnder unit done (Some line) = (line.unit == unit) ≡ true → TakesNoMore line.verb done

-- the same of all lines of a unit that ended
abbrev pub AreInForm : List Ended → Type 0
AreInForm own = All (λ ended. EndsInForm ended.verb ended.outcome) own

-- each `send` line of a unit with this seat ended with `range` exactly where its frame does not lie in the region
abbrev pub AreRanged : PortSeat → List Ended → Type 0
AreRanged seat own = All (λ ended. SaysRange seat.pages ended.verb ended.outcome) own

abbrev pub StepRanged : UnitId → Verb → LanValue → Step → Type 0
StepRanged unit verb lan (steps.Ends outcome) = (seat : PortSeat) → seat_at lan.seats unit ≡ Some seat → SaysRange seat.pages verb outcome
StepRanged unit verb lan (steps.Waits did) = ⊤

-- the same of a step of a line, and the buffers that the line has posted once it is done
abbrev pub StepTakes : Verb → (done' : ℕ) → Step → Type 0
StepTakes verb done' (steps.Ends outcome) = EndsInForm verb outcome
StepTakes verb done' (steps.Waits did) = TakesNoMore verb done'

abbrev pub buffers_at : Verb → (done' : ℕ) → Step → List ℕ
buffers_at verb done' (steps.Ends outcome) = buffers_told verb outcome
buffers_at verb done' (steps.Waits did) = buffers_by verb done'

-- A step of a line took no more than the line says, ends it in its form, posted the buffers of the line that come next, gave the port no
-- other address than that of its seat or of a `mac` line, and says `range` where it is to.
pub record StepFits (unit : UnitId) (verb : Verb) (done done' : ℕ) (old new : LanValue) (step : Step) : Type 0 where
  pub takes : TakesNoMore verb done → StepTakes verb done' step
  pub posts : AddsBuffers unit (buffers_by verb done) (buffers_at verb done' step) old new
  pub macs : StepsMac unit verb old new step
  pub ranges : StepRanged unit verb old step
