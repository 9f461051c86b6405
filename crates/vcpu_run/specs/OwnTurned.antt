-- What a turn of a script leaves at an own client's pair whose server unit's session is over, or was: the two talk, or it is so still.
use Rattle.std.specs.Prelude.{◌⊎◌, ◌++◌, ◌≤◌, ℕ, Bool, false, List, [], ◌∷◌, Option, Some, length}
use Rattle.boot_text.specs.declared.plan.Line.{Line}
use Rattle.crq_session.specs.PlainState.{end_of}
use Rattle.tce_window.specs.PlainPort.{known_of}
use Rattle.block_server.specs.Talk.{to_come}
use Rattle.block_server.specs.declared.unit.Unit.{Unit}
use Rattle.unit_region.specs.declared.step.Step.{Step}
use Rattle.unit_region.specs.declared.step.Step.TheVariants as steps
use Rattle.vcpu_run.specs.Credited.{Ended}
use Rattle.vcpu_run.specs.Machines.{server_id}
use Rattle.vcpu_run.specs.OwnClients.{IsGrantOf}
use Rattle.vcpu_run.specs.OwnPairs.{IsOverOwn, TalksOwn}
use Rattle.vcpu_run.specs.PlainPairs.{ServerBooks}
use Rattle.vcpu_run.specs.PlainRejected.{TellsRejection}
use Rattle.vcpu_run.specs.declared.driver.Driver.{Driver}
use Rattle.vcpu_run.specs.declared.pair.Pair.{Pair}
use Rattle.vcpu_run.specs.declared.script.Progress.{Progress}
use Rattle.vcpu_run.specs.declared.script.Progress.TheVariants as progress

-- No more is to come to the client's queue than it has slots.
abbrev pub ComesWithin : Pair → Type 0
ComesWithin pair = length (to_come (end_of [] pair.link false)) ≤ (end_of [] pair.link false).place.own_slots

-- Where they talk, nothing is to come.
abbrev pub OverOrTalks : (granted : ℕ) (failed : Bool) (told : List Ended) (lines : List Line) (home u k : ℕ) → ServerBooks → Option Line → Progress → Unit → Driver → Pair → Type 0
OverOrTalks granted failed told lines home u k books line p unit driver pair =
    TalksOwn granted told lines home u k books [] line p unit driver pair ⊎ IsOverOwn granted failed told home u k books line p unit driver pair

-- What a step of a line of the unit leaves: the line is to be gone on with, or it ended, and another comes, or none. What rejected a login was laid
-- by the server unit; and a login that was granted is one of this many requests.
abbrev pub StepsOver : (granted : ℕ) (told : List Ended) (lines : List Line) (home u k : ℕ) → ServerBooks → Line → Option Line → Progress → Unit → Driver → Pair → Step → Type 0
StepsOver granted told lines home u k books line line' p unit driver pair (steps.Waits did) = IsOverOwn granted false told home u k books (Some line) p unit driver pair
StepsOver granted told lines home u k books line line' p unit driver pair (steps.Ends outcome) =
    OverOrTalks granted false (told ++ record { verb = line.verb; outcome = outcome } ∷ []) lines home u k books line' progress.Fresh unit driver pair
    × TellsRejection line.verb outcome (server_id home k) (known_of pair.window).strokes × IsGrantOf granted outcome
