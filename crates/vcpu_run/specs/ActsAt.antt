-- What is done at the pairs of clients in a turn of a script, whatever stands there: the events that are put, then the step of the
-- current line at the one client that it names, or what comes behind the last line, or where the partition fails. Beside each stands what the same
-- is for clients that talk plainly.
use Rattle.std.specs.Prelude.{◌≡◌, ◌⊎◌, ◌≤◌, ℕ, false, true, List, [], ◌∷◌, Ok, Option, None, Some, length}
use Rattle.std.specs.Borrow.{GName}
use Rattle.std.specs.List.{slice_get}
use Rattle.vio_num.specs.declared.hypervisor.Moved.{Moved}
use Rattle.vio_num.specs.declared.hypervisor.Moved.TheVariants as moves
use Rattle.boot_text.specs.declared.plan.Line.{Line}
use Rattle.crq_ring.specs.Pipe.{IsLawfulPipe}
use Rattle.crq_session.specs.Answered.{Pushes, PutsNone, StillKept, TellsFailed}
use Rattle.crq_session.specs.EndState.{EndState, OnlyFrees, OnlyPushes, OnlyReserves}
use Rattle.crq_session.specs.PlainState.{end_of, side_of}
use Rattle.tce_window.specs.PlainPort.{known_of}
use Rattle.vscsi_client.specs.Turned.{unlinked}
use Rattle.unit_region.specs.declared.step.Step.{Step}
use Rattle.unit_region.specs.declared.step.Step.TheVariants as steps
use Rattle.vcpu_run.specs.Acts.{Acting, ActsFor, FindsQueueUsed, StaysClient, TakesRest, acting}
use Rattle.vio_trace.specs.declared.outcome.Outcome.{Outcome}
use Rattle.vio_trace.specs.declared.outcome.Outcome.TheVariants as outcomes
use Rattle.vcpu_run.specs.Agreed.{IsEnded, OnDrivers, SameBeside}
use Rattle.vcpu_run.specs.FailedShut.{SeatsShut}
use Rattle.vcpu_run.specs.Lines.{place_behind}
use Rattle.vcpu_run.specs.Links.{LinksRest}
use Rattle.vcpu_run.specs.NotedOn.{AllKeepNoted}
use Rattle.vcpu_run.specs.Pairs.{AreDriven}
use Rattle.vcpu_run.specs.PlainScripts.{AllFailPlainly, AllRestPlainly, AllTalkOn, LinePlainly}
use Rattle.vcpu_run.specs.ScriptTold.{SameClients}
use Rattle.vcpu_run.specs.Suited.{is_call}
use Rattle.vcpu_run.specs.Works.{fails}
use Rattle.vcpu_run.specs.declared.driver.Driver.{Driver}
use Rattle.vcpu_run.specs.declared.pair.Pair.{Pair}
use Rattle.vcpu_run.specs.declared.script.Progress.{Progress}
use Rattle.vcpu_run.specs.declared.script.Progress.TheVariants as progress
use Rattle.vcpu_run.specs.declared.script.Script.{Script}
use Rattle.vcpu_run.specs.declared.unit_seat.Seat.{Seat}
use Rattle.vcpu_run.specs.declared.unit_seat.Seat.TheVariants as sits

-- WHAT IS DONE BESIDES LINES ----------------------------------------------------------------------

-- The event that the end keeps, if it keeps one, was put, or was lost, or stays.
pub record PushesEvent (old new : Acting) : Type 0 where
  pub room : EndState
  pub ready : OnlyReserves old.ports.crq room
  pub pushes : PutsNone old.ports.crq_shared room new.ports.crq
      ⊎ (Pushes old.ports.crq_shared room new.ports.crq ⊎ ((number : ℕ) × (held : ℕ) × StillKept old.ports.crq_shared room new.ports.crq number held))
  pub rest : OnlyPushes old.ports.crq_shared room new.ports.crq
  pub own : new.ports.own ≡ old.ports.own
  pub client : StaysClient old new

-- The partition fails: the own queue was failed, and the client told.
pub record FailsQueue (old new : Acting) : Type 0 where
  pub room : EndState
  pub ready : OnlyReserves old.ports.crq room
  pub tells : TellsFailed old.ports.crq_shared room new.ports.crq
  pub rest : OnlyFrees old.ports.crq_shared room new.ports.crq
  pub own : new.ports.own ≡ old.ports.own
  pub client : new.client ≡ unlinked old.client
  pub answers : new.answers ≡ old.answers

-- It was not registered: only room was made.
pub record FindsQueueFree (old new : Acting) : Type 0 where
  pub ready : OnlyReserves old.ports.crq new.ports.crq
  pub unregistered : new.ports.crq.registered ≡ false
  pub own : new.ports.own ≡ old.ports.own
  pub client : StaysClient old new

abbrev pub FailsOnce : (old new : Acting) → Type 0
FailsOnce old new = FailsQueue old new ⊎ (FindsQueueFree old new ⊎ FindsQueueUsed old new)

-- AT A PAIR ---------------------------------------------------------------------------------------

-- a client at its pair, whose end is reached through these borrows
abbrev pub acting_at : List GName → Driver → Pair → Acting
acting_at lenders driver pair = acting driver false (end_of lenders pair.link false) false (known_of pair.window)

-- P of the client of a pair before and after, where it has one
abbrev pub AtPair : (P : Acting → Acting → Type 0) → (old new : Pair) → Type 0
AtPair P old new = OnDrivers old.driver new.driver (λ a b. (lenders : List GName) × P (acting_at lenders a old) (acting_at lenders b new))

-- a step of a line did there what its verb says
abbrev pub PairActs : Line → (p p' : Progress) → (old new : Pair) → Step → Type 0
PairActs line p p' old new step = AtPair (λ a b. ActsFor line.number line.verb p p' a b step) old new

-- one after the other, over these
abbrev pub LeadsOver : (P : Acting → Acting → Type 0) → (over : List Pair) → (old new : Pair) → Type 0
LeadsOver P [] old new = new ≡ old
LeadsOver P (next ∷ over) old new = AtPair P old next × LeadsOver P over next new

-- P any number of times
pub record Leads (P : Acting → Acting → Type 0) (old new : Pair) : Type 0 where
  pub over : List Pair
  pub leads : LeadsOver P over old new

-- IN A SCRIPT -------------------------------------------------------------------------------------

-- the same of each pair
abbrev pub AllLead : (P : Acting → Acting → Type 0) → (old new : List Pair) → Type 0
AllLead P old new = (k : ℕ) (before after : Pair) → slice_get old k ≡ Some before → slice_get new k ≡ Some after → Leads P before after

-- Nothing more was put into the server unit's queue, or taken from the client's.
pub record IsUnmoved (old new : Pair) : Type 0 where
  pub put : length (side_of new.link true).queue.sent ≤ length (side_of old.link true).queue.sent
  pub taken : length (side_of new.link false).queue.taken ≤ length (side_of old.link false).queue.taken

-- the same at each pair
abbrev pub AreUnmoved : (old new : List Pair) → Type 0
AreUnmoved old new = (k : ℕ) (before after : Pair) → slice_get old k ≡ Some before → slice_get new k ≡ Some after → IsUnmoved before after

-- A step of a line at the client of one pair, whose queue is lawful, and where nothing moved if it says so; the others are as they were.
pub record SeatActs (seat : ℕ) (line : Line) (p p' : Progress) (old new : List Pair) (step : Step) : Type 0 where
  pub acts : (before after : Pair) → slice_get old seat ≡ Some before → slice_get new seat ≡ Some after → PairActs line p p' before after step
  pub still : step ≡ steps.Waits moves.Quiet → AreUnmoved old new
  pub lawful : (before : Pair) → slice_get old seat ≡ Some before → IsLawfulPipe (side_of before.link false).queue
  pub beside : SameBeside seat old new

-- A step of a line at its unit: at the pair where a client sits, and at none where a port does.
pub record LineActs (seats : List Seat) (line : Line) (p p' : Progress) (old new : List Pair) (step : Step) : Type 0 where
  pub client : (k : ℕ) → slice_get seats line.unit ≡ Some (sits.Client k) → SeatActs k line p p' old new step
  pub port : slice_get seats line.unit ≡ Some sits.Port → new ≡ old

-- The line ended so, and the script stands behind it.
pub record EndsLine (line : Line) (outcome : Outcome) (old new : Script) : Type 0 where
  pub ended : IsEnded line outcome old new
  pub at : new.at ≡ place_behind old.lines.now old.at line
  pub fresh : new.progress ≡ progress.Fresh

-- what a step leaves of its script: a line that ends has its record, one that waits goes on from where it came
abbrev pub StepLeaves : Line → (p' : Progress) → (old new : Script) → Step → Type 0
StepLeaves line p' old new (steps.Ends outcome) = EndsLine line outcome old new
StepLeaves line p' old new (steps.Waits did) = new ≡ record old { progress = p' }

-- what a turn says that did this step
abbrev pub moved_by : Step → Moved
moved_by (steps.Ends outcome) = moves.Moved
moved_by (steps.Waits did) = did

-- One step of the current line, of which the turn says so.
pub record StepsLineOnce (moved : Moved) (line : Line) (old new : List Pair) (script script' : Script) : Type 0 where
  pub progress : Progress
  pub step : Step
  pub says : moved ≡ moved_by step
  pub acts : LineActs script.seats.items line script.progress progress old new step
  pub plainly : LinePlainly script.seats.items line script.progress progress old new (Ok step)
  pub leaves : StepLeaves line progress script script' step
  pub keeps : AllKeepNoted old new
  pub still : moved ≡ moves.Quiet → AreUnmoved old new

-- A line that fails the partition is to be gone on with; or it ended, and no queue of the partition's clients is registered.
abbrev pub FailLeaves : Line → List Pair → (old new : Script) → Type 0
FailLeaves line pairs old new = (new ≡ old) ⊎ (EndsLine line outcomes.Done old new × SeatsShut old.seats.items pairs)

pub record FailsLine (line : Line) (old new : List Pair) (script script' : Script) : Type 0 where
  pub acts : AllLead FailsOnce old new
  pub plainly : AllFailPlainly old new
  pub keeps : AllKeepNoted old new
  pub leaves : FailLeaves line new script script'

-- A line that makes a raw call is not spoken of.
pub record GoesWith (moved : Moved) (line : Line) (old new : List Pair) (script script' : Script) : Type 0 where
  pub failing : fails line.verb ≡ true → FailsLine line old new script script'
  pub going : fails line.verb ≡ false → is_call line.verb ≡ false → StepsLineOnce moved line old new script script'
  pub stays : moved ≡ moves.Quiet → script'.at ≡ script.at

-- what is done for the current line, or behind the last one
abbrev pub GoesBy : Moved → Option Line → (old new : List Pair) → (script script' : Script) → Type 0
GoesBy did None old new script script' = AllLead TakesRest old new × AllRestPlainly old new × AllKeepNoted old new × (script' ≡ script)
GoesBy did (Some line) old new script script' = GoesWith did line old new script script'

abbrev pub GoesOnce : Moved → (old new : List Pair) → (script script' : Script) → Type 0
GoesOnce moved old new script script' = GoesBy moved (slice_get script.lines.now script.at) old new script script'

-- A turn puts the events first. One that says it did nothing did nothing behind that, too.
pub record TurnActs (moved : Moved) (old new : List Pair) (script script' : Script) : Type 0 where
  pub pairs : List Pair
  pub pushes : AllLead PushesEvent old pairs
  pub driven : AreDriven old pairs
  pub clients : SameClients old pairs
  pub talks_on : AllTalkOn old pairs
  pub leads : AreDriven pairs new
  pub went : Moved
  pub goes : GoesOnce went pairs new script script'
  pub quiet : moved ≡ moves.Quiet → went ≡ moves.Quiet
  pub rests : moved ≡ moves.Quiet → LinksRest old pairs
  pub stays : moved ≡ moves.Quiet → script'.at ≡ script.at
