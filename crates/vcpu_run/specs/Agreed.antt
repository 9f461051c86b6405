-- What is so of a partition's clients and the records of its lines, and what turns leave of other clients.
use Rattle.std.specs.Prelude.{◌≡◌, ◌≢◌, ℕ, ◌<◌, ◌==◌, List, [], ◌∷◌, ◌++◌, Option, Some, None, Result, IfSome, length, ⊤, if◌then◌else◌}
use Rattle.std.specs.List.{slice_get}
use Rattle.vio_num.specs.declared.memory.NoMemory.{NoMemory}
use Rattle.boot_text.specs.declared.plan.Line.{Line}
use Rattle.boot_text.specs.declared.verb.Verb.{Verb}
use Rattle.vio_trace.specs.declared.outcome.Outcome.{Outcome}
use Rattle.vcpu_run.specs.declared.driver.Driver.{Driver}
use Rattle.vcpu_run.specs.declared.pair.Pair.{Pair}
use Rattle.vcpu_run.specs.declared.script.Script.{Script}
use Rattle.unit_region.specs.declared.step.Step.{Step}
use Rattle.vcpu_run.specs.declared.unit_seat.Seat.{Seat}
use Rattle.vcpu_run.specs.declared.unit_seat.Seat.TheVariants as sits
use Rattle.vcpu_run.specs.Credited.{Agrees, IsFresh, KeepsCredit, StepsAgreed, StepsPort, credit_after, ended_by, taken_in}
use Rattle.vcpu_run.specs.Freeing.{NoneSits}
use Rattle.vio_trace.specs.declared.window_rows.CopyRow.{CopyRow}
use Rattle.vcpu_run.specs.ScriptLogs.{LogsLines}
use Rattle.vcpu_run.specs.Sendings.{SameCredits}

-- P of a driver before and after, where there is one
abbrev pub OnDrivers : Option Driver → Option Driver → (Driver → Driver → Type 0) → Type 0
OnDrivers (Some a) (Some b) P = P a b
OnDrivers None None P = ⊤
OnDrivers _ _ P = ⊥

-- the driver of pair k
abbrev pub driver_in : Option Pair → Option Driver
driver_in None = None
driver_in (Some pair) = pair.driver

abbrev pub driver_at : List Pair → ℕ → Option Driver
driver_at pairs k = driver_in (slice_get pairs k)

-- the drivers of all pairs, or of all but one, are as before
abbrev pub SameDrivers : List Pair → List Pair → Type 0
SameDrivers old new = (k : ℕ) → driver_at new k ≡ driver_at old k

abbrev pub SameOthers : (seat : ℕ) → List Pair → List Pair → Type 0
SameOthers seat old new = (k : ℕ) → k ≢ seat → driver_at new k ≡ driver_at old k

-- the answers that the current line took, if it is of this unit
abbrev pub taken_at : (unit taken : ℕ) → Option Line → ℕ
taken_at unit taken None = 0
taken_at unit taken (Some line) = if line.unit == unit then taken else 0

abbrev pub taken_by : (unit : ℕ) → Script → ℕ
taken_by unit script =
    taken_at unit (taken_in script.progress) (slice_get script.lines.now script.at)

-- Of each unit the records keep its credits; and while lines are left, its client agrees with them.
pub record IsCredited (pairs : List Pair) (script : Script) : Type 0 where
  pub law : (unit : ℕ) → KeepsCredit None (ended_by unit script.lines.now script.logs.items)
  pub fresh : IfSome (slice_get script.lines.now script.at) (λ line. IsFresh line.verb (taken_in script.progress))
  pub agrees : script.at < length script.lines.now → (unit k : ℕ) → slice_get script.seats.items unit ≡ Some (sits.Client k)
      → IfSome (driver_at pairs k) (λ driver. Agrees (taken_by unit script) (credit_after None (ended_by unit script.lines.now script.logs.items)) driver.client)
  pub ports : (unit : ℕ) → slice_get script.seats.items unit ≡ Some sits.Port
      → credit_after None (ended_by unit script.lines.now script.logs.items) ≡ None

-- A step of a line at one pair.
pub record StepsSeat (seat : ℕ) (verb : Verb) (taken taken' : ℕ) (old new : List Pair) (result : Result Step NoMemory) : Type 0 where
  pub others : SameOthers seat old new
  pub credit : OnDrivers (driver_at old seat) (driver_at new seat) (λ a b. StepsAgreed verb taken taken' a.client b.client result)

-- A step of a line at its unit: at the pair where a client sits, and at none where a port does.
pub record StepsLine (seats : List Seat) (line : Line) (taken taken' : ℕ) (old new : List Pair) (result : Result Step NoMemory) : Type 0 where
  pub client : (k : ℕ) → slice_get seats line.unit ≡ Some (sits.Client k) → StepsSeat k line.verb taken taken' old new result
  pub port : slice_get seats line.unit ≡ Some sits.Port → SameDrivers old new × StepsPort line.verb taken taken' result

-- the credits of all clients are as before
abbrev pub AllSame : List Pair → List Pair → Type 0
AllSame old new = (k : ℕ) → OnDrivers (driver_at old k) (driver_at new k) (λ a b. SameCredits a.client b.client)

-- The current line ended so, and has its row.
pub record IsEnded (line : Line) (outcome : Outcome) (old new : Script) : Type 0 where
  pub logs : new.logs.items ≡ old.logs.items ++ record { partition = old.partition; line = line.number; outcome = outcome } ∷ []
  pub none : taken_in new.progress ≡ 0

-- no client of these seats is logged in
abbrev pub AreLoggedOut : List Seat → List Pair → Type 0
AreLoggedOut seats pairs = (unit k : ℕ) → slice_get seats unit ≡ Some (sits.Client k) → IfSome (driver_at pairs k) (λ driver. driver.client.granted ≡ None)

-- no client of a pair is logged in
abbrev pub IsLoggedOut : Pair → Type 0
IsLoggedOut pair = IfSome pair.driver (λ driver. driver.client.granted ≡ None)

abbrev pub AreAllOut : List Pair → Type 0
AreAllOut pairs = (k : ℕ) (pair : Pair) → slice_get pairs k ≡ Some pair → IsLoggedOut pair

-- the pairs beside this one are as before, or those at which none of these seats is
abbrev pub SameBeside : (seat : ℕ) → List Pair → List Pair → Type 0
SameBeside seat old new = (k : ℕ) → k ≢ seat → slice_get new k ≡ slice_get old k

abbrev pub SameElse : List Seat → List Pair → List Pair → Type 0
SameElse seats old new = (k : ℕ) → NoneSits seats k → slice_get new k ≡ slice_get old k

-- the records of each script keep the credits of its units, and its clients agree with them; each stroke that one laid in its own region
-- bears the number of one of its lines; and the records say of raw calls what they may
abbrev pub AreCredited : (copies : ℕ → List CopyRow) → List Pair → List Script → Type 0
AreCredited copies pairs scripts = (i : ℕ) (script : Script) → slice_get scripts i ≡ Some script → IsCredited pairs script × LogsLines copies pairs script
