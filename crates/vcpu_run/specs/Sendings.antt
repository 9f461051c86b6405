-- What comes of the calls of a client, as a step of a line says it.
use Rattle.std.specs.Prelude.{◌≡◌, ℕ, ◌+◌, ◌≤◌, Option, Some, None, Result, Ok, Err, length, ⊤}
use Rattle.vio_num.specs.declared.memory.NoMemory.{NoMemory}
use Rattle.vio_trace.specs.declared.outcome.Outcome.{Outcome}
use Rattle.vio_trace.specs.declared.outcome.Outcome.TheVariants as outcomes
use Rattle.vscsi_client.specs.declared.answers.LoginTurn.{LoginTurn}
use Rattle.vscsi_client.specs.declared.answers.LoginTurn.TheVariants as turns
use Rattle.vscsi_client.specs.declared.answers.Refused.{Refused}
use Rattle.vscsi_client.specs.declared.answers.Refused.TheVariants as whys
use Rattle.vscsi_client.specs.State.{ClientState}
use Rattle.unit_region.specs.declared.step.Step.{Step}
use Rattle.unit_region.specs.declared.step.Step.TheVariants as steps
use Rattle.vcpu_run.specs.declared.taking.Took.{Took}
use Rattle.vcpu_run.specs.declared.taking.Took.TheVariants as tooks
use Rattle.unit_region.specs.Steps.{IsPlain}

-- a request that was sent gave its tag; else no credit is changed
abbrev pub SaysSent : Result ℕ Refused → Result Step NoMemory → Type 0
SaysSent (Ok tag) result = result ≡ Ok (steps.Ends (outcomes.Sent tag))
SaysSent (Err why) result = IsPlain result

-- what a request says that was refused, or met a closed queue or a full one; none where it is to be tried again, or memory ran out
abbrev pub says_as : Refused → Option Outcome
says_as whys.Range = Some outcomes.Range
says_as whys.NotLoggedIn = Some outcomes.NotLoggedIn
says_as (whys.NoCredit limit) = Some (outcomes.NoCredit limit)
says_as (whys.Overlap tag) = Some (outcomes.Overlap tag)
says_as (whys.Closed control) = Some outcomes.Closed
says_as (whys.Dropped number held) = Some (outcomes.Dropped number held)
says_as _ = None

abbrev pub SaysWhy : Refused → Result Step NoMemory → Type 0
SaysWhy why (Ok (steps.Ends outcome)) = says_as why ≡ Some outcome
SaysWhy why (Ok (steps.Waits did)) = says_as why ≡ None
SaysWhy why (Err memory) = ⊤

-- what a turn of a login says
abbrev pub SaysTurned : LoginTurn → Step → Type 0
SaysTurned (turns.Granted credits) step = step ≡ steps.Ends (outcomes.Granted credits)
SaysTurned (turns.Rejected reason) step = step ≡ steps.Ends (outcomes.Rejected reason)
SaysTurned turns.Lost step = step ≡ steps.Ends outcomes.Lost
SaysTurned _ (steps.Waits did) = ⊤
SaysTurned _ (steps.Ends outcome) = ⊥

-- granted and outstanding are as before
pub record SameCredits (s s' : ClientState) : Type 0 where
  pub granted : s'.granted ≡ s.granted
  pub outgoing : s'.outgoing ≡ s.outgoing

-- an answer is one request less at most
pub record AnswersOne (s s' : ClientState) : Type 0 where
  pub granted : s'.granted ≡ s.granted
  pub one : length s.outgoing ≤ length s'.outgoing + 1

-- what an entry that was taken leaves of the credits
abbrev pub TookOf : Took → ClientState → ClientState → Type 0
TookOf tooks.Answer s s' = AnswersOne s s'
TookOf tooks.Lost s s' = s'.granted ≡ None
TookOf _ s s' = SameCredits s s'
