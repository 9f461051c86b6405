-- What a step of a client's line does at its client, but for a login, whatever stands between the client and its server unit: with what else it
-- leaves at the ports.
use Rattle.std.specs.Prelude.{◌≢◌, ℕ, List, Result, Err, ⊤}
use Rattle.boot_text.specs.declared.verb.Verb.{Verb}
use Rattle.boot_text.specs.declared.verb.Verb.TheVariants as verbs
use Rattle.unit_region.specs.declared.step.Step.{Step}
use Rattle.vscsi_client.specs.Ports.{Ports}
use Rattle.vscsi_client.specs.declared.answers.Refused.{Refused}
use Rattle.vscsi_client.specs.declared.answers.Refused.TheVariants.{NoMemory}
use Rattle.vcpu_run.specs.Acts.{Acting, ActsFor, CommandsOnce, LogsOutOnce, TasksOnce}
use Rattle.vcpu_run.specs.OwnActs.{SameHands, SendsOnly, TakesEachAlone}
use Rattle.vcpu_run.specs.declared.script.Progress.{Progress}
use Rattle.vcpu_run.specs.declared.taking.Took.{Took}

-- A request was sent, or was not, and memory did not run out.
pub record SentAlone (answer : Result ℕ Refused) (old new : Ports) : Type 0 where
  pub only : SendsOnly old new
  pub memory : answer ≢ Err NoMemory

-- A line took these, or behind the last line they were taken.
pub record TakesAllAlone (old new : Acting) : Type 0 where
  pub entries : List Took
  pub each : TakesEachAlone entries old new

-- a command was sent, or was not
pub record CommandsAlone (line : ℕ) (verb : Verb) (old new : Acting) (step : Step) : Type 0 where
  pub once : CommandsOnce line verb old new step
  pub alone : SentAlone once.submits.answer old.ports new.ports

pub record TasksAlone (line function tag : ℕ) (old new : Acting) (step : Step) : Type 0 where
  pub once : TasksOnce line function tag old new step
  pub alone : SentAlone once.answer old.ports new.ports

pub record LogsOutAlone (line : ℕ) (old new : Acting) (step : Step) : Type 0 where
  pub once : LogsOutOnce line old new step
  pub alone : SentAlone once.answer old.ports new.ports

-- what a line does in its region
pub record ActsAside (line : ℕ) (verb : Verb) (p p' : Progress) (old new : Acting) (step : Step) : Type 0 where
  pub acts : ActsFor line verb p p' old new step
  pub hands : SameHands old.ports new.ports

-- A step of a line that logs in is not spoken of.
abbrev pub ActsAlone : (line : ℕ) → Verb → (p p' : Progress) → (old new : Acting) → Step → Type 0
ActsAlone line verbs.Login p p' old new step = ⊤
ActsAlone line verbs.Reset p p' old new step = ⊤
ActsAlone line verbs.Logout p p' old new step = LogsOutAlone line old new step
ActsAlone line (verbs.Task function tag) p p' old new step = TasksAlone line function tag old new step
ActsAlone line (verbs.Take count) p p' old new step = TakesAllAlone old new
ActsAlone line (verbs.Data tag) p p' old new step = ActsAside line (verbs.Data tag) p p' old new step
ActsAlone line (verbs.Peek at len) p p' old new step = ActsAside line (verbs.Peek at len) p p' old new step
ActsAlone line (verbs.Fill at len seed) p p' old new step = ActsAside line (verbs.Fill at len seed) p p' old new step
ActsAlone line (verbs.Poke at bytes) p p' old new step = ActsAside line (verbs.Poke at bytes) p p' old new step
ActsAlone line (verbs.Tce entry page readable writable) p p' old new step = ActsAside line (verbs.Tce entry page readable writable) p p' old new step
ActsAlone line verb p p' old new step = CommandsAlone line verb old new step

-- Such a line logs in.
abbrev pub LogsIn : Verb → Type 0
LogsIn verbs.Login = ⊤
LogsIn verbs.Reset = ⊤
LogsIn verb = ⊥
