-- What is so of the answers of a script's clients between turns, and what a turn keeps of it.
use Rattle.std.specs.Prelude.{◌≡◌, ℕ, false, true, List, [], Some, IfOk, IfSome, IsSomeAnd, Result}
use Rattle.std.specs.List.{slice_get}
use Rattle.vio_num.specs.declared.memory.NoMemory.{NoMemory}
use Rattle.crq_ring.specs.declared.rows.PipeRow.{PipeRow}
use Rattle.crq_session.specs.PlainState.{end_of, side_of}
use Rattle.boot_text.specs.declared.verb.Verb.{Verb}
use Rattle.unit_region.specs.declared.step.Step.{Step}
use Rattle.vcpu_run.specs.declared.driver.Driver.{Driver}
use Rattle.vcpu_run.specs.declared.pair.Pair.{Pair}
use Rattle.vcpu_run.specs.declared.script.Progress.{Progress}
use Rattle.vcpu_run.specs.Agreed.{OnDrivers}
use Rattle.vcpu_run.specs.AnswersTaken.{AreTakesSaid, answered_tags, no_takes, takes_after}
use Rattle.vcpu_run.specs.Credited.{Ended, taken_in}
use Rattle.vio_num.specs.declared.names.UnitId.{UnitId}
use Rattle.vscsi_client.specs.State.{ClientState}
use Rattle.vcpu_run.specs.DataKept.{AreAsked, AreKeptAt, AreNoted, StepSends}
use Rattle.vcpu_run.specs.DataRead.{StepReads}
use Rattle.vcpu_run.specs.DataTold.{AreDataTold}
use Rattle.vcpu_run.specs.LinesShow.{Seen, seen_at, seen_now}
use Rattle.vcpu_run.specs.EventsHeard.{AreEventsHeard, StepHears, events_waiting}
use Rattle.vcpu_run.specs.EventsMade.{events_at}
use Rattle.vcpu_run.specs.Reached.{HasBegun, IsBlank, IsBlankBefore}
use Rattle.vcpu_run.specs.Takings.{AgreesTaken, AreGiven, Gives, StepsTaken, waiting}

-- the answers of a pair's client are as the records of its lines, and its current line, tell
abbrev pub PairAgrees : List Ended → Progress → Pair → Type 0
PairAgrees own p pair = IfSome pair.driver (AgreesTaken (taken_in p) (takes_after no_takes own))

-- A client's records say of its answers what is so, and these stand in order among the entries that it took; each loss that they tell has
-- an event; and what they say of the data of commands is so. It is logged in only where something was put into its queue, which its server
-- unit did in a session.
pub record IsTaken (own : List Ended) (pair : Pair) (driver : Driver) : Type 0 where
  pub said : AreTakesSaid (answered_tags driver.answers.items) no_takes own
  pub given : AreGiven driver (end_of [] pair.link false)
  pub heard : AreEventsHeard own driver.client (side_of pair.link false).queue.taken
  pub server : driver.client.server ≡ pair.server
  pub asked : AreAsked driver.client.outgoing
  pub noted : AreNoted driver.client.rows driver.answers.items
  pub kept : AreKeptAt driver.client.rows own
  pub reads : AreDataTold (seen_at pair) pair.server own driver.answers.items
  pub reached : IsBlankBefore driver.client (side_of pair.link false).queue.sent
  pub begun : HasBegun (end_of [] pair.link true)

abbrev pub PairTaken : List Ended → Pair → Type 0
PairTaken own pair = IfSome pair.driver (IsTaken own pair)

-- a step of a line at a pair, where a client sits
abbrev pub PairTakes : Verb → (p p' : Progress) → (old new : Pair) → Result Step NoMemory → Type 0
PairTakes verb p p' old new result = OnDrivers old.driver new.driver (λ a b. StepsTaken verb (taken_in p) (taken_in p') a b result)

-- a step of a line at a pair says what is so of the data that are kept, and keeps where those of its command lie
pub record StepKeeps (seen : Seen) (old new : ClientState) (verb : Verb) (step : Step) : Type 0 where
  pub reads : StepReads seen old verb step
  pub sends : StepSends new.rows verb step

abbrev pub PairReads : Verb → (old new : Pair) → Result Step NoMemory → Type 0
PairReads verb old new result = OnDrivers old.driver new.driver (λ a b. IfOk result (StepKeeps (seen_now new) a.client b.client verb))

-- what is taken at a pair keeps its answers in order
abbrev pub PairGives : (old new : Pair) → Type 0
PairGives old new = OnDrivers old.driver new.driver (λ a b. Gives a b (end_of [] old.link false) (end_of [] new.link false))

-- the same of all pairs
abbrev pub AllGive : List Pair → List Pair → Type 0
AllGive old new = (k : ℕ) (after : Pair) → slice_get new k ≡ Some after → IsSomeAnd (slice_get old k) (λ before. PairGives before after)

-- a step of a line at a pair says no more often that the partner was lost than events were taken
abbrev pub PairHears : (old new : Pair) → Result Step NoMemory → Type 0
PairHears old new result = OnDrivers old.driver new.driver (λ a b. StepHears result a.client b.client (end_of [] old.link false) (end_of [] new.link false))

-- A client has sent nothing and has taken no answer, and is not logged in.
pub record HasTakenNone (unit : UnitId) (taken : List PipeRow) (driver : Driver) : Type 0 where
  pub answers : driver.answers.items ≡ []
  pub rows : driver.client.rows ≡ []
  pub outgoing : driver.client.outgoing ≡ []
  pub kept : driver.client.kept ≡ []
  pub rest : waiting driver.client ≡ []
  pub events : events_waiting driver.client ≡ 0
  pub server : driver.client.server ≡ unit
  pub none : taken ≡ []
  pub blank : IsBlank driver.client

abbrev pub PairUntaken : Pair → Type 0
PairUntaken pair = IfSome pair.driver (HasTakenNone pair.server (side_of pair.link false).queue.taken)

-- the same of all pairs, no value was put into a client's window, no event was made, and no server unit put anything
abbrev pub AreUntaken : List Pair → Type 0
AreUntaken pairs = (k : ℕ) (pair : Pair) → slice_get pairs k ≡ Some pair → PairUntaken pair × (pair.window.rows ≡ []) × (events_at pair ≡ 0) × HasBegun (end_of [] pair.link true)
