-- What a step of a line does at its client, whatever stands between the client and its server unit: the calls that it made, and all that
-- they left.
use Rattle.std.specs.Prelude.{◌≡◌, ◌≢◌, ◌⊎◌, ℕ, ◌+◌, ◌≤◌, ◌↔◌, All, Bool, false, IfErr, IfOk, IfSome, IsErrOf, List, [], ◌∷◌, None, Ok, Err, Result, Some, length, ⊤}
use Rattle.std.specs.List.{sum}
use Rattle.vio_num.specs.declared.hypervisor.Moved.TheVariants as moves
use Rattle.boot_text.specs.declared.verb.Verb.{Verb}
use Rattle.boot_text.specs.declared.verb.Verb.TheVariants as verbs
use Rattle.crq_session.specs.Answered.{FindsInUse, TellsFreed}
use Rattle.crq_session.specs.EndState.{EndState, OnlyFrees, OnlyReserves, OnlySends, OnlyTakes}
use Rattle.tce_window.specs.PortState.{OnlyReads, OnlyWrites, PortState}
use Rattle.vio_trace.specs.declared.outcome.Outcome.TheVariants as outcomes
use Rattle.vio_trace.specs.declared.rows.AnswerRow.{AnswerRow}
use Rattle.vscsi_client.specs.Ports.{Ports, ports}
use Rattle.vscsi_client.specs.Sending.{LoggedOut, Submitted, Tasked, WhyNotSent, WhyNotSubmitted, command_refusal, logout_refusal, logout_unit, task_refusal, task_unit}
use Rattle.vscsi_client.specs.State.{ClientState}
use Rattle.vscsi_client.specs.Taking.{TakesEntry}
use Rattle.vscsi_client.specs.Transferred.{GivesData, WhyNoData, data_range, name_of}
use Rattle.vscsi_client.specs.Turned.{Site, Turned, site, unlinked}
use Rattle.vscsi_client.specs.declared.answers.DataFault.{DataFault}
use Rattle.vscsi_client.specs.declared.answers.DataFault.TheVariants as faults
use Rattle.vscsi_client.specs.declared.answers.LoginTurn.{LoginTurn}
use Rattle.vscsi_client.specs.declared.answers.Refused.{Refused}
use Rattle.vscsi_client.specs.declared.answers.Refused.TheVariants as whys
use Rattle.vscsi_client.specs.declared.answers.Taken.{Taken}
use Rattle.vscsi_client.specs.declared.answers.Taken.TheVariants.{Again, Answer, Empty, Lost, Other, Stray}
use Rattle.vscsi_client.specs.declared.op.Op.{Op}
use Rattle.unit_region.specs.Answers.{AnswersPut, AnswersRead, AnswersWrite, tce_of}
use Rattle.unit_region.specs.Kept.{KeepsWindow}
use Rattle.unit_region.specs.Marks.{LaysJust, LaysNoStroke}
use Rattle.unit_region.specs.Pattern.{pattern}
use Rattle.unit_region.specs.declared.step.Step.{Step}
use Rattle.unit_region.specs.declared.step.Step.TheVariants as steps
use Rattle.vcpu_run.specs.Commands.{IsOpOf, cdb_of}
use Rattle.vcpu_run.specs.Credited.{taken_in}
use Rattle.vcpu_run.specs.Sendings.{SaysTurned, SaysWhy}
use Rattle.vcpu_run.specs.Takings.{NotesIn}
use Rattle.vcpu_run.specs.declared.driver.Driver.{Driver}
use Rattle.vcpu_run.specs.declared.script.Progress.{Progress}
use Rattle.vcpu_run.specs.declared.script.Progress.TheVariants as progress
use Rattle.vcpu_run.specs.declared.taking.Took.{Took}
use Rattle.vcpu_run.specs.declared.taking.Took.TheVariants as tooks

-- A client at its ports, with the answers that it noted.
pub record Acting : Type 0 where
  pub client : ClientState
  pub ports : Ports
  pub answers : List AnswerRow

-- that of a driver, at an end and a window of which it is said whether others have a hand in them
abbrev pub acting : Driver → (crq_shared : Bool) → EndState → (own_shared : Bool) → PortState → Acting
acting driver crq_shared crq own_shared own = record { client = driver.client; ports = ports crq_shared crq own_shared own; answers = driver.answers.items }

abbrev pub site_of : Acting → Site
site_of a = site a.client a.ports

-- The client and its answers are as before.
pub record StaysClient (old new : Acting) : Type 0 where
  pub client : new.client ≡ old.client
  pub answers : new.answers ≡ old.answers

-- whether a line goes on
abbrev pub IsWaiting : Step → Type 0
IsWaiting (steps.Waits did) = ⊤
IsWaiting (steps.Ends outcome) = ⊥

-- LOGINS ------------------------------------------------------------------------------------------

-- One turn of a login was made, and said what it came to.
pub record LogsInOnce (line : ℕ) (old new : Acting) (step : Step) : Type 0 where
  pub turn : LoginTurn
  pub turned : Turned line (site_of old) (site_of new) (Ok turn)
  pub says : SaysTurned turn step
  pub answers : new.answers ≡ old.answers

-- The own queue was freed, once room was made, and the client was told.
pub record FreesQueue (old new : Acting) : Type 0 where
  pub room : EndState
  pub ready : OnlyReserves old.ports.crq room
  pub tells : TellsFreed old.ports.crq_shared room new.ports.crq
  pub rest : OnlyFrees old.ports.crq_shared room new.ports.crq
  pub own : new.ports.own ≡ old.ports.own
  pub client : new.client ≡ unlinked old.client
  pub answers : new.answers ≡ old.answers

-- It was not, since a sender was in it.
pub record FindsQueueUsed (old new : Acting) : Type 0 where
  pub room : EndState
  pub ready : OnlyReserves old.ports.crq room
  pub word : ℕ
  pub used : FindsInUse old.ports.crq_shared room new.ports.crq word
  pub rest : OnlyFrees old.ports.crq_shared room new.ports.crq
  pub own : new.ports.own ≡ old.ports.own
  pub client : StaysClient old new

-- the same with this end, in which only room was made
abbrev pub with_room : EndState → Acting → Acting
with_room room a = record { client = a.client; ports = record a.ports { crq = room }; answers = a.answers }

-- Its queue was not registered: a turn of a login was made at once.
pub record LogsInUnfreed (line : ℕ) (old new : Acting) (step : Step) : Type 0 where
  pub room : EndState
  pub ready : OnlyReserves old.ports.crq room
  pub unregistered : room.registered ≡ false
  pub logs : LogsInOnce line (with_room room old) new step

-- A reset frees the queue first, and then logs in.
abbrev pub ResetsFirst : (line : ℕ) → (p p' : Progress) → (old new : Acting) → Step → Type 0
ResetsFirst line p p' old new step =
    (FreesQueue old new × (p' ≡ progress.Freed) × (step ≡ steps.Waits moves.Moved))
    ⊎ ((LogsInUnfreed line old new step × (p' ≡ progress.Freed)) ⊎ (FindsQueueUsed old new × (p' ≡ p) × IsWaiting step))

abbrev pub ResetsOnce : (line : ℕ) → (p p' : Progress) → (old new : Acting) → Step → Type 0
ResetsOnce line p p' old new step =
    ((p ≡ progress.Freed) × LogsInOnce line old new step × (p' ≡ progress.Freed)) ⊎ ((p ≢ progress.Freed) × ResetsFirst line p p' old new step)

-- REQUESTS ----------------------------------------------------------------------------------------

-- what a request says: its tag, or why it was not sent
abbrev pub SaysAs : Result ℕ Refused → Step → Type 0
SaysAs (Ok tag) step = step ≡ steps.Ends (outcomes.Sent tag)
SaysAs (Err why) step = SaysWhy why (Ok step)

-- neither the own queue nor the region was touched
pub record TouchesNone (old new : Ports) : Type 0 where
  pub crq : new.crq ≡ old.crq
  pub own : new.own ≡ old.own

-- A command was refused before anything was done, or was not sent for another cause.
abbrev pub RefusesOp : (line : ℕ) → Op → (old new : Acting) → Refused → Type 0
RefusesOp line op old new why =
    ((command_refusal old.ports.own.place.size old.client op ≡ Some why) × TouchesNone old.ports new.ports × (new.client ≡ old.client))
    ⊎ ((command_refusal old.ports.own.place.size old.client op ≡ None) × WhyNotSubmitted line op old.client new.client old.ports new.ports why)

abbrev pub SubmitsAs : (line : ℕ) → Op → (old new : Acting) → Result ℕ Refused → Type 0
SubmitsAs line op old new (Ok tag) = Submitted line op old.client new.client old.ports new.ports tag
SubmitsAs line op old new (Err why) = RefusesOp line op old new why

-- One command was sent, or was not, and memory did not run out.
pub record SubmitsOnce (line : ℕ) (op : Op) (old new : Acting) (step : Step) : Type 0 where
  pub answer : Result ℕ Refused
  pub submits : SubmitsAs line op old new answer
  pub says : SaysAs answer step
  pub answers : new.answers ≡ old.answers
  pub crq : OnlySends old.ports.crq_shared old.ports.crq new.ports.crq
  pub own : OnlyWrites old.ports.own new.ports.own
  pub memory : answer ≢ Err whys.NoMemory

-- It is that of the line.
pub record CommandsOnce (line : ℕ) (verb : Verb) (old new : Acting) (step : Step) : Type 0 where
  pub op : Op
  pub is_op : IsOpOf verb op
  pub cdb : op.cdb ≡ cdb_of verb
  pub submits : SubmitsOnce line op old new step

-- A task management request was sent, or was not, and memory did not run out.
abbrev pub RefusesTask : (line function tag : ℕ) → (old new : Acting) → Refused → Type 0
RefusesTask line function tag old new why =
    ((task_refusal old.client ≡ Some why) × TouchesNone old.ports new.ports)
    ⊎ ((task_refusal old.client ≡ None) × WhyNotSent line old.client (task_unit function tag old.client) old.ports new.ports why)

abbrev pub TasksAs : (line function tag : ℕ) → (old new : Acting) → Result ℕ Refused → Type 0
TasksAs line function tag old new (Ok own) = Tasked line function tag old.client new.client old.ports new.ports own
TasksAs line function tag old new (Err why) = RefusesTask line function tag old new why × (new.client ≡ old.client)

pub record TasksOnce (line function tag : ℕ) (old new : Acting) (step : Step) : Type 0 where
  pub answer : Result ℕ Refused
  pub tasks : TasksAs line function tag old new answer
  pub says : SaysAs answer step
  pub answers : new.answers ≡ old.answers
  pub crq : OnlySends old.ports.crq_shared old.ports.crq new.ports.crq
  pub own : OnlyWrites old.ports.own new.ports.own
  pub memory : answer ≢ Err whys.NoMemory

-- A logout was sent, or was not, and memory did not run out.
abbrev pub RefusesLogout : (line : ℕ) → (old new : Acting) → Refused → Type 0
RefusesLogout line old new why =
    ((logout_refusal old.client ≡ Some why) × TouchesNone old.ports new.ports)
    ⊎ ((logout_refusal old.client ≡ None) × WhyNotSent line old.client (logout_unit old.client) old.ports new.ports why)

abbrev pub LogsOutAs : (line : ℕ) → (old new : Acting) → Result ℕ Refused → Type 0
LogsOutAs line old new (Ok tag) = LoggedOut line old.client new.client old.ports new.ports tag
LogsOutAs line old new (Err why) = RefusesLogout line old new why × (new.client ≡ old.client)

pub record LogsOutOnce (line : ℕ) (old new : Acting) (step : Step) : Type 0 where
  pub answer : Result ℕ Refused
  pub logs_out : LogsOutAs line old new answer
  pub says : SaysAs answer step
  pub answers : new.answers ≡ old.answers
  pub crq : OnlySends old.ports.crq_shared old.ports.crq new.ports.crq
  pub own : OnlyWrites old.ports.own new.ports.own
  pub memory : answer ≢ Err whys.NoMemory

-- ANSWERS -----------------------------------------------------------------------------------------

-- what a driver says that it took
abbrev pub took_as : Taken → Took
took_as (Answer tag response) = tooks.Answer
took_as (Stray tag) = tooks.Other
took_as Other = tooks.Other
took_as Lost = tooks.Lost
took_as (Again page word) = tooks.InUse
took_as (Empty number) = tooks.Nothing

-- an answer was noted, once, with the session in which it was taken; nothing else is
abbrev pub NotesTaken : Taken → (session : ℕ) → (old new : List AnswerRow) → Type 0
NotesTaken (Answer tag response) session old new = NotesIn session tag response old new
NotesTaken taken session old new = new ≡ old

-- One entry was taken, or none was there, and nothing else was done at the ports.
pub record TakesOnce (took : Took) (old new : Acting) : Type 0 where
  pub taken : Taken
  pub is : took ≡ took_as taken
  pub takes : TakesEntry old.client new.client old.ports new.ports taken
  pub notes : NotesTaken taken new.ports.crq.last_session old.answers new.answers
  pub crq : OnlyTakes old.ports.crq_shared old.ports.crq new.ports.crq
  pub own : OnlyReads old.ports.own_shared old.ports.own new.ports.own
  pub crq_hands : new.ports.crq_shared ≡ old.ports.crq_shared
  pub own_hands : new.ports.own_shared ≡ old.ports.own_shared

-- these, the latest first, were taken one after another
abbrev pub TakesEach : List Took → (old new : Acting) → Type 0
TakesEach [] old new = new ≡ old
TakesEach (took ∷ entries) old new = (middle : Acting) × TakesEach entries old middle × TakesOnce took middle new

-- how many of them were answers
abbrev pub answers_in : List Took → ℕ
answers_in [] = 0
answers_in (tooks.Answer ∷ entries) = answers_in entries + 1
answers_in (_ ∷ entries) = answers_in entries

-- a line that takes goes on behind this
abbrev pub GoesOn : Took → Type 0
GoesOn tooks.Answer = ⊤
GoesOn tooks.Other = ⊤
GoesOn _ = ⊥

-- this was the last, and the line went on behind all before it
pub record EndsIn (last : Took) (entries : List Took) : Type 0 where
  pub before : List Took
  pub is : entries ≡ last ∷ before
  pub going : All GoesOn before

-- as many were taken as the queue has slots, and the line goes on
pub record TakesSlots (slots : ℕ) (entries : List Took) : Type 0 where
  pub full : length entries ≡ slots
  pub going : All GoesOn entries

-- A line ends once it has as many answers as it wants, or nothing is left to come; or where it is told that its server unit is gone.
abbrev pub EndsTaking : (count taken slots : ℕ) → List Took → ClientState → Step → Type 0
EndsTaking count taken slots entries s (steps.Ends (outcomes.Took n)) =
    (n ≡ taken) × (((entries ≡ []) × (count ≤ taken)) ⊎ ((EndsIn tooks.Answer entries × (taken ≡ count)) ⊎ (EndsIn tooks.Nothing entries × (s.outgoing ≡ []))))
EndsTaking count taken slots entries s (steps.Ends (outcomes.TookThenLost n)) = (n ≡ taken) × EndsIn tooks.Lost entries
EndsTaking count taken slots entries s (steps.Ends outcome) = ⊥
EndsTaking count taken slots entries s (steps.Waits did) =
    EndsIn tooks.InUse entries ⊎ ((EndsIn tooks.Nothing entries × (s.outgoing ≢ [])) ⊎ (TakesSlots slots entries × (did ≡ moves.Moved)))

-- A line took entries, having taken so many answers before, until it ended so.
pub record TakesForLine (count taken taken' : ℕ) (old new : Acting) (step : Step) : Type 0 where
  pub entries : List Took
  pub each : TakesEach entries old new
  pub more : taken' ≡ taken + answers_in entries
  pub ends : EndsTaking count taken' old.ports.crq.place.own_slots entries new.client step

-- Behind the last line entries are taken.
pub record TakesRest (old new : Acting) : Type 0 where
  pub entries : List Took
  pub each : TakesEach entries old new

-- THE OWN REGION ----------------------------------------------------------------------------------

-- Neither the client nor its queue is touched.
pub record StaysAside (old new : Acting) : Type 0 where
  pub client : StaysClient old new
  pub crq : new.ports.crq ≡ old.ports.crq

-- Bytes were written into the own region, under the mark of the line, or were not.
pub record WritesRegion (line at : ℕ) (bytes : List ℕ) (old new : Acting) (step : Step) : Type 0 where
  pub aside : StaysAside old new
  pub rest : OnlyWrites old.ports.own new.ports.own
  pub lays : LaysJust old.ports.own_shared old.ports.own new.ports.own line (Some (record { at = at; bytes = bytes })) (Ok step)
  pub says : AnswersWrite old.ports.own_shared old.ports.own new.ports.own at bytes line step

-- A value was put into one of its entries, or was not, and no stroke was laid.
pub record PutsValue (entry value : ℕ) (old new : Acting) (step : Step) : Type 0 where
  pub aside : StaysAside old new
  pub window : KeepsWindow old.ports.own_shared old.ports.own new.ports.own
  pub lays : LaysNoStroke old.ports.own_shared old.ports.own new.ports.own
  pub says : AnswersPut old.ports.own new.ports.own entry value step

-- The region was read, and nothing else was done.
pub record ReadsRegion (old new : Acting) : Type 0 where
  pub aside : StaysAside old new
  pub rest : OnlyReads old.ports.own_shared old.ports.own new.ports.own

-- what a line says of a command's data: how many bytes there are, and their sum, or why there are none
abbrev pub SaysData : Result (List ℕ) DataFault → Step → Type 0
SaysData (Ok bytes) step = step ≡ steps.Ends (outcomes.Data (length bytes) (sum bytes))
SaysData (Err faults.Unknown) step = step ≡ steps.Ends outcomes.Unknown
SaysData (Err (faults.Stale page)) step = step ≡ steps.Ends (outcomes.Stale page)
SaysData (Err (faults.InUse page word)) step = IsWaiting step
SaysData (Err faults.NoMemory) step = ⊥

-- The data of the command with this tag were read, or were not.
pub record ReadsData (tag : ℕ) (old new : Acting) (step : Step) : Type 0 where
  pub reads : ReadsRegion old new
  pub answer : Result (List ℕ) DataFault
  pub unknown : IsErrOf answer faults.Unknown ↔ (data_range old.client tag ≡ None)
  pub given : IfOk answer
      (λ bytes. IfSome (data_range old.client tag) (λ range. GivesData (name_of old.client tag) old.ports.own_shared range old.ports.own new.ports.own bytes))
  pub why : IfErr answer (WhyNoData (name_of old.client tag) old.ports.own_shared (data_range old.client tag) old.ports.own new.ports.own)
  pub says : SaysData answer step

-- So was a range of it.
pub record ShowsRegion (at len : ℕ) (old new : Acting) (step : Step) : Type 0 where
  pub reads : ReadsRegion old new
  pub says : AnswersRead old.ports.own new.ports.own at len step

-- A LINE ------------------------------------------------------------------------------------------

-- What a step of a line does is what its verb says.
abbrev pub ActsFor : (line : ℕ) → Verb → (p p' : Progress) → (old new : Acting) → Step → Type 0
ActsFor line verbs.Login p p' old new step = LogsInOnce line old new step
ActsFor line verbs.Reset p p' old new step = ResetsOnce line p p' old new step
ActsFor line verbs.Logout p p' old new step = LogsOutOnce line old new step
ActsFor line (verbs.Task function tag) p p' old new step = TasksOnce line function tag old new step
ActsFor line (verbs.Take count) p p' old new step = TakesForLine count (taken_in p) (taken_in p') old new step
ActsFor line (verbs.Data tag) p p' old new step = ReadsData tag old new step
ActsFor line (verbs.Peek at len) p p' old new step = ShowsRegion at len old new step
ActsFor line (verbs.Fill at len seed) p p' old new step = WritesRegion line at (pattern seed len) old new step
ActsFor line (verbs.Poke at bytes) p p' old new step = WritesRegion line at bytes old new step
ActsFor line (verbs.Tce entry page readable writable) p p' old new step = PutsValue entry (tce_of page readable writable) old new step
ActsFor line verb p p' old new step = CommandsOnce line verb old new step
