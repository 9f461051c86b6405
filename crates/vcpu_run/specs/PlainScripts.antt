-- Plain clients at their pairs and in their scripts: how far the lines of each came, as the replay of them says, between turns.
use Rattle.std.specs.Prelude.{◌≡◌, ◌≢◌, ◌⊎◌, ◌+◌, ◌≤◌, ℕ, Bool, true, false, All, IfOk, IfSome, IsSomeAnd, List, [], ◌∷◌, Option, Some, None, Result, length, slice_get, ◌==◌}
use Rattle.vio_num.specs.declared.hypervisor.Moved.TheVariants.{Quiet}
use Rattle.vio_num.specs.declared.memory.NoMemory.{NoMemory}
use Rattle.boot_text.specs.declared.plan.Line.{Line}
use Rattle.boot_text.specs.declared.verb.Verb.{Verb}
use Rattle.boot_text.specs.declared.verb.Verb.TheVariants as verbs
use Rattle.vio_num.specs.declared.names.UnitId.{UnitId}
use Rattle.crq_session.specs.PlainState.{side_of}
use Rattle.unit_region.specs.declared.step.Step.{Step}
use Rattle.unit_region.specs.declared.step.Step.TheVariants as steps
use Rattle.tce_window.specs.PlainPort.{known_of}
use Rattle.block_server.specs.Talk.{Word}
use Rattle.block_server.specs.Talk.Word.{gone}
use Rattle.block_server.specs.declared.unit.Unit.{Unit}
use Rattle.vscsi_client.specs.State.{new_client}
use Rattle.vcpu_run.specs.Credited.{Ended, ended_by}
use Rattle.vcpu_run.specs.PlainClients.{IsPlainClient, granted_in, keeps_own}
use Rattle.vcpu_run.specs.NotedOn.{AllKeepNoted}
use Rattle.vcpu_run.specs.PlainPairs.{between_of}
use Rattle.vcpu_run.specs.PlainSteps.{AsksAnew, FollowsReplay, HasCome, IsPlainVerb, SparesTables, StepTells, granted_by, WasFailed, RestsAs}
use Rattle.vcpu_run.specs.PlainTalk.{Between, HasRights, TalksPlainly, owes}
use Rattle.vcpu_run.specs.Replay.{IsReplayed, Replay, after_line, before_lines, ends_as}
use Rattle.vcpu_run.specs.Works.{fails}
use Rattle.vcpu_run.specs.declared.driver.Driver.{Driver}
use Rattle.vcpu_run.specs.declared.pair.Pair.{Pair}
use Rattle.vcpu_run.specs.declared.script.Progress.{Progress}
use Rattle.vcpu_run.specs.declared.script.Script.{Script}
use Rattle.vcpu_run.specs.declared.unit_seat.Seat.{Seat}
use Rattle.vcpu_run.specs.declared.unit_seat.Seat.TheVariants as sits
use Rattle.vcpu_run.specs.PlainNoted.{NotesLaid}
use Rattle.vcpu_run.specs.PlainRejected.{TellsOf}
use Rattle.vio_trace.specs.declared.rows.AnswerRow.{AnswerRow}

-- AT A PAIR ---------------------------------------------------------------------------------------

-- the client of a pair, which has one, and this server unit talk plainly, and these words are to come
abbrev pub PairTalks : (granted : ℕ) → Unit → List Word → Pair → Type 0
PairTalks granted unit words pair = IsSomeAnd pair.driver (λ driver. TalksPlainly granted (between_of unit driver pair) words)

-- P of the client of a pair and its queue, whatever its server unit is
abbrev pub PairIs : (P : Between → Type 0) → Pair → Type 0
PairIs P pair = IsSomeAnd pair.driver (λ driver. (unit : Unit) → P (between_of unit driver pair))

-- The server unit is yet to hear of something, or to serve something.
abbrev pub HasWork : Unit → List Word → Type 0
HasWork unit words = (words ≢ []) ⊎ (unit.pending.items ≢ [])

-- A line that ends has the outcome of the replay, if it has one there, and leaves what is left by it; one that waits, and has an outcome
-- there, does so only for what the server unit has to do, and put nothing where it says that it did nothing.
abbrev pub PairSteppedAs : (granted : ℕ) → Unit → Verb → Progress → Replay → Pair → List Word → Step → Type 0
PairSteppedAs granted unit verb p now pair words (steps.Ends outcome) =
    IfSome (ends_as granted (length pair.window.pages) now verb) (λ said. outcome ≡ said)
    × PairIs (FollowsReplay granted (after_line granted (length pair.window.pages) now verb)) pair
PairSteppedAs granted unit verb p now pair words (steps.Waits did) =
    PairIs (HasCome granted verb p now) pair
    × IfSome (ends_as granted (length pair.window.pages) now verb) (λ said. HasWork unit words)
    × (did ≡ Quiet → words ≡ [])

-- how many things a client asked for
abbrev pub rows_in : Option Driver → ℕ
rows_in None = 0
rows_in (Some driver) = length driver.client.rows

-- since it had asked for so many, it asked for what these words do
abbrev pub PairAsks : (last : ℕ) → List Word → Pair → Type 0
PairAsks last words pair = IsSomeAnd pair.driver (λ driver. AsksAnew last driver.client words)

-- how many logins the client of a pair is owed
abbrev pub owes_to : Unit → List Word → Option Driver → Pair → ℕ
owes_to unit words None pair = 0
owes_to unit words (Some driver) pair = owes (between_of unit driver pair) words

abbrev pub owes_at : Unit → List Word → Pair → ℕ
owes_at unit words pair = owes_to unit words pair.driver pair

-- the answers that the client of a pair noted
abbrev pub answers_in : Option Driver → List AnswerRow
answers_in None = []
answers_in (Some driver) = driver.answers.items

-- those that it noted behind these, another unit laid in its region
abbrev pub PairNotes : (before : List AnswerRow) → Pair → Type 0
PairNotes before pair = NotesLaid pair.window.unit (known_of pair.window).strokes before (answers_in pair.driver)

-- if the driver's pages had all rights, they have them
abbrev pub PairKeepsRights : (old new : Pair) → Type 0
PairKeepsRights old new = HasRights (known_of old.window) → HasRights (known_of new.window)

pub record PairSteppedOn (granted : ℕ) (unit : Unit) (verb : Verb) (p : Progress) (now : Replay) (old new : Pair) (step : Step) : Type 0 where
  pub words : List Word
  pub talks : PairTalks granted unit words new
  pub anew : PairAsks (rows_in old.driver) words new
  pub stepped : PairSteppedAs granted unit verb p now new words step
  pub told : granted_by step + owes_at unit words new ≤ owes_at unit [] old
  pub laid : StepTells verb step unit.id (known_of new.window).strokes
  pub noted : PairNotes (answers_in old.driver) new
  pub rights : keeps_own verb ≡ true → PairKeepsRights old new

-- A step of a plain line at its pair goes on as the replay, where nothing is to come to the server unit.
abbrev pub PairPlainly : Verb → (p p' : Progress) → (old new : Pair) → Result Step NoMemory → Type 0
PairPlainly verb p p' old new result =
    IsPlainVerb verb → (granted : ℕ) (unit : Unit) (now : Replay) → SparesTables verb now → PairTalks granted unit [] old → PairIs (HasCome granted verb p now) old
    → IfOk result (PairSteppedOn granted unit verb p' now old new)

-- Behind the last line answers are taken, and nothing is asked.
abbrev pub PairRestsPlainly : (old new : Pair) → Type 0
PairRestsPlainly old new = (granted : ℕ) (unit : Unit) (now : Replay) → PairTalks granted unit [] old → PairIs (RestsAs granted now) old
    → PairTalks granted unit [] new × PairAsks (rows_in old.driver) [] new × (later : Replay) × PairIs (RestsAs granted later) new
    × ((before : List AnswerRow) → PairNotes before old → PairNotes before new)
    × PairKeepsRights old new

-- The partition fails: the client's queue is freed, if it is registered, of which its server unit is to hear; or all is as it was. It asks
-- for nothing.
pub record PairFailed (granted : ℕ) (unit : Unit) (words : List Word) (old new : Pair) : Type 0 where
  pub later : List Word
  pub talks : PairTalks granted unit later new
  pub said : (later ≡ words) ⊎ (later ≡ gone ∷ [])
  pub rows : rows_in new.driver ≡ rows_in old.driver
  pub answers : answers_in new.driver ≡ answers_in old.driver
  pub left : ((new ≡ old) × (later ≡ words)) ⊎ PairIs WasFailed new
  pub rights : PairKeepsRights old new

abbrev pub PairFailsPlainly : (old new : Pair) → Type 0
PairFailsPlainly old new = (granted : ℕ) (unit : Unit) (words : List Word) → PairTalks granted unit words old
    → ((words ≡ []) × ((side_of old.link false).registered ≡ true)) ⊎ PairIs WasFailed old → PairFailed granted unit words old new

-- The client and its server unit talk on as they did, also where its partition failed; the rights of the driver's pages stay.
abbrev pub PairTalksOn : (old new : Pair) → Type 0
PairTalksOn old new = (granted : ℕ) (unit : Unit) → PairTalks granted unit [] old
    → PairTalks granted unit [] new × (PairIs WasFailed old → PairIs WasFailed new) × PairKeepsRights old new

-- the same of all pairs, and of the pair of a line's client
abbrev pub AllRestPlainly : (old new : List Pair) → Type 0
AllRestPlainly old new = (k : ℕ) (before after : Pair) → slice_get old k ≡ Some before → slice_get new k ≡ Some after → PairRestsPlainly before after

abbrev pub AllFailPlainly : (old new : List Pair) → Type 0
AllFailPlainly old new = (k : ℕ) (before after : Pair) → slice_get old k ≡ Some before → slice_get new k ≡ Some after → PairFailsPlainly before after

abbrev pub AllTalkOn : (old new : List Pair) → Type 0
AllTalkOn old new = (k : ℕ) (before after : Pair) → slice_get old k ≡ Some before → slice_get new k ≡ Some after → PairTalksOn before after

abbrev pub SeatPlainly : (seat : ℕ) → Verb → (p p' : Progress) → (old new : List Pair) → Result Step NoMemory → Type 0
SeatPlainly seat verb p p' old new result =
    (before after : Pair) → slice_get old seat ≡ Some before → slice_get new seat ≡ Some after → PairPlainly verb p p' before after result

abbrev pub LinePlainly : List Seat → Line → (p p' : Progress) → (old new : List Pair) → Result Step NoMemory → Type 0
LinePlainly seats line p p' old new result = (k : ℕ) → slice_get seats line.unit ≡ Some (sits.Client k) → SeatPlainly k line.verb p p' old new result

-- IN A SCRIPT -------------------------------------------------------------------------------------

-- what is left by the lines of a client that ended
abbrev pub after_ended : (granted pages : ℕ) → Replay → List Ended → Replay
after_ended granted pages now [] = now
after_ended granted pages now (ended ∷ more) = after_ended granted pages (after_line granted pages now ended.verb) more

-- the one of a line of the unit, the other of another's
abbrev pub OfUnit : (own : Bool) → (P Q : Type 0) → Type 0
OfUnit true P Q = P
OfUnit false P Q = Q

-- How far the current line came, if there is one and it is of this unit; else the client stands between two lines. Behind the last line it
-- takes what answers there are. A line that fails the partition may have freed the client's queue.
abbrev pub StandsAt : (granted unit : ℕ) → Option Line → Progress → Replay → Pair → Type 0
StandsAt granted unit None p now pair = (later : Replay) × PairIs (RestsAs granted later) pair
StandsAt granted unit (Some line) p now pair =
    OfUnit (line.unit == unit) (PairIs (HasCome granted line.verb p now) pair) (PairIs (FollowsReplay granted now) pair)
    ⊎ ((fails line.verb ≡ true) × PairIs WasFailed pair)

-- The lines of unit u that ended did so as the replay says, and its client stands as these and its current line leave it.
pub record StandsPlainly (granted u : ℕ) (script : Script) (pair : Pair) : Type 0 where
  pub replayed : IsReplayed granted (length pair.window.pages) before_lines (ended_by u script.lines.now script.logs.items)
  pub stands : StandsAt granted u (slice_get script.lines.now script.at) script.progress
      (after_ended granted (length pair.window.pages) before_lines (ended_by u script.lines.now script.logs.items)) pair

-- A pair before the first turn: its client has done nothing, and its queue is not registered.
pub record StartsAnew (pair : Pair) : Type 0 where
  pub driver : Driver
  pub driver_is : pair.driver ≡ Some driver
  pub server : UnitId
  pub client : driver.client ≡ new_client driver.unit server
  pub queue : (side_of pair.link false).registered ≡ false

-- the same at pair k
abbrev pub StandsPlainlyAt : (granted u k : ℕ) → List Pair → Script → Type 0
StandsPlainlyAt granted u k pairs script = IsSomeAnd (slice_get pairs k) (StandsPlainly granted u script)

-- the lines of a unit that ended
abbrev pub told_in : (u : ℕ) → Script → List Ended
told_in u script = ended_by u script.lines.now script.logs.items

-- whether a line may wait for an answer
abbrev pub awaits : Verb → Bool
awaits verbs.Login = true
awaits verbs.Reset = true
awaits (verbs.Take count) = true
awaits verb = false

-- No line of unit u waits for an answer.
abbrev pub NoneAwaits : (u : ℕ) → Script → Type 0
NoneAwaits u script = IfSome (slice_get script.lines.now script.at) (λ line. line.unit ≡ u → awaits line.verb ≡ false)

-- A line that waited was ended, which was none of unit u: its lines that ended are as they were, and so stands its client.
abbrev pub EndsPlainly : (granted u k : ℕ) → List Pair → (script script' : Script) → Type 0
EndsPlainly granted u k pairs script script' = NoneAwaits u script → StandsPlainlyAt granted u k pairs script
    → StandsPlainlyAt granted u k pairs script' × (told_in u script' ≡ told_in u script)

-- a plain client of a script, which is unit u and sits at pair k
pub record IsPlainSeat (script : Script) (u k : ℕ) : Type 0 where
  pub sits : slice_get script.seats.items u ≡ Some (sits.Client k)
  pub plain : IsPlainClient u script.lines.now

-- A turn of a script leaves each plain client as the replay says, where it and this server unit talk plainly and nothing is to come; a login
-- that its lines say was granted is one that it was owed, and it is owed no other; and one that they say was rejected, the server unit
-- rejected; what answers its client noted, another unit laid in its region; and the driver's pages keep all rights. (These lines ended
-- before.)
pub record TurnedPlainly (granted : ℕ) (told : List Ended) (u k : ℕ) (unit : Unit) (old new : List Pair) (script : Script) : Type 0 where
  pub words : List Word
  pub talks : IsSomeAnd (slice_get new k) (PairTalks granted unit words)
  pub anew : (before after : Pair) → slice_get old k ≡ Some before → slice_get new k ≡ Some after → PairAsks (rows_in before.driver) words after
  pub owed : (before after : Pair) → slice_get old k ≡ Some before → slice_get new k ≡ Some after
      → granted_in (told_in u script) + owes_at unit words after ≤ granted_in told + owes_at unit [] before
  pub laid : (before after : Pair) → slice_get old k ≡ Some before → slice_get new k ≡ Some after
      → All (TellsOf unit.id (known_of before.window).strokes) told → All (TellsOf unit.id (known_of after.window).strokes) (told_in u script)
  pub noted : (before after : Pair) → slice_get old k ≡ Some before → slice_get new k ≡ Some after → PairNotes (answers_in before.driver) after
  pub keeps : AllKeepNoted old new
  pub rights : (before after : Pair) → slice_get old k ≡ Some before → slice_get new k ≡ Some after → PairKeepsRights before after
  pub stands : StandsPlainlyAt granted u k new script

abbrev pub TurnsPlainly : (old new : List Pair) → (script script' : Script) → Type 0
TurnsPlainly old new script script' = (granted u k : ℕ) (unit : Unit) → IsPlainSeat script u k → IsSomeAnd (slice_get old k) (PairTalks granted unit [])
    → StandsPlainlyAt granted u k old script → TurnedPlainly granted (told_in u script) u k unit old new script'

-- One that did nothing, where the server unit has nothing to serve, leaves no line of a plain client that waits.
abbrev pub QuietsPlainly : (old new : List Pair) → (script script' : Script) → Type 0
QuietsPlainly old new script script' = (granted u k : ℕ) (unit : Unit) → IsPlainSeat script u k → IsSomeAnd (slice_get old k) (PairTalks granted unit [])
    → StandsPlainlyAt granted u k old script → unit.pending.items ≡ [] → NoneAwaits u script'
