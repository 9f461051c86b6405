-- What a run answers: the status that it has and the text that it writes.
use Rattle.std.specs.Prelude.{◌≡◌, ℕ, List, Option, Some, None}
use Rattle.boot_text.specs.Sound.{IsSound}
use Rattle.boot_text.specs.declared.plan.Plan.{Plan}
use Rattle.vio_io.specs.Image.{ImageState}
use Rattle.paprvio.specs.declared.answer.Answer.{Answer}
use Rattle.paprvio.specs.declared.answer.Answer.TheVariants as answers
use Rattle.paprvio.specs.declared.status.Status.{Status}
use Rattle.paprvio.specs.declared.status.Status.TheVariants.{Done, Usage, Refused, SourceFailed, ImageFailed, NoMemory}
use Rattle.paprvio.specs.declared.request.Request.{Request}
use Rattle.paprvio.specs.declared.request.Request.TheVariants as requests
use Rattle.paprvio.specs.declared.telling.Telling.{Telling}
use Rattle.paprvio.specs.declared.telling.Telling.TheVariants as tellings
use Rattle.paprvio.specs.Generated.{generated}
use Rattle.paprvio.specs.Words.{asked}
use Rattle.paprvio.specs.declared.stop.Stop.{Stop}
use Rattle.paprvio.specs.declared.stop.Stop.TheVariants as stops
use Rattle.paprvio.specs.declared.task.Task.{Task}
use Rattle.paprvio.specs.declared.task.Task.TheVariants as tasks
use Rattle.paprvio.specs.Run.{AreRun, GivesPlan, IsFaulty, IsBootRefused, IsRefusedAs, IsSummaryOf, IsTraceOf, RunAnswer, Says}
use Rattle.paprvio.specs.Texts.{summary_text, too_long_text, usage_text}
use Rattle.vio_trace.specs.Form.{IsTextOf}
use Rattle.vio_trace.specs.Text.{trace_text}
use Rattle.vio_trace.specs.declared.rows.Trace.{Trace}

abbrev pub answer_status : Answer → Status
answer_status answers.Usage = Usage
answer_status answers.TooLong = Refused
answer_status (answers.Refused text) = Refused
answer_status (answers.Trace trace) = Done
answer_status (answers.Generated text) = Done
answer_status (answers.Summary text) = Done

abbrev pub answer_text : Answer → List ℕ
answer_text answers.Usage = usage_text
answer_text answers.TooLong = too_long_text
answer_text (answers.Refused text) = text.items
answer_text (answers.Trace trace) = trace_text trace
answer_text (answers.Generated text) = text.items
answer_text (answers.Summary text) = text.items

-- this answer belongs to these words, to what the source gave, and to the image before and after
abbrev pub IsAnswerTo : List (List ℕ) → (old new : Option (List ℕ)) → (image image' : ImageState) → Answer → Type 0
IsAnswerTo words old new image image' answer = RunAnswer words old new image image' (answer_status answer) (answer_text answer)

-- what is told of a trace: its text, or its summary
abbrev pub IsToldOfTrace : Telling → Trace → List ℕ → Type 0
IsToldOfTrace tellings.Whole trace text = IsTextOf trace text
IsToldOfTrace tellings.Summary trace text = text ≡ summary_text trace

-- what is told of a run of this plan over an image
abbrev pub IsToldOf : Telling → Plan → (image image' : ImageState) → List ℕ → Type 0
IsToldOf tellings.Whole plan image image' text = IsTraceOf plan image image' text
IsToldOf tellings.Summary plan image image' text = IsSummaryOf plan image image' text

-- the answer tells it
abbrev pub TellsOf : Telling → Plan → (image image' : ImageState) → Answer → Type 0
TellsOf telling plan image image' answer = (answer_status answer ≡ Done) × IsToldOf telling plan image image' (answer_text answer)

-- the text that belongs to a boot text that is refused
abbrev pub BootAnswer : List ℕ → Status → List ℕ → Type 0
BootAnswer boot Refused text = IsFaulty boot text
BootAnswer boot _ text = ⊥

-- what is to be done with a boot text: its plan is run, or its refusal is told
abbrev pub BootTask : List ℕ → Telling → Task → Type 0
BootTask boot asked_telling (tasks.Run plan telling) = (telling ≡ asked_telling) × Says boot plan × IsSound plan
BootTask boot asked_telling (tasks.Tell answer) = BootAnswer boot (answer_status answer) (answer_text answer)

-- the text that belongs to what a source gave, where no plan is run
abbrev pub SourceAnswer : Option (List ℕ) → Option (List ℕ) → Status → List ℕ → Type 0
SourceAnswer old new Refused text = IsBootRefused old new text
SourceAnswer old new _ text = ⊥

-- what is to be done with what a source gave
abbrev pub SourceTask : Option (List ℕ) → Option (List ℕ) → Task → Type 0
SourceTask old new (tasks.Run plan telling) = (telling ≡ tellings.Whole) × GivesPlan old new plan × IsSound plan
SourceTask old new (tasks.Tell answer) = SourceAnswer old new (answer_status answer) (answer_text answer)

-- the text of a seed
abbrev pub IsGeneratedFor : Option Request → List ℕ → Type 0
IsGeneratedFor (Some (requests.Generate seed)) text = text ≡ generated seed
IsGeneratedFor _ text = ⊥

-- the text that belongs to a request and to what the source gave, where no plan is run
abbrev pub RequestAnswer : Option Request → (old new : Option (List ℕ)) → Status → List ℕ → Type 0
RequestAnswer request old new Done text = IsGeneratedFor request text
RequestAnswer request old new Usage text = (request ≡ None) × (text ≡ usage_text)
RequestAnswer request old new Refused text = IsRefusedAs request old new text
RequestAnswer request old new _ text = ⊥

abbrev pub WordsAnswer : List (List ℕ) → (old new : Option (List ℕ)) → Status → List ℕ → Type 0
WordsAnswer words = RequestAnswer (asked words)

-- a seed's boot text says this plan
abbrev pub SumsUp : Option Request → Plan → Type 0
SumsUp (Some (requests.Summarize seed workers)) plan = Says (generated seed) plan
SumsUp _ plan = ⊥

-- what is to be done where the source is not asked
abbrev pub OwnTask : Option Request → Task → Type 0
OwnTask request (tasks.Run plan tellings.Whole) = ⊥
OwnTask request (tasks.Run plan tellings.Summary) = SumsUp request plan × IsSound plan
OwnTask request (tasks.Tell answer) = RequestAnswer request None None (answer_status answer) (answer_text answer)

-- what these words ask for
abbrev pub WordsTask : List (List ℕ) → (old new : Option (List ℕ)) → Task → Type 0
WordsTask words old new (tasks.Run plan tellings.Whole) = AreRun words × GivesPlan old new plan × IsSound plan
WordsTask words old new (tasks.Run plan tellings.Summary) = SumsUp (asked words) plan × IsSound plan
WordsTask words old new (tasks.Tell answer) = WordsAnswer words old new (answer_status answer) (answer_text answer)

-- the status of a run that stopped before it had an answer
abbrev pub stop_status : Stop → Status
stop_status stops.SourceFailed = SourceFailed
stop_status stops.ImageFailed = ImageFailed
stop_status stops.NoMemory = NoMemory
