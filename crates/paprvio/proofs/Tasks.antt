-- From what is to be done to what a run answers.
use Rattle.std.proofs.Common.{◌≡◌, ℕ, List, Option, Some, None, Result, Ok, Err, IfOk, IsErrOf, sym, subst}
use Rattle.boot_text.specs.Sound.{IsSound}
use Rattle.boot_text.specs.declared.plan.Plan.{Plan}
use Rattle.vio_io.specs.Image.{ImageState}
use Rattle.paprvio.specs.declared.answer.Answer.{Answer}
use Rattle.paprvio.specs.declared.request.Request.{Request}
use Rattle.paprvio.specs.declared.request.Request.TheVariants.{Run, Generate, Summarize}
use Rattle.paprvio.specs.declared.status.Status.{Status}
use Rattle.paprvio.specs.declared.status.Status.TheVariants.{Done, Usage, Refused, SourceFailed, SinkFailed, ImageFailed, NoMemory}
use Rattle.paprvio.specs.declared.stop.Stop.{Stop}
use Rattle.paprvio.specs.declared.stop.Stop.TheVariants as stops
use Rattle.paprvio.specs.declared.task.Task.{Task}
use Rattle.paprvio.specs.declared.task.Task.TheVariants as tasks
use Rattle.paprvio.specs.declared.telling.Telling.{Telling}
use Rattle.paprvio.specs.declared.telling.Telling.TheVariants as tellings
use Rattle.paprvio.specs.Answer.{answer_status, answer_text, BootAnswer, BootTask, IsAnswerTo, IsToldOf, OwnTask, RequestAnswer, SourceAnswer, SourceTask, SumsUp, TellsOf, WordsTask}
use Rattle.paprvio.specs.Generated.{generated}
use Rattle.paprvio.specs.Run.{AreRun, GivesPlan, IsCounted, IsDoneAs, IsBootRefused, IsRefusedAs, IsRun, IsSummaryOf, RunAnswer, Says}
use Rattle.paprvio.specs.Words.{asked}
use Rattle.paprvio.proofs.SeedRead.{never_refused, plan_is}

-- the boot text of a seed is to be run, or is refused
boot_answer : (seed workers : ℕ) (status : Status) (text : List ℕ) → BootAnswer (generated seed) status text → RequestAnswer (Some (Summarize seed workers)) None None status text
boot_answer seed workers Refused text told = absurd (never_refused seed told.line told.cause told.refusal)
boot_answer seed workers Done text told = absurd told
boot_answer seed workers Usage text told = absurd told
boot_answer seed workers SourceFailed text told = absurd told
boot_answer seed workers SinkFailed text told = absurd told
boot_answer seed workers ImageFailed text told = absurd told
boot_answer seed workers NoMemory text told = absurd told

pub own_of_boot : (seed workers : ℕ) (task : Task) → BootTask (generated seed) tellings.Summary task → OwnTask (Some (Summarize seed workers)) task
own_of_boot seed workers (tasks.Run plan tellings.Whole) boot = absurd (cc)
own_of_boot seed workers (tasks.Run plan tellings.Summary) boot = (boot.1, boot.2)
own_of_boot seed workers (tasks.Tell answer) boot = boot_answer seed workers (answer_status answer) (answer_text answer) boot

-- what the source gives belongs to words that ask for it
run_refuses : (request : Option Request) (old new : Option (List ℕ)) (text : List ℕ) → IsRun request → IsBootRefused old new text → IsRefusedAs request old new text
run_refuses None old new text run told = absurd run
run_refuses (Some (Run workers)) old new text run told = told
run_refuses (Some (Generate seed)) old new text run told = absurd run
run_refuses (Some (Summarize seed workers)) old new text run told = absurd run

source_answer : (request : Option Request) (old new : Option (List ℕ)) (status : Status) (text : List ℕ) → IsRun request → SourceAnswer old new status text
    → RequestAnswer request old new status text
source_answer request old new Refused text run told = run_refuses request old new text run told
source_answer request old new Done text run told = absurd told
source_answer request old new Usage text run told = absurd told
source_answer request old new SourceFailed text run told = absurd told
source_answer request old new SinkFailed text run told = absurd told
source_answer request old new ImageFailed text run told = absurd told
source_answer request old new NoMemory text run told = absurd told

pub words_of_source : (words : List (List ℕ)) (old new : Option (List ℕ)) (task : Task) → AreRun words → SourceTask old new task → WordsTask words old new task
words_of_source words old new (tasks.Run plan tellings.Whole) run source = (run, source.1, source.2)
words_of_source words old new (tasks.Run plan tellings.Summary) run source = absurd (cc)
words_of_source words old new (tasks.Tell answer) run source = source_answer (asked words) old new (answer_status answer) (answer_text answer) run source

-- what asks nothing of the source belongs to the words, whatever it gave
own_refuses : (request : Option Request) (old new : Option (List ℕ)) (text : List ℕ) → ¬ IsRun request → IsRefusedAs request None None text → IsRefusedAs request old new text
own_refuses None old new text other told = told
own_refuses (Some (Run workers)) old new text other told = absurd (other tt)
own_refuses (Some (Generate seed)) old new text other told = told
own_refuses (Some (Summarize seed workers)) old new text other told = told

own_answer : (request : Option Request) (old new : Option (List ℕ)) (status : Status) (text : List ℕ) → ¬ IsRun request → RequestAnswer request None None status text
    → RequestAnswer request old new status text
own_answer request old new Refused text other told = own_refuses request old new text other told
own_answer request old new Done text other told = told
own_answer request old new Usage text other told = told
own_answer request old new SourceFailed text other told = told
own_answer request old new SinkFailed text other told = told
own_answer request old new ImageFailed text other told = told
own_answer request old new NoMemory text other told = told

own_to_words : (request : Option Request) (words : List (List ℕ)) (old new : Option (List ℕ)) (task : Task) → ¬ IsRun request → OwnTask request task → asked words ≡ request
    → WordsTask words old new task
own_to_words request words old new (tasks.Run plan tellings.Whole) other own is = absurd own
own_to_words request words old new (tasks.Run plan tellings.Summary) other own is = (subst (λ r. SumsUp r plan) (sym is) own.0, own.1)
own_to_words request words old new (tasks.Tell answer) other own is =
    subst (λ r. RequestAnswer r old new (answer_status answer) (answer_text answer)) (sym is)
    (own_answer request old new (answer_status answer) (answer_text answer) other own)

pub words_of_own : (words : List (List ℕ)) (request : Option Request) (old new : Option (List ℕ)) (task : Task) → request ≡ asked words → ¬ IsRun request → OwnTask request task
    → WordsTask words old new task
words_of_own words request old new task is other own = own_to_words request words old new task other own (sym is)

-- a plan that is to be run is sound
pub sound_of : (words : List (List ℕ)) (old new : Option (List ℕ)) (plan : Plan) (telling : Telling) → WordsTask words old new (tasks.Run plan telling) → IsSound plan
sound_of words old new plan tellings.Whole task = task.2
sound_of words old new plan tellings.Summary task = task.1

-- what is told without a run
told_done : (request : Option Request) (old new : Option (List ℕ)) (image image' : ImageState) (text : List ℕ) → RequestAnswer request old new Done text → IsDoneAs request old new image image' text
told_done None old new image image' text told = absurd told
told_done (Some (Run workers)) old new image image' text told = absurd told
told_done (Some (Generate seed)) old new image image' text told = told
told_done (Some (Summarize seed workers)) old new image image' text told = absurd told

told_as : (words : List (List ℕ)) (old new : Option (List ℕ)) (image image' : ImageState) (status : Status) (text : List ℕ) → RequestAnswer (asked words) old new status text
    → RunAnswer words old new image image' status text
told_as words old new image image' Done text told = told_done (asked words) old new image image' text told
told_as words old new image image' Usage text told = told
told_as words old new image image' Refused text told = told
told_as words old new image image' SourceFailed text told = absurd told
told_as words old new image image' SinkFailed text told = absurd told
told_as words old new image image' ImageFailed text told = absurd told
told_as words old new image image' NoMemory text told = absurd told

pub answers_told : (words : List (List ℕ)) (old new : Option (List ℕ)) (image image' : ImageState) (answer : Answer) → WordsTask words old new (tasks.Tell answer)
    → IsAnswerTo words old new image image' answer
answers_told words old new image image' answer told = told_as words old new image image' (answer_status answer) (answer_text answer) told

-- what is told of a run
run_did : (request : Option Request) (old new : Option (List ℕ)) (image image' : ImageState) (plan : Plan) (text : List ℕ) → IsRun request → GivesPlan old new plan → IsCounted image
    → IsToldOf tellings.Whole plan image image' text → IsDoneAs request old new image image' text
run_did None old new image image' plan text run gives counted told = absurd run
run_did (Some (Run workers)) old new image image' plan text run gives counted told = record { plan = plan; gives = gives; counted = counted; trace = told }
run_did (Some (Generate seed)) old new image image' plan text run gives counted told = absurd run
run_did (Some (Summarize seed workers)) old new image image' plan text run gives counted told = absurd run

sum_did : (request : Option Request) (old new : Option (List ℕ)) (image image' : ImageState) (plan : Plan) (text : List ℕ) → SumsUp request plan → IsCounted image
    → IsToldOf tellings.Summary plan image image' text → IsDoneAs request old new image image' text
sum_did None old new image image' plan text sums counted told = absurd sums
sum_did (Some (Run workers)) old new image image' plan text sums counted told = absurd sums
sum_did (Some (Generate seed)) old new image image' plan text sums counted told = absurd sums
sum_did (Some (Summarize seed workers)) old new image image' plan text sums counted told = record {
  says = subst (λ (p : Plan). Says (generated seed) p) (plan_is seed plan sums) sums;
  counted = counted;
  summary = subst (λ (p : Plan). IsSummaryOf p image image' text) (plan_is seed plan sums) told;
}

done_as : (words : List (List ℕ)) (old new : Option (List ℕ)) (image image' : ImageState) (status : Status) (text : List ℕ) → status ≡ Done → IsDoneAs (asked words) old new image image' text
    → RunAnswer words old new image image' status text
done_as words old new image image' status text is done = subst (λ s. RunAnswer words old new image image' s text) (sym is) done

pub answers_run : (words : List (List ℕ)) (old new : Option (List ℕ)) (image image' : ImageState) (plan : Plan) (telling : Telling) (answer : Answer)
    → WordsTask words old new (tasks.Run plan telling) → IsCounted image → TellsOf telling plan image image' answer → IsAnswerTo words old new image image' answer
answers_run words old new image image' plan tellings.Whole answer task counted tells =
    done_as words old new image image' (answer_status answer) (answer_text answer) tells.0
    (run_did (asked words) old new image image' plan (answer_text answer) task.0 task.1 counted tells.1)
answers_run words old new image image' plan tellings.Summary answer task counted tells =
    done_as words old new image image' (answer_status answer) (answer_text answer) tells.0
    (sum_did (asked words) old new image image' plan (answer_text answer) task.0 counted tells.1)

-- what a run answers, where it stops for no want
pub ran : (words : List (List ℕ)) (old new : Option (List ℕ)) (image image' : ImageState) (plan : Plan) (telling : Telling) (result : Result Answer Stop)
    → WordsTask words old new (tasks.Run plan telling) → (¬ IsErrOf result stops.ImageFailed → IsCounted image) → IfOk result (TellsOf telling plan image image')
    → IfOk result (IsAnswerTo words old new image image')
ran words old new image image' plan telling (Ok answer) task counted told = answers_run words old new image image' plan telling answer task (counted (λ e. absurd (cc))) told
ran words old new image image' plan telling (Err stop) task counted told = tt
