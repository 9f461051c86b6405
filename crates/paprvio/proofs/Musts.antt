-- From how a run ends to which status it must have.
use Rattle.std.proofs.Common.{◌≡◌, ◌≤◌, ℕ, Bool, if◌then◌else◌, List, [], ◌++◌, length, Option, Some, None, IfSome, ◌⊎◌, inl, inr, refl, sym, ◌∙◌, ap, subst, arith, length-append}
use Rattle.std.specs.Bool.{⊤}
use Rattle.std.proofs.lemmas.Bool.{lt-ltb}
use Rattle.std.proofs.lemmas.List.{append-nil}
use Rattle.vio_num.specs.Counts.{Rose}
use Rattle.boot_text.specs.BootText.{Reading, accepted, refused, read_from, plan_of, SaysPlan}
use Rattle.boot_text.specs.SoFar.{nothing}
use Rattle.boot_text.specs.Words.{lines_of}
use Rattle.boot_text.specs.declared.cause.Cause.{Cause}
use Rattle.boot_text.specs.declared.cause.Cause.TheVariants as causes
use Rattle.boot_text.specs.declared.plan.Plan.{Plan}
use Rattle.paprvio.specs.declared.status.Status.{Status}
use Rattle.paprvio.specs.declared.status.Status.TheVariants.{Done, Usage, Refused, SourceFailed, SinkFailed, ImageFailed, NoMemory}
use Rattle.paprvio.specs.Words.{asked}
use Rattle.paprvio.specs.declared.request.Request.{Request}
use Rattle.paprvio.specs.declared.request.Request.TheVariants.{Run, Generate, Summarize}
use Rattle.vio_io.specs.Image.{ImageState}
use Rattle.paprvio.proofs.Endings.{asks_runs, done_asks, refused_runs}
use Rattle.paprvio.specs.Ending.{Outside, EndsAs}
use Rattle.paprvio.specs.Run.{AreRun, AsksFor, AsksForRun, GivesPlan, IsDone, IsDoneAs, IsGenerate, IsRefusedAs, IsRun, IsSummarize, RunsPlan, ReadWhole, ReadTooMuch, IsFaulty, IsBootRefused, Says, RunAnswer, RunEndsWith, IsOrStarved, MustEndAs}
use Rattle.paprvio.specs.Status.{status_code}

-- a source that told its bytes and was read to its end gave them all
whole_text : (text boot : List ℕ) (new : Option (List ℕ)) → ReadWhole (Some text) new boot → boot ≡ text
whole_text text boot None whole = absurd whole.read
whole_text text boot (Some left) whole =
    let none : left ≡ [] = whole.end in
    let read : text ≡ boot ++ left = whole.read in
    sym (subst (λ (xs : List ℕ). text ≡ boot ++ xs) none read ∙ append-nil boot)

-- one that was read too far told more
longer : (text : List ℕ) (new : Option (List ℕ)) → ReadTooMuch (Some text) new → 1048577 ≤ length text
longer text None long = absurd long.read
longer text (Some left) long =
    let read : text ≡ long.bytes ++ left = long.read in
    let count = long.long in
    rw read (omega (arith, length-append long.bytes left, count))

abbrev IsAccepted : Reading → Type 0
IsAccepted (accepted rounds grant partitions) = ⊤
IsAccepted (refused line cause) = ⊥

-- a text that says a plan is not refused
not_faulty : (line : ℕ) (cause : Cause) (reading : Reading) (plan : Plan) → reading ≡ refused line cause → ¬ SaysPlan reading plan
not_faulty line cause reading plan is says = subst IsAccepted (sym says ∙ is) tt

long_text : (text : List ℕ) → 1048577 ≤ length text → plan_of text ≡ refused 0 causes.TooLong
long_text text long =
    ap (λ (is_long : Bool). if is_long then refused 0 causes.TooLong else read_from 1 nothing (lines_of text)) (lt-ltb 1048576 (length text) long)

-- a text that says a plan has no refusal
not_boot_refusal : (text out : List ℕ) (plan : Plan) → Says text plan → ¬ IsFaulty text out
not_boot_refusal text out plan is faulty = not_faulty faulty.line faulty.cause (plan_of text) plan faulty.refusal is

not_refused : (text out : List ℕ) (new : Option (List ℕ)) (plan : Plan) → Says text plan → ¬ IsBootRefused (Some text) new out
not_refused text out new plan is (inl short) =
    not_boot_refusal text out plan is (subst (λ (boot : List ℕ). IsFaulty boot out) (whole_text text short.boot new short.whole) short.refusal)
not_refused text out new plan is (inr long) =
    not_faulty 0 causes.TooLong (plan_of text) plan (long_text text (longer text new long.long)) is

-- a text that says none gives none
gives_none : (text : List ℕ) (new : Option (List ℕ)) (plan : Plan) → ((plan : Plan) → ¬ Says text plan) → ¬ GivesPlan (Some text) new plan
gives_none text new plan none gives =
    none plan (subst (λ (boot : List ℕ). Says boot plan) (whole_text text gives.boot new gives.whole) gives.says)

-- what belongs to a request for the source's boot text
run_done : (request : Option Request) (left left' : Option (List ℕ)) (image image' : ImageState) (text : List ℕ) → IsRun request → IsDoneAs request left left' image image' text
    → IsDone left left' image image' text
run_done None left left' image image' text run done = absurd run
run_done (Some (Run workers)) left left' image image' text run done = done
run_done (Some (Generate seed)) left left' image image' text run done = absurd run
run_done (Some (Summarize seed workers)) left left' image image' text run done = absurd run

run_refused : (request : Option Request) (left left' : Option (List ℕ)) (text : List ℕ) → IsRun request → IsRefusedAs request left left' text → IsBootRefused left left' text
run_refused None left left' text run told = absurd run
run_refused (Some (Run workers)) left left' text run told = told
run_refused (Some (Generate seed)) left left' text run told = absurd run
run_refused (Some (Summarize seed workers)) left left' text run told = absurd run

run_gives : (request : Option Request) (left left' : Option (List ℕ)) → IsRun request → AsksFor request left left' → (plan : Plan) × GivesPlan left left' plan
run_gives None left left' run asks = absurd run
run_gives (Some (Run workers)) left left' run asks = asks
run_gives (Some (Generate seed)) left left' run asks = absurd run
run_gives (Some (Summarize seed workers)) left left' run asks = absurd run

-- a seed's text is not refused, and no image is counted for it
generate_not_refused : (request : Option Request) (left left' : Option (List ℕ)) (text : List ℕ) → IsGenerate request → ¬ IsRefusedAs request left left' text
generate_not_refused None left left' text generate told = generate
generate_not_refused (Some (Run workers)) left left' text generate told = generate
generate_not_refused (Some (Generate seed)) left left' text generate told = told
generate_not_refused (Some (Summarize seed workers)) left left' text generate told = generate

generate_asks_none : (request : Option Request) (left left' : Option (List ℕ)) → IsGenerate request → ¬ AsksFor request left left'
generate_asks_none None left left' generate asks = generate
generate_asks_none (Some (Run workers)) left left' generate asks = generate
generate_asks_none (Some (Generate seed)) left left' generate asks = asks
generate_asks_none (Some (Summarize seed workers)) left left' generate asks = generate

generate_is_no_run : (request : Option Request) → IsGenerate request → ¬ IsRun request
generate_is_no_run None generate run = run
generate_is_no_run (Some (Run workers)) generate run = generate
generate_is_no_run (Some (Generate seed)) generate run = run
generate_is_no_run (Some (Summarize seed workers)) generate run = run

summarize_is_no_run : (request : Option Request) → IsSummarize request → ¬ IsRun request
summarize_is_no_run None summarize run = run
summarize_is_no_run (Some (Run workers)) summarize run = summarize
summarize_is_no_run (Some (Generate seed)) summarize run = run
summarize_is_no_run (Some (Summarize seed workers)) summarize run = run

-- other words
usage_said : (words : List (List ℕ)) (status : Status) (old new : Outside) → RunEndsWith words status old new
    → (status ≡ SourceFailed → AreRun words) → (status ≡ ImageFailed → AsksForRun words old.left new.left)
    → asked words ≡ None → ¬ Rose old.sink_faults new.sink_faults → IsOrStarved (status_code status) Usage
usage_said words Done old new ends read runs other sink =
    absurd (done_asks (asked words) old.left new.left old.image new.image ends.text ends.belongs other)
usage_said words Usage old new ends read runs other sink = inl refl
usage_said words Refused old new ends read runs other sink = absurd (subst IsRun other (refused_runs (asked words) old.left new.left ends.text ends.belongs))
usage_said words SourceFailed old new ends read runs other sink = absurd (subst IsRun other (read refl))
usage_said words SinkFailed old new ends read runs other sink = absurd (sink ends.sink_faults)
usage_said words ImageFailed old new ends read runs other sink = absurd (subst RunsPlan other (asks_runs (asked words) old.left new.left (runs refl)))
usage_said words NoMemory old new ends read runs other sink = inr refl

-- a seed's text
generated_said : (words : List (List ℕ)) (status : Status) (old new : Outside) → RunEndsWith words status old new
    → (status ≡ SourceFailed → AreRun words) → (status ≡ ImageFailed → AsksForRun words old.left new.left)
    → IsGenerate (asked words) → ¬ Rose old.sink_faults new.sink_faults → IsOrStarved (status_code status) Done
generated_said words Done old new ends read runs generate sink = inl refl
generated_said words Usage old new ends read runs generate sink = absurd (subst IsGenerate ends.belongs.0 generate)
generated_said words Refused old new ends read runs generate sink =
    absurd (generate_not_refused (asked words) old.left new.left ends.text generate ends.belongs)
generated_said words SourceFailed old new ends read runs generate sink = absurd (generate_is_no_run (asked words) generate (read refl))
generated_said words SinkFailed old new ends read runs generate sink = absurd (sink ends.sink_faults)
generated_said words ImageFailed old new ends read runs generate sink = absurd (generate_asks_none (asked words) old.left new.left generate (runs refl))
generated_said words NoMemory old new ends read runs generate sink = inr refl

-- the summary of a seed's run
summed_said : (words : List (List ℕ)) (status : Status) (old new : Outside) → RunEndsWith words status old new → (status ≡ SourceFailed → AreRun words)
    → IsSummarize (asked words) → ¬ Rose old.sink_faults new.sink_faults
    → (status_code status ≡ status_code ImageFailed) ⊎ IsOrStarved (status_code status) Done
summed_said words Done old new ends read summarize sink = inr (inl refl)
summed_said words Usage old new ends read summarize sink = absurd (subst IsSummarize ends.belongs.0 summarize)
summed_said words Refused old new ends read summarize sink =
    absurd (summarize_is_no_run (asked words) summarize (refused_runs (asked words) old.left new.left ends.text ends.belongs))
summed_said words SourceFailed old new ends read summarize sink = absurd (summarize_is_no_run (asked words) summarize (read refl))
summed_said words SinkFailed old new ends read summarize sink = absurd (sink ends.sink_faults)
summed_said words ImageFailed old new ends read summarize sink = inl refl
summed_said words NoMemory old new ends read summarize sink = inr (inr refl)

-- a boot text that says a plan
done_said : (words : List (List ℕ)) (status : Status) (old new : Outside) (boot : List ℕ) (plan : Plan)
    → EndsAs (RunAnswer words (Some boot) new.left old.image new.image) status old new → AreRun words → ¬ Rose old.source_faults new.source_faults
    → ¬ Rose old.sink_faults new.sink_faults → Says boot plan
    → (status_code status ≡ status_code ImageFailed) ⊎ IsOrStarved (status_code status) Done
done_said words Done old new boot plan ends run source sink is = inr (inl refl)
done_said words Usage old new boot plan ends run source sink is = absurd (subst IsRun ends.belongs.0 run)
done_said words Refused old new boot plan ends run source sink is = absurd (not_refused boot ends.text new.left plan is (run_refused (asked words) (Some boot) new.left ends.text run ends.belongs))
done_said words SourceFailed old new boot plan ends run source sink is = absurd (source ends.source_faults)
done_said words SinkFailed old new boot plan ends run source sink is = absurd (sink ends.sink_faults)
done_said words ImageFailed old new boot plan ends run source sink is = inl refl
done_said words NoMemory old new boot plan ends run source sink is = inr (inr refl)

-- a boot text that says none
refused_said : (words : List (List ℕ)) (status : Status) (old new : Outside) (boot : List ℕ)
    → EndsAs (RunAnswer words (Some boot) new.left old.image new.image) status old new → (status ≡ ImageFailed → AsksForRun words (Some boot) new.left)
    → AreRun words → ¬ Rose old.source_faults new.source_faults → ¬ Rose old.sink_faults new.sink_faults
    → ((plan : Plan) → ¬ Says boot plan) → IsOrStarved (status_code status) Refused
refused_said words Done old new boot ends runs run source sink none =
    let done = run_done (asked words) (Some boot) new.left old.image new.image ends.text run ends.belongs in
    absurd (gives_none boot new.left done.plan none done.gives)
refused_said words Usage old new boot ends runs run source sink none = absurd (subst IsRun ends.belongs.0 run)
refused_said words Refused old new boot ends runs run source sink none = inl refl
refused_said words SourceFailed old new boot ends runs run source sink none = absurd (source ends.source_faults)
refused_said words SinkFailed old new boot ends runs run source sink none = absurd (sink ends.sink_faults)
refused_said words ImageFailed old new boot ends runs run source sink none =
    let gives = run_gives (asked words) (Some boot) new.left run (runs refl) in
    absurd (gives_none boot new.left gives.0 none gives.1)
refused_said words NoMemory old new boot ends runs run source sink none = inr refl

done_if_told : (words : List (List ℕ)) (status : Status) (old new : Outside) (left : Option (List ℕ))
    → EndsAs (RunAnswer words left new.left old.image new.image) status old new → AreRun words → ¬ Rose old.source_faults new.source_faults
    → ¬ Rose old.sink_faults new.sink_faults
    → IfSome left (λ boot. (plan : Plan) → Says boot plan → (status_code status ≡ status_code ImageFailed) ⊎ IsOrStarved (status_code status) Done)
done_if_told words status old new None ends run source sink = tt
done_if_told words status old new (Some boot) ends run source sink = λ plan is. done_said words status old new boot plan ends run source sink is

refused_if_told : (words : List (List ℕ)) (status : Status) (old new : Outside) (left : Option (List ℕ))
    → EndsAs (RunAnswer words left new.left old.image new.image) status old new → (status ≡ ImageFailed → AsksForRun words left new.left)
    → AreRun words → ¬ Rose old.source_faults new.source_faults → ¬ Rose old.sink_faults new.sink_faults
    → IfSome left (λ boot. ((plan : Plan) → ¬ Says boot plan) → IsOrStarved (status_code status) Refused)
refused_if_told words status old new None ends runs run source sink = tt
refused_if_told words status old new (Some boot) ends runs run source sink = λ none. refused_said words status old new boot ends runs run source sink none

-- which status a run must have
pub must_end : (words : List (List ℕ)) (status : Status) (old new : Outside) → RunEndsWith words status old new
    → (status ≡ SourceFailed → AreRun words) → (status ≡ ImageFailed → AsksForRun words old.left new.left)
    → MustEndAs words (status_code status) old new
must_end words status old new ends read runs = record {
  usage = λ other sink. usage_said words status old new ends read runs other sink;
  generated = λ generate sink. generated_said words status old new ends read runs generate sink;
  summed = λ summarize sink. summed_said words status old new ends read summarize sink;
  done = λ run source sink. done_if_told words status old new old.left ends run source sink;
  refused = λ run source sink. refused_if_told words status old new old.left ends runs run source sink;
}
