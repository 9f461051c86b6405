-- What a run answers: the text that belongs to its words, to the bytes that it read, and to its image.
use Rattle.std.specs.Prelude.{◌≡◌, ◌≢◌, ℕ, ◌+◌, ◌≤◌, ◌^◌, ◌⊎◌, List, Option, Some, None, IfSome, IsSome, length}
use Rattle.std.specs.Bool.{⊤}
use Rattle.std.specs.Io.KnownBytes.{Consumes, IsAtEnd}
use Rattle.boot_text.specs.BootText.{plan_of, refused, SaysPlan}
use Rattle.boot_text.specs.declared.cause.Cause.{Cause}
use Rattle.boot_text.specs.declared.plan.Plan.{Plan}
use Rattle.boot_text.specs.declared.read.TheConstants.{MOST_TEXT}
use Rattle.vcpu_run.specs.Caused.{LeadsCaused, RowsAreInForm}
use Rattle.vcpu_run.specs.OnDisk.{LeadsOn}
use Rattle.vcpu_run.specs.RunLaw.{KeepsLaw}
use Rattle.vio_io.specs.Image.{ImageState, AreWhole}
use Rattle.vio_num.specs.Counts.{Rose}
use Rattle.vio_trace.specs.declared.rows.Trace.{Trace}
use Rattle.vio_trace.specs.Form.{IsTextOf}
use Rattle.paprvio.specs.declared.status.Status.{Status}
use Rattle.paprvio.specs.declared.status.Status.TheVariants.{Done, Usage, Refused, SourceFailed, ImageFailed, NoMemory}
use Rattle.paprvio.specs.declared.request.Request.{Request}
use Rattle.paprvio.specs.declared.request.Request.TheVariants.{Run, Generate, Summarize}
use Rattle.paprvio.specs.Generated.{generated}
use Rattle.paprvio.specs.SeedPlan.{generated_plan}
use Rattle.paprvio.specs.Words.{asked}
use Rattle.paprvio.specs.Ending.{Outside, EndsAs}
use Rattle.paprvio.specs.Status.{status_code}
use Rattle.paprvio.specs.Texts.{usage_text, refused_text, summary_text, too_long_text}

-- the words ask for the run of the boot text that the source gives
abbrev pub IsRun : Option Request → Type 0
IsRun (Some (Run workers)) = ⊤
IsRun _ = ⊥

abbrev pub AreRun : List (List ℕ) → Type 0
AreRun words = IsRun (asked words)

-- for a seed's boot text, and for the summary of its run
abbrev pub IsGenerate : Option Request → Type 0
IsGenerate (Some (Generate seed)) = ⊤
IsGenerate _ = ⊥

abbrev pub IsSummarize : Option Request → Type 0
IsSummarize (Some (Summarize seed workers)) = ⊤
IsSummarize _ = ⊥

-- for the run of some plan
abbrev pub RunsPlan : Option Request → Type 0
RunsPlan (Some (Run workers)) = ⊤
RunsPlan (Some (Summarize seed workers)) = ⊤
RunsPlan _ = ⊥

-- the boot text says this plan
abbrev pub Says : (boot : List ℕ) → Plan → Type 0
Says boot plan = SaysPlan (plan_of boot) plan

-- A trace that keeps the law of a run of the plan, whose rows of served requests lead from the blocks of the image to those that
-- it then has, each with a cause that the trace shows; an image that told its blocks still tells them. Whatever it tells, each row that is
-- answered is in form, on a disk of as many blocks as the image had.
pub record IsTraceOn (plan : Plan) (image image' : ImageState) (trace : Trace) : Type 0 where
  pub lawful : KeepsLaw plan trace
  pub served : LeadsOn trace.serves image.blocks image'.blocks
  pub caused : LeadsCaused plan.partitions trace image.blocks image'.blocks
  pub tells : IfSome image.blocks (λ blocks. IsSome image'.blocks)
  pub formed : RowsAreInForm plan.partitions trace image.size

-- the text of such a trace
pub record IsTraceOf (plan : Plan) (image image' : ImageState) (text : List ℕ) : Type 0 where
  pub trace : Trace
  pub ran : IsTraceOn plan image image' trace
  pub spelled : IsTextOf trace text

-- the image has blocks that can be counted: 1 to 2^48, each whole
pub record IsCounted (image : ImageState) : Type 0 where
  pub some : 1 ≤ image.size
  pub few : image.size ≤ 2 ^ 48
  pub whole : IfSome image.blocks AreWhole

-- the refusal of a boot text that says no plan
pub record IsFaulty (boot text : List ℕ) : Type 0 where
  pub line : ℕ
  pub cause : Cause
  pub refusal : plan_of boot ≡ refused line cause
  pub told : text ≡ refused_text line cause

-- the source was read to its end, and gave these bytes
pub record ReadWhole (old new : Option (List ℕ)) (boot : List ℕ) : Type 0 where
  pub read : Consumes old new boot
  pub end : IsAtEnd new

-- the source gave one byte more than a boot text's length, and was read no further
pub record ReadTooMuch (old new : Option (List ℕ)) : Type 0 where
  pub bytes : List ℕ
  pub read : Consumes old new bytes
  pub long : length bytes ≡ MOST_TEXT + 1

-- the source was read to its end, and its bytes say this plan
pub record GivesPlan (old new : Option (List ℕ)) (plan : Plan) : Type 0 where
  pub boot : List ℕ
  pub whole : ReadWhole old new boot
  pub says : Says boot plan

-- the words and the source ask for the run of a plan: of the source's, or of a seed's
abbrev pub AsksFor : Option Request → (old new : Option (List ℕ)) → Type 0
AsksFor (Some (Run workers)) old new = (plan : Plan) × GivesPlan old new plan
AsksFor (Some (Summarize seed workers)) old new = (plan : Plan) × Says (generated seed) plan
AsksFor _ old new = ⊥

abbrev pub AsksForRun : List (List ℕ) → (old new : Option (List ℕ)) → Type 0
AsksForRun words old new = AsksFor (asked words) old new

-- the run was done: the source gave a plan, the image was counted, and the text is that of a trace of the plan
pub record IsDone (old new : Option (List ℕ)) (image image' : ImageState) (text : List ℕ) : Type 0 where
  pub plan : Plan
  pub gives : GivesPlan old new plan
  pub counted : IsCounted image
  pub trace : IsTraceOf plan image image' text

pub record IsRefusedWhole (old new : Option (List ℕ)) (text : List ℕ) : Type 0 where
  pub boot : List ℕ
  pub whole : ReadWhole old new boot
  pub refusal : IsFaulty boot text

pub record IsRefusedLong (old new : Option (List ℕ)) (text : List ℕ) : Type 0 where
  pub long : ReadTooMuch old new
  pub told : text ≡ too_long_text

abbrev pub IsBootRefused : Option (List ℕ) → Option (List ℕ) → List ℕ → Type 0
IsBootRefused old new text = IsRefusedWhole old new text ⊎ IsRefusedLong old new text

-- the summary of such a trace
pub record IsSummaryOf (plan : Plan) (image image' : ImageState) (text : List ℕ) : Type 0 where
  pub trace : Trace
  pub ran : IsTraceOn plan image image' trace
  pub told : text ≡ summary_text trace

-- A seed's boot text says its plan, whose run was done and summed up.
pub record IsSummed (seed : ℕ) (image image' : ImageState) (text : List ℕ) : Type 0 where
  pub says : Says (generated seed) (generated_plan seed)
  pub counted : IsCounted image
  pub summary : IsSummaryOf (generated_plan seed) image image' text

-- The text of what was asked for and done. The source had `old` left before and `new` behind the run; the image was `image` before,
-- and is `image'`.
abbrev pub IsDoneAs : Option Request → (old new : Option (List ℕ)) → (image image' : ImageState) → List ℕ → Type 0
IsDoneAs (Some (Run workers)) old new image image' text = IsDone old new image image' text
IsDoneAs (Some (Generate seed)) old new image image' text = text ≡ generated seed
IsDoneAs (Some (Summarize seed workers)) old new image image' text = IsSummed seed image image' text
IsDoneAs None old new image image' text = ⊥

-- the refusal of the boot text that the source gave: that of a seed is never refused
abbrev pub IsRefusedAs : Option Request → (old new : Option (List ℕ)) → List ℕ → Type 0
IsRefusedAs (Some (Run workers)) old new text = IsBootRefused old new text
IsRefusedAs _ old new text = ⊥

-- the text that belongs to a run: the usage alone for words that ask for nothing
abbrev pub RunAnswer : List (List ℕ) → (old new : Option (List ℕ)) → (image image' : ImageState) → Status → List ℕ → Type 0
RunAnswer words old new image image' Done text = IsDoneAs (asked words) old new image image' text
RunAnswer words old new image image' Usage text = (asked words ≡ None) × (text ≡ usage_text)
RunAnswer words old new image image' Refused text = IsRefusedAs (asked words) old new text
RunAnswer words old new image image' _ text = ⊥

-- a run of these words ended with this status, and did what belongs to it
abbrev pub RunEndsWith : List (List ℕ) → Status → Outside → Outside → Type 0
RunEndsWith words status old new = EndsAs (RunAnswer words old.left new.left old.image new.image) status old new

-- the exit status of a run, and what it did to its source, its sink and its image
pub record RunEndsAs (words : List (List ℕ)) (code : ℕ) (old new : Outside) : Type 0 where
  pub status : Status
  pub said : code ≡ status_code status
  pub ends : RunEndsWith words status old new

-- what an exit status says of the words, whatever happened outside
pub record FitsWords (words : List (List ℕ)) (code : ℕ) : Type 0 where
  pub done : code ≡ status_code Done → asked words ≢ None
  pub usage : code ≡ status_code Usage → asked words ≡ None
  pub refused : code ≡ status_code Refused → AreRun words
  pub source_failed : code ≡ status_code SourceFailed → AreRun words
  pub image_failed : code ≡ status_code ImageFailed → RunsPlan (asked words)

-- the exit status of a run that wrote nothing
abbrev pub IsUnwritten : ℕ → Type 0
IsUnwritten code = (code ≡ status_code SourceFailed) ⊎ (code ≡ status_code ImageFailed)

-- the exit status of a run that made no call on its image
abbrev pub IsUnrun : ℕ → Type 0
IsUnrun code = (code ≡ status_code Usage) ⊎ ((code ≡ status_code Refused) ⊎ (code ≡ status_code SourceFailed))

-- it has this exit status, or found no memory
abbrev pub IsOrStarved : ℕ → Status → Type 0
IsOrStarved code status = (code ≡ status_code status) ⊎ (code ≡ status_code NoMemory)

-- where neither source nor sink failed, words and bytes decide the exit status: that of other words, of a seed's text, of a boot
-- text that says a plan, where the image did not fail as its blocks were counted, and of one that says none.
pub record MustEndAs (words : List (List ℕ)) (code : ℕ) (old new : Outside) : Type 0 where
  pub usage : asked words ≡ None → ¬ Rose old.sink_faults new.sink_faults → IsOrStarved code Usage
  pub generated : IsGenerate (asked words) → ¬ Rose old.sink_faults new.sink_faults → IsOrStarved code Done
  pub summed : IsSummarize (asked words) → ¬ Rose old.sink_faults new.sink_faults
      → (code ≡ status_code ImageFailed) ⊎ IsOrStarved code Done
  pub done : AreRun words → ¬ Rose old.source_faults new.source_faults → ¬ Rose old.sink_faults new.sink_faults
      → IfSome old.left (λ boot. (plan : Plan) → Says boot plan → (code ≡ status_code ImageFailed) ⊎ IsOrStarved code Done)
  pub refused : AreRun words → ¬ Rose old.source_faults new.source_faults → ¬ Rose old.sink_faults new.sink_faults
      → IfSome old.left (λ boot. ((plan : Plan) → ¬ Says boot plan) → IsOrStarved code Refused)
