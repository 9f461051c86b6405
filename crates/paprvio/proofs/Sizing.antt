-- What was said of an image whose blocks were counted is so of it as it was before.
use Rattle.std.proofs.Common.{◌≡◌, ℕ, List, [], Option, Some, None, Result, Ok, Err, IfOk, IfSome, IsSome, ap, refl, subst, sym}
use Rattle.vio_io.specs.Image.{ImageState, after_sizing}
use Rattle.boot_text.specs.declared.plan.Plan.{Plan}
use Rattle.vcpu_run.specs.Caused.{LeadsCaused, RowsAreInForm}
use Rattle.vcpu_run.specs.OnDisk.{IsServed, LeadsOn}
use Rattle.vio_trace.specs.declared.rows.Trace.{Trace}
use Rattle.paprvio.specs.declared.answer.Answer.{Answer}
use Rattle.paprvio.specs.declared.stop.Stop.{Stop}
use Rattle.paprvio.specs.declared.telling.Telling.{Telling}
use Rattle.paprvio.specs.declared.telling.Telling.TheVariants as tellings
use Rattle.paprvio.specs.Answer.{IsToldOf, TellsOf}
use Rattle.paprvio.specs.Run.{IsTraceOn}

trace_sized : (plan : Plan) (image counted image' : ImageState) (trace : Trace) → counted ≡ after_sizing image → IsTraceOn plan counted image' trace
    → IsTraceOn plan image image' trace
trace_sized plan image counted image' trace same is = record {
  lawful = is.lawful;
  served = subst (λ (blocks : Option (List (List ℕ))). LeadsOn trace.serves blocks image'.blocks) (ap (λ (s : ImageState). s.blocks) same) is.served;
  caused = subst (λ (blocks : Option (List (List ℕ))). LeadsCaused plan.partitions trace blocks image'.blocks) (ap (λ (s : ImageState). s.blocks) same) is.caused;
  tells = subst (λ (blocks : Option (List (List ℕ))). IfSome blocks (λ all. IsSome image'.blocks)) (ap (λ (s : ImageState). s.blocks) same) is.tells;
  formed = subst (RowsAreInForm plan.partitions trace) (ap (λ (s : ImageState). s.size) same) is.formed;
}

told_sized : (telling : Telling) (plan : Plan) (image counted image' : ImageState) (text : List ℕ) → counted ≡ after_sizing image
    → IsToldOf telling plan counted image' text → IsToldOf telling plan image image' text
told_sized tellings.Whole plan image counted image' text same is =
    record { trace = is.trace; ran = trace_sized plan image counted image' is.trace same is.ran; spelled = is.spelled }
told_sized tellings.Summary plan image counted image' text same is =
    record { trace = is.trace; ran = trace_sized plan image counted image' is.trace same is.ran; told = is.told }

pub answer_sized : (telling : Telling) (plan : Plan) (image counted image' : ImageState) (answer : Result Answer Stop) → counted ≡ after_sizing image
    → IfOk answer (TellsOf telling plan counted image') → IfOk answer (TellsOf telling plan image image')
answer_sized telling plan image counted image' (Ok answer) same is = (is.0, told_sized telling plan image counted image' _ same is.1)
answer_sized telling plan image counted image' (Err stop) same is = tt

-- an image whose blocks stayed
pub served_same : (now now' : Option (List (List ℕ))) → now' ≡ now → IsServed now now'
served_same None now' same = tt
served_same (Some blocks) now' same = subst (λ later. IsServed (Some blocks) later) (sym same) ∣ ([], refl) ∣₁

pub served_sized : (image counted image' : ImageState) → counted ≡ after_sizing image → IsServed counted.blocks image'.blocks
    → IsServed image.blocks image'.blocks
served_sized image counted image' same is =
    subst (λ (blocks : Option (List (List ℕ))). IsServed blocks image'.blocks) (ap (λ (s : ImageState). s.blocks) same) is
