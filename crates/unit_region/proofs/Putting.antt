-- What a step of a line puts into the entries of its window: nothing, but one value where the line says so.
use Rattle.std.proofs.Common.{◌≡◌, ◌∙◌, ℕ, ◌*◌, ◌/◌, ◌==◌, ◌++◌, Bool, false, cond, List, [], ◌∷◌, Result, Ok, Err, IfOk, refl, sym, ap, subst, arith, append-nil}
use Rattle.vio_num.specs.declared.hypervisor.Hrc.TheVariants as codes
use Rattle.vio_num.specs.declared.memory.NoMemory.{NoMemory}
use Rattle.boot_text.specs.declared.verb.Verb.{Verb}
use Rattle.boot_text.specs.declared.verb.Verb.TheVariants as verbs
use Rattle.tce_window.specs.PortState.{PortState, Puts}
use Rattle.vio_trace.specs.declared.outcome.Outcome.{Outcome}
use Rattle.vio_trace.specs.declared.outcome.Outcome.TheVariants as outcomes
use Rattle.unit_region.specs.Answers.{AnswersPut, tce_of}
use Rattle.unit_region.specs.LinePuts.{StepPuts, is_put, put_by}
use Rattle.unit_region.specs.declared.step.Step.{Step}
use Rattle.unit_region.specs.declared.step.Step.TheVariants as steps

-- a line that puts no value
pub none_put : (e : ℕ) (verb : Verb) (outcome : Outcome) → is_put verb ≡ false → put_by e verb outcome ≡ []
none_put e verbs.Login outcome isnt = refl
none_put e verbs.Reset outcome isnt = refl
none_put e verbs.Logout outcome isnt = refl
none_put e verbs.Tur outcome isnt = refl
none_put e (verbs.Read lba blocks at pieces table) outcome isnt = refl
none_put e (verbs.Write lba blocks at pieces table) outcome isnt = refl
none_put e (verbs.Command cdb) outcome isnt = refl
none_put e (verbs.CommandIn cdb at len pieces table) outcome isnt = refl
none_put e (verbs.CommandOut cdb at len pieces table) outcome isnt = refl
none_put e (verbs.Task function of) outcome isnt = refl
none_put e (verbs.Take count) outcome isnt = refl
none_put e (verbs.Data of) outcome isnt = refl
none_put e verbs.Open outcome isnt = refl
none_put e verbs.Close outcome isnt = refl
none_put e (verbs.Post at len count) outcome isnt = refl
none_put e (verbs.Send to len seed at) outcome isnt = refl
none_put e (verbs.ChangeMac own) outcome isnt = refl
none_put e (verbs.Multicast control group) outcome isnt = refl
none_put e (verbs.Fill at len seed) outcome isnt = refl
none_put e (verbs.Poke at bytes) outcome isnt = refl
none_put e (verbs.Peek at len) outcome isnt = refl
none_put e (verbs.Tce entry page readable writable) outcome isnt = absurd (cc)
none_put e (verbs.Hcall number arguments) outcome isnt = refl
none_put e verbs.Fail outcome isnt = refl

pub same_puts : (verb : Verb) (result : Result Step NoMemory) (old new : ℕ → List ℕ) → is_put verb ≡ false → new ≡ old → IfOk result (λ step. StepPuts verb step old new)
same_puts verb (Ok (steps.Ends outcome)) old new isnt same =
    λ e. ap (λ (v : ℕ → List ℕ). v e) same ∙ (sym (append-nil (old e)) ∙ ap (λ list. old e ++ list) (sym (none_put e verb outcome isnt)))
same_puts verb (Ok (steps.Waits did)) old new isnt same = λ e. ap (λ (v : ℕ → List ℕ). v e) same
same_puts verb (Err memory) old new isnt same = tt

-- a line that puts one
one_put : (entry tce e : ℕ) (old new : PortState) → Puts old (4096 * entry) (tce ∷ []) new → new.values e ≡ old.values e ++ cond (entry == e) (tce ∷ []) []
one_put entry tce e old new is =
    let at : 4096 * entry / 4096 ≡ entry = omega arith in
    is.values e ∙ ap (λ n. old.values e ++ cond (n == e) (tce ∷ []) []) at

none_more : (entry e : ℕ) (old new : PortState) → Puts old (4096 * entry) [] new → new.values e ≡ old.values e ++ []
none_more entry e old new is = is.values e

line_put : (entry page : ℕ) (readable writable : Bool) (old new : PortState) (outcome : Outcome) → AnswersPut old new entry (tce_of page readable writable) (steps.Ends outcome)
    → (e : ℕ) → new.values e ≡ old.values e ++ put_by e (verbs.Tce entry page readable writable) outcome
line_put entry page readable writable old new (outcomes.Granted credits) answer e = absurd answer
line_put entry page readable writable old new (outcomes.Sent tag) answer e = absurd answer
line_put entry page readable writable old new (outcomes.Took count) answer e = absurd answer
line_put entry page readable writable old new outcomes.Lost answer e = absurd answer
line_put entry page readable writable old new (outcomes.TookThenLost count) answer e = absurd answer
line_put entry page readable writable old new (outcomes.Rejected reason) answer e = absurd answer
line_put entry page readable writable old new outcomes.Unanswered answer e = absurd answer
line_put entry page readable writable old new outcomes.Range answer e = absurd answer
line_put entry page readable writable old new outcomes.NotLoggedIn answer e = absurd answer
line_put entry page readable writable old new (outcomes.NoCredit limit) answer e = absurd answer
line_put entry page readable writable old new (outcomes.Overlap tag) answer e = absurd answer
line_put entry page readable writable old new outcomes.Closed answer e = absurd answer
line_put entry page readable writable old new (outcomes.Dropped number held) answer e = absurd answer
line_put entry page readable writable old new (outcomes.Data size sum) answer e = absurd answer
line_put entry page readable writable old new (outcomes.Stale page_is) answer e = absurd answer
line_put entry page readable writable old new outcomes.Unknown answer e = absurd answer
line_put entry page readable writable old new (outcomes.Code codes.Success) answer e = one_put entry (tce_of page readable writable) e old new answer.1
line_put entry page readable writable old new (outcomes.Code codes.Parameter) answer e = none_more entry e old new answer.1
line_put entry page readable writable old new (outcomes.Code codes.Busy) answer e = absurd answer
line_put entry page readable writable old new (outcomes.Code codes.Closed) answer e = absurd answer
line_put entry page readable writable old new (outcomes.Code codes.Function) answer e = absurd answer
line_put entry page readable writable old new (outcomes.Code codes.NotFound) answer e = absurd answer
line_put entry page readable writable old new (outcomes.Code codes.Dropped) answer e = absurd answer
line_put entry page readable writable old new (outcomes.Code codes.SourceParm) answer e = absurd answer
line_put entry page readable writable old new (outcomes.Code codes.DestParm) answer e = absurd answer
line_put entry page readable writable old new (outcomes.Code codes.Resource) answer e = absurd answer
line_put entry page readable writable old new (outcomes.Value value) answer e = absurd answer
line_put entry page readable writable old new (outcomes.Posted buffers code) answer e = absurd answer
line_put entry page readable writable old new (outcomes.Frame code number) answer e = absurd answer
line_put entry page readable writable old new outcomes.Done answer e = absurd answer
line_put entry page readable writable old new (outcomes.Bytes shown) answer e = absurd answer

pub tce_puts : (entry page : ℕ) (readable writable : Bool) (old new : PortState) (verb : Verb) (result : Result Step NoMemory) → verb ≡ verbs.Tce entry page readable writable
    → IfOk result (AnswersPut old new entry (tce_of page readable writable)) → IfOk result (λ step. StepPuts verb step old.values new.values)
tce_puts entry page readable writable old new verb result is answer =
    subst (λ (v : Verb). IfOk result (λ step. StepPuts v step old.values new.values)) (sym is) (at result answer)
  where
    at : (r : Result Step NoMemory) → IfOk r (AnswersPut old new entry (tce_of page readable writable))
        → IfOk r (λ step. StepPuts (verbs.Tce entry page readable writable) step old.values new.values)
    at (Ok (steps.Ends outcome)) a = line_put entry page readable writable old new outcome a
    at (Ok (steps.Waits did)) a = λ e. a.1.values e ∙ append-nil (old.values e)
    at (Err memory) a = tt
