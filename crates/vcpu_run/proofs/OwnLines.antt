-- What lines in a client's own region say.
use Rattle.std.proofs.Common.{◌≡◌, ℕ, Bool, List, Option, Result, Ok, IfOk, sym, subst}
use Rattle.vio_num.specs.declared.memory.NoMemory.{NoMemory}
use Rattle.boot_text.specs.declared.verb.Verb.{Verb}
use Rattle.boot_text.specs.declared.verb.Verb.TheVariants as verbs
use Rattle.tce_window.specs.PortState.{PortState}
use Rattle.tce_window.specs.Region.{in_region}
use Rattle.unit_region.specs.Answers.{AnswersPut, AnswersRead, AnswersWrite, tce_of}
use Rattle.unit_region.specs.Pattern.{pattern}
use Rattle.unit_region.proofs.Laws.{ends_so, filled_long, put_says, shown_says, written_says}
use Rattle.unit_region.specs.declared.step.Step.{Step}
use Rattle.unit_region.specs.declared.step.Step.TheVariants as steps
use Rattle.vio_trace.specs.declared.outcome.Outcome.{Outcome}
use Rattle.vcpu_run.specs.Refusals.{IsSaid, IsWritten, LoginNow}

pub fill_says : (is_shared : Bool) (old new : PortState) (at len seed line : ℕ) (verb : Verb) (result : Result Step NoMemory) → verb ≡ verbs.Fill at len seed
    → IfOk result (AnswersWrite is_shared old new at (pattern seed len) line) → (login : Option LoginNow) (outcome : Outcome) → result ≡ Ok (steps.Ends outcome)
    → IsSaid old.place.size login verb outcome
fill_says is_shared old new at len seed line verb result is answer login outcome e =
    subst (λ (v : Verb). IsSaid old.place.size login v outcome) (sym is)
    (subst (λ n. IsWritten (in_region old.place.size at n) outcome) (filled_long seed len)
    (written_says is_shared old new at (pattern seed len) line outcome (ends_so (AnswersWrite is_shared old new at (pattern seed len) line) result outcome answer e)))

pub poke_says : (is_shared : Bool) (old new : PortState) (at : ℕ) (bytes : List ℕ) (line : ℕ) (verb : Verb) (result : Result Step NoMemory) → verb ≡ verbs.Poke at bytes
    → IfOk result (AnswersWrite is_shared old new at bytes line) → (login : Option LoginNow) (outcome : Outcome) → result ≡ Ok (steps.Ends outcome)
    → IsSaid old.place.size login verb outcome
poke_says is_shared old new at bytes line verb result is answer login outcome e =
    subst (λ (v : Verb). IsSaid old.place.size login v outcome) (sym is)
    (written_says is_shared old new at bytes line outcome (ends_so (AnswersWrite is_shared old new at bytes line) result outcome answer e))

pub peek_says : (old new : PortState) (at len : ℕ) (verb : Verb) (result : Result Step NoMemory) → verb ≡ verbs.Peek at len → new.place ≡ old.place
    → IfOk result (AnswersRead old new at len) → (login : Option LoginNow) (outcome : Outcome) → result ≡ Ok (steps.Ends outcome) → IsSaid old.place.size login verb outcome
peek_says old new at len verb result is place answer login outcome e =
    subst (λ (v : Verb). IsSaid old.place.size login v outcome) (sym is)
    (shown_says old new at len outcome place (ends_so (AnswersRead old new at len) result outcome answer e))

pub tce_says : (old new : PortState) (entry page : ℕ) (readable writable : Bool) (verb : Verb) (result : Result Step NoMemory) → verb ≡ verbs.Tce entry page readable writable
    → IfOk result (AnswersPut old new entry (tce_of page readable writable)) → (login : Option LoginNow) (outcome : Outcome) → result ≡ Ok (steps.Ends outcome)
    → IsSaid old.place.size login verb outcome
tce_says old new entry page readable writable verb result is answer login outcome e =
    subst (λ (v : Verb). IsSaid old.place.size login v outcome) (sym is)
    (put_says old new entry (tce_of page readable writable) outcome (ends_so (AnswersPut old new entry (tce_of page readable writable)) result outcome answer e))
