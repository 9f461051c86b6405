-- What lines in a unit's own region answer, and what they leave of it.
use Rattle.std.specs.Prelude.{◌≡◌, ◌+◌, ◌*◌, ℕ, Bool, true, false, if◌then◌else◌, List, [], ◌∷◌, length}
use Rattle.vio_num.specs.Counts.{Rose}
use Rattle.vio_num.specs.declared.hypervisor.Hrc.TheVariants as codes
use Rattle.tce_window.specs.PortState.{PortState, LaysNone, Puts, Reads, Writes, contains}
use Rattle.tce_window.specs.Puts.{takes}
use Rattle.vio_trace.specs.declared.outcome.Outcome.TheVariants as outcomes
use Rattle.unit_region.specs.declared.step.Step.{Step}
use Rattle.unit_region.specs.declared.step.Step.TheVariants as steps

-- Bytes pass the region, and nothing was written.
pub record WritesNone (is_shared : Bool) (old : PortState) (at len : ℕ) (new : PortState) : Type 0 where
  pub outside : contains old at len ≡ false
  pub none : LaysNone is_shared old new

-- bytes were written under the mark of a line, or pass the region, or a page of theirs was in use
abbrev pub AnswersWrite : (is_shared : Bool) → (old new : PortState) → (at : ℕ) → List ℕ → (line : ℕ) → Step → Type 0
AnswersWrite is_shared old new at bytes line (steps.Ends outcomes.Done) = Writes is_shared old at bytes line new
AnswersWrite is_shared old new at bytes line (steps.Ends outcomes.Range) = WritesNone is_shared old at (length bytes) new
AnswersWrite is_shared old new at bytes line (steps.Ends _) = ⊥
AnswersWrite is_shared old new at bytes line (steps.Waits did) = Rose old.in_use new.in_use

-- Bytes of the region were read.
pub record ReadsShown (new : PortState) (at len : ℕ) (shown : List ℕ) : Type 0 where
  pub long : length shown ≡ len
  pub read : Reads new at shown

-- bytes were read, or pass the region, or a page of theirs was in use
abbrev pub AnswersRead : (old new : PortState) → (at len : ℕ) → Step → Type 0
AnswersRead old new at len (steps.Ends (outcomes.Bytes shown)) = ReadsShown new at len shown
AnswersRead old new at len (steps.Ends outcomes.Range) = contains old at len ≡ false
AnswersRead old new at len (steps.Ends _) = ⊥
AnswersRead old new at len (steps.Waits did) = Rose old.in_use new.in_use

-- the value that names a page with these rights
abbrev pub tce_of : (page : ℕ) → (readable writable : Bool) → ℕ
tce_of page readable writable = 4096 * page + (if readable then 1 else 0) + (if writable then 2 else 0)

-- a value was put, or the window does not take it, or its entry was in use; no other entry has another value
abbrev pub AnswersPut : (old new : PortState) → (entry tce : ℕ) → Step → Type 0
AnswersPut old new entry tce (steps.Ends (outcomes.Code codes.Success)) =
    (takes old.place.size (4096 * entry) tce ≡ true) × Puts old (4096 * entry) (tce ∷ []) new
AnswersPut old new entry tce (steps.Ends (outcomes.Code codes.Parameter)) =
    (takes old.place.size (4096 * entry) tce ≡ false) × Puts old (4096 * entry) [] new
AnswersPut old new entry tce (steps.Ends _) = ⊥
AnswersPut old new entry tce (steps.Waits did) = Rose old.in_use new.in_use × Puts old (4096 * entry) [] new
