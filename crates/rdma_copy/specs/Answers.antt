-- What is said of each answer of a copy.
use Rattle.std.specs.Prelude.{◌≡◌, ℕ, ◌⊎◌, Bool, true, List}
use Rattle.vio_num.specs.Counts.{Rose}
use Rattle.tce_window.specs.declared.answers.HoldFault.{HoldFault}
use Rattle.tce_window.specs.Pieces.{IsOfRange}
use Rattle.rdma_copy.specs.declared.copy.CopyRecord.{CopyRecord}
use Rattle.rdma_copy.specs.declared.copy.CopyAnswer.{CopyAnswer}
use Rattle.rdma_copy.specs.declared.copy.CopyAnswer.TheVariants.{Copied, SourceParm, DestParm, Busy, NoMemory}

-- P of the record, where it was copied
abbrev pub IfCopied : CopyAnswer → (CopyRecord → Type 0) → Type 0
IfCopied (Copied copy) P = P copy
IfCopied _ P = Unit {0}

-- it was copied, and P of the record
abbrev pub IsCopied : CopyAnswer → (CopyRecord → Type 0) → Type 0
IsCopied (Copied copy) P = P copy
IsCopied _ P = ⊥

-- P, where it was not copied
abbrev pub OnRefused : CopyAnswer → Type 0 → Type 0
OnRefused (Copied copy) P = Unit {0}
OnRefused _ P = P

-- P, where both ranges could be held: it was copied, or memory ran out
abbrev pub OnHeld : CopyAnswer → Type 0 → Type 0
OnHeld (Copied copy) P = P
OnHeld NoMemory P = P
OnHeld _ P = Unit {0}

-- P of why the source's range was refused
abbrev pub IfSourceParm : CopyAnswer → (HoldFault → Type 0) → Type 0
IfSourceParm (SourceParm fault) P = P fault
IfSourceParm _ P = Unit {0}

-- P of why the target's range was refused
abbrev pub IfDestParm : CopyAnswer → (HoldFault → Type 0) → Type 0
IfDestParm (DestParm fault) P = P fault
IfDestParm _ P = Unit {0}

-- P of the page and the word that were found in use
abbrev pub IfBusy : CopyAnswer → (ℕ → ℕ → Type 0) → Type 0
IfBusy (Busy page word) P = P page word
IfBusy _ P = Unit {0}

-- The page is one of an entry of the range, and its port found it in use, which others have in hand.
pub record IsBusySide (is_shared : Bool) (values : ℕ → List ℕ) (ioba len page : ℕ) (Found : Type 0) : Type 0 where
  pub shared : is_shared ≡ true
  pub of_range : IsOfRange values ioba len page
  pub found : Found

-- the counts of words read in use, of the source and of the target: one rose where the answer says so, and
-- else both stand still
abbrev pub CountsCopy : CopyAnswer → (source source' target target' : ℕ) → Type 0
CountsCopy (Busy page word) source source' target target' =
    (Rose source source' × (target' ≡ target)) ⊎ ((source' ≡ source) × Rose target target')
CountsCopy _ source source' target target' = (source' ≡ source) × (target' ≡ target)

-- the count of the target alone
abbrev pub CountsTarget : CopyAnswer → (target target' : ℕ) → Type 0
CountsTarget (Busy page word) target target' = Rose target target'
CountsTarget _ target target' = target' ≡ target
