-- What is said of each answer of a window.
use Rattle.std.specs.Prelude.{◌≡◌, ℕ, ◌/◌, ◌%◌, ◌==◌, ◌&&◌, nat_lt, Bool, false, IsTrue, List, Option, Result, Err}
use Rattle.vio_num.specs.Counts.{risen}
use Rattle.vio_num.specs.declared.TheConstants.{PAGE_BYTES}
use Rattle.tce_window.specs.declared.answers.TceAnswer.{TceAnswer}
use Rattle.tce_window.specs.declared.answers.TceAnswer.TheVariants.{Busy}
use Rattle.tce_window.specs.declared.answers.OwnFault.{OwnFault}
use Rattle.tce_window.specs.declared.answers.OwnFault.TheVariants.{InUse}
use Rattle.tce_window.specs.declared.answers.NamedFault.{NamedFault}
use Rattle.tce_window.specs.declared.answers.NamedFault.TheVariants.{InUse as NamedInUse, Stale}
use Rattle.page_slots.specs.declared.stroke.StrokeName.{StrokeName}
use Rattle.tce_window.specs.declared.answers.GetTce.{GetTce}
use Rattle.tce_window.specs.declared.answers.GetTce.TheVariants.{Value, Parameter as NoEntry}
use Rattle.tce_window.specs.Grant.{IsCurrent}

-- how often words were read in use, once a put has this answer
abbrev pub times_in_use : TceAnswer → ℕ → ℕ
times_in_use (Busy entry pins done) n = risen n
times_in_use _ n = n

-- whether the address is that of an entry of n
abbrev pub is_entry : ℕ → ℕ → Bool
is_entry n ioba = ioba % PAGE_BYTES == 0 && nat_lt (ioba / PAGE_BYTES) n

-- the value of the entry at this address, or that it is of none of n entries
abbrev pub gives : ℕ → (ℕ → List ℕ) → ℕ → GetTce → Type 0
gives n values ioba (Value tce) = IsTrue (is_entry n ioba) × ((version : ℕ) × IsCurrent values (ioba / PAGE_BYTES) version tce)
gives n values ioba NoEntry = is_entry n ioba ≡ false

-- P of the page and the word that a read or write of the owner found in use
abbrev pub IfInUse : {T : Type 0} → Result T OwnFault → (ℕ → ℕ → Type 0) → Type 0
IfInUse (Err (InUse page word)) P = P page word
IfInUse _ P = Unit {0}

-- how often words were read in use, once a read or write of the owner has this answer
abbrev pub times_own : {T : Type 0} → Result T OwnFault → ℕ → ℕ
times_own (Err (InUse page word)) n = risen n
times_own _ n = n

-- P of the page and the word that a named read found in use
abbrev pub IfNamedInUse : {T : Type 0} → Result T NamedFault → (ℕ → ℕ → Type 0) → Type 0
IfNamedInUse (Err (NamedInUse page word)) P = P page word
IfNamedInUse _ P = Unit {0}

-- P of the page and of the other name that a named read found there
abbrev pub IfStale : {T : Type 0} → Result T NamedFault → (ℕ → Option StrokeName → Type 0) → Type 0
IfStale (Err (Stale page found)) P = P page found
IfStale _ P = Unit {0}

-- P of the entry, its pins and the number put, where an entry was found held
abbrev pub IfBusy : TceAnswer → (ℕ → ℕ → ℕ → Type 0) → Type 0
IfBusy (Busy entry pins done) P = P entry pins done
IfBusy _ P = Unit {0}

-- how often words were read in use, once a named read has this answer
abbrev pub times_named : {T : Type 0} → Result T NamedFault → ℕ → ℕ
times_named (Err (NamedInUse page word)) n = risen n
times_named _ n = n
