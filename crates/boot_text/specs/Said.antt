-- What a line says, or why it says nothing.
use Rattle.std.specs.Prelude.{◌≡◌, ℕ, Option, Some, None, Result, MatchResult}
use Rattle.boot_text.specs.declared.cause.Cause.{Cause}
use Rattle.boot_text.specs.declared.cause.Cause.TheVariants as causes
use Rattle.boot_text.specs.declared.cause.PlanFault.{PlanFault}
use Rattle.boot_text.specs.declared.cause.PlanFault.TheVariants as faults
use Rattle.boot_text.specs.declared.cause.Stop.{Stop}
use Rattle.boot_text.specs.declared.cause.Stop.TheVariants as stops

-- what is said, or the cause for which nothing is
pub data Said (A : Type 0) : Type 0 where
  good : A → Said A
  bad : Cause → Said A

-- why a call stopped: for this cause, or for want of memory
abbrev pub IsStop : {A : Type 0} → Said A → Stop → Type 0
IsStop said (stops.Cause cause) = said ≡ bad cause
IsStop said stops.NoMemory = Unit {0}

-- a call's result is what is said, if memory was there
abbrev pub Tells : {A : Type 0} → Result A Stop → Said A → Type 0
Tells result said = MatchResult result (λ value. said ≡ good value) (IsStop said)

-- the fault of a line that stopped a call
abbrev pub fault_at : ℕ → Stop → PlanFault
fault_at line (stops.Cause cause) = faults.Refused line cause
fault_at line stops.NoMemory = faults.NoMemory

-- a word that is not of its form, or outside its range, is a wrong number
abbrev pub numbered : {A : Type 0} → Option A → Said A
numbered (Some value) = good value
numbered None = bad causes.Number

-- what is said of what is read
abbrev pub said_map : {A B : Type 0} → (A → B) → Said A → Said B
said_map f (good value) = good (f value)
said_map f (bad cause) = bad cause

-- what follows, where what comes first is good
abbrev pub said_then : {A B : Type 0} → (A → Said B) → Said A → Said B
said_then f (good value) = f value
said_then f (bad cause) = bad cause
