-- What a call asks of the units, and what it answers where it asks nothing.
use Rattle.std.specs.Prelude.{◌≡◌, ℕ, List, Result, IsOkAnd}
use Rattle.vio_num.specs.declared.hypervisor.Hrc.{Hrc}
use Rattle.vio_num.specs.declared.memory.NoMemory.{NoMemory}
use Rattle.hcall_table.specs.declared.hcall.Hcall.{Hcall}
use Rattle.hcall_table.specs.declared.returned.Returned.{Returned}

-- what is asked: a row, the number of a unit of the partition, and the row's arguments behind it
pub record Asked : Type 0 where
  pub row : Hcall
  pub unit : ℕ
  pub arguments : List ℕ

abbrev pub ask : Hcall → ℕ → List ℕ → Asked
ask row unit arguments = record { row = row; unit = unit; arguments = arguments }

-- a code without a value
abbrev pub bare : Hrc → Returned
bare code = record { code = code; r4 = 0 }

-- the answer is this code, and nothing changed
pub record Refuses (U : Type 0) (code : Hrc) (old new : U) (result : Result Returned NoMemory) : Type 0 where
  pub answer : IsOkAnd result (λ returned. returned ≡ bare code)
  pub same : new ≡ old
