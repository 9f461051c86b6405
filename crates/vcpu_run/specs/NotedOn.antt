-- A client's steps keep what it noted of the data of its commands.
use Rattle.std.specs.Prelude.{◌≡◌, ℕ, List, Some}
use Rattle.std.specs.List.{slice_get}
use Rattle.vcpu_run.specs.declared.driver.Driver.{Driver}
use Rattle.vcpu_run.specs.declared.pair.Pair.{Pair}
use Rattle.vcpu_run.specs.Agreed.{OnDrivers}
use Rattle.vcpu_run.specs.DataKept.{KeepsData}
use Rattle.vcpu_run.specs.Takings.{HasMoreAnswers, SameServer}

-- A client's step keeps what it knows of data and what it noted, its server unit, and its answers.
pub record KeepsNoted (old new : Driver) : Type 0 where
  pub keeps : KeepsData old.client new.client old.answers.items new.answers.items
  pub server : SameServer old.client new.client
  pub more : HasMoreAnswers old.answers.items new.answers.items

-- the same of all pairs
abbrev pub AllKeepNoted : (old new : List Pair) → Type 0
AllKeepNoted old new = (k : ℕ) (before after : Pair) → slice_get old k ≡ Some before → slice_get new k ≡ Some after → OnDrivers before.driver after.driver KeepsNoted
