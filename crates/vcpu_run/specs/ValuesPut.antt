-- Which values the entries of a unit's window have: the first of each, and those that the unit's lines say they put, in their order.
use Rattle.std.specs.Prelude.{◌≡◌, ℕ, ◌+◌, ◌*◌, List, [], ◌∷◌, ◌++◌, IfOk, Option, Result}
use Rattle.std.specs.List.{slice_get}
use Rattle.std.specs.Option.{option_map}
use Rattle.vio_num.specs.declared.memory.NoMemory.{NoMemory}
use Rattle.vio_num.specs.declared.names.UnitId.{UnitId}
use Rattle.boot_text.specs.declared.verb.Verb.{Verb}
use Rattle.tce_window.specs.PlainPort.{known_of}
pub use Rattle.unit_region.specs.LinePuts.{StepPuts, is_put, put_by}
use Rattle.unit_region.specs.declared.step.Step.{Step}
use Rattle.vio_trace.specs.declared.rows.Trace.{Trace}
use Rattle.lan_script.specs.Entries.{values_at}
use Rattle.lan_script.specs.Units.{LanValue}
use Rattle.vcpu_run.specs.declared.pair.Pair.{Pair}
use Rattle.vcpu_run.specs.Credited.{Ended}
use Rattle.vcpu_run.specs.Shown.{values_shown}

-- those that lines put, one after the other
abbrev pub values_told : (entry : ℕ) → List Ended → List ℕ
values_told e [] = []
values_told e (ended ∷ more) = put_by e ended.verb ended.outcome ++ values_told e more

-- a step of a line at a pair, which did not run out of memory, puts what its record says
abbrev pub PairPuts : Verb → (old new : Pair) → Result Step NoMemory → Type 0
PairPuts verb old new result = IfOk result (λ step. StepPuts verb step (known_of old.window).values (known_of new.window).values)

-- each entry has its first value, and behind it those that the lines put
abbrev pub AreValuesPut : List Ended → Pair → Type 0
AreValuesPut own pair = (e : ℕ) → (known_of pair.window).values e ≡ (4096 * e + 3) ∷ values_told e own

-- the same of the window of a LAN unit
abbrev pub KeepsPuts : List Ended → LanValue → UnitId → Type 0
KeepsPuts own lan unit = (e : ℕ) → values_at lan unit e ≡ (4096 * e + 3) ∷ values_told e own

-- Each entry of a unit's window had its first value, and then those that the unit's lines say they put, in their order, and no others.
abbrev pub AreValuesTold : Trace → UnitId → List Ended → Type 0
AreValuesTold trace unit ended = (e : ℕ) → values_shown trace unit e ≡ (4096 * e + 3) ∷ values_told e ended

-- no entry of the window has other values than before
abbrev pub SameValues : (old new : Pair) → Type 0
SameValues old new = (known_of new.window).values ≡ (known_of old.window).values

-- the same of all pairs
abbrev pub values_in : List Pair → ℕ → Option (ℕ → List ℕ)
values_in pairs k = option_map (λ pair. (known_of pair.window).values) (slice_get pairs k)

abbrev pub AllSameValues : List Pair → List Pair → Type 0
AllSameValues old new = (k : ℕ) → values_in new k ≡ values_in old k
