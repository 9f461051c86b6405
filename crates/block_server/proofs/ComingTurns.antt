-- A turn that says that something was done, of the unit of a number.
use Rattle.std.proofs.Common.{◌≡◌, ℕ, List, Some, Result, Ok, Err, IfOk, slice_get, slice_set, option_map, sym, ◌∙◌, ap}
use Rattle.std.proofs.Math.Logic.{∥∥₁_elim}
use Rattle.vio_num.specs.declared.hypervisor.Moved.{Moved}
use Rattle.vio_num.specs.declared.hypervisor.Moved.TheVariants.{Moved as DidMove}
use Rattle.vio_num.specs.declared.memory.NoMemory.{NoMemory}
use Rattle.crq_session.specs.EndState.{EndState}
use Rattle.block_server.specs.Turns.{IsStill, UnderWay, under_way, way_of}
use Rattle.block_server.specs.declared.unit.Unit.{Unit}
use Rattle.block_server.proofs.Units.{get_set_same}

-- Something differs, where the turn says that something was done.
abbrev pub Differs : Result Moved NoMemory → (Same : Type 0) → Type 0
Differs result Same = IfOk result (λ moved. moved ≡ DidMove → ¬ Same)

none_is : IsProp ⊥
none_is = λ a b. absurd a

pub differs_by : (A Same : Type 0) (result : Result Moved NoMemory) → ∥ A ∥₁ → (A → Differs result Same) → Differs result Same
differs_by A Same (Err memory) some by = tt
differs_by A Same (Ok answer) some by = λ is same. ∥∥₁_elim some none_is (λ (a : A). by a is same)

some_is : (a b : UnderWay) → Some a ≡ Some b → a ≡ b
some_is a b same = cc (same)

pub way_moved : (result : Result Moved NoMemory) (units : List Unit) (n : ℕ) (unit unit' : Unit) (q q' : EndState) → slice_get units n ≡ Some unit
    → Differs result (IsStill q q' × (under_way unit' ≡ under_way unit)) → Differs result (IsStill q q' × (way_of (slice_set units n unit') n ≡ way_of units n))
way_moved (Err memory) units n unit unit' q q' there differs = tt
way_moved (Ok answer) units n unit unit' q q' there differs = λ is same.
    differs is (
      same.0,
      some_is (under_way unit') (under_way unit)
          (sym (ap (option_map under_way) (get_set_same units n unit unit' there)) ∙ same.1 ∙ ap (option_map under_way) there),
    )
