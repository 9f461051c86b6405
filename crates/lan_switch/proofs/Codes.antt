-- The codes that a call may answer.
use Rattle.std.proofs.Common.{◌≡◌, ◌↔◌, ℕ, ◌<◌, Bool, true, false, IsTrue, if◌then◌else◌, zero, suc, List, [], ◌∷◌, arith, refl}
use Rattle.std.specs.List.{Contains}
use Rattle.vio_num.specs.declared.hypervisor.Hrc.{Hrc}
use Rattle.vio_num.specs.declared.hypervisor.Hrc.TheVariants.{Success, Busy, Parameter, NotFound, Resource}

abbrev pub acted : List Hrc
acted = Success ∷ Resource ∷ NotFound ∷ []

abbrev pub posted : List Hrc
posted = Success ∷ Resource ∷ []

pub acted_no_parameter : (x : Hrc) → Contains acted x → x ≡ Parameter → ⊥
acted_no_parameter x (zero, less, is) e = cc (is, e)
acted_no_parameter x (suc zero, less, is) e = cc (is, e)
acted_no_parameter x (suc (suc zero), less, is) e = cc (is, e)
acted_no_parameter x (suc (suc (suc k)), less, is) e = omega (arith, less)

pub acted_among : (x : Hrc) → Contains acted x → Contains (Success ∷ Parameter ∷ Resource ∷ NotFound ∷ []) x
acted_among x (zero, less, is) = (0, omega arith, is)
acted_among x (suc zero, less, is) = (2, omega arith, is)
acted_among x (suc (suc zero), less, is) = (3, omega arith, is)
acted_among x (suc (suc (suc k)), less, is) = absurd (omega (arith, less))

pub posted_no_parameter : (x : Hrc) → Contains posted x → x ≡ Parameter → ⊥
posted_no_parameter x (zero, less, is) e = cc (is, e)
posted_no_parameter x (suc zero, less, is) e = cc (is, e)
posted_no_parameter x (suc (suc k), less, is) e = omega (arith, less)

pub posted_no_busy : (x : Hrc) → Contains posted x → x ≡ Busy → ⊥
posted_no_busy x (zero, less, is) e = cc (is, e)
posted_no_busy x (suc zero, less, is) e = cc (is, e)
posted_no_busy x (suc (suc k), less, is) e = omega (arith, less)

pub posted_among : (x : Hrc) → Contains posted x → Contains (Success ∷ Parameter ∷ Busy ∷ Resource ∷ []) x
posted_among x (zero, less, is) = (0, omega arith, is)
posted_among x (suc zero, less, is) = (3, omega arith, is)
posted_among x (suc (suc k), less, is) = absurd (omega (arith, less))

-- the code of a frame, by whether it is for a group
pub code_by : (all : Bool) (P : Type 0) (code one : Hrc) → (IsTrue all ↔ P) → (P → code ≡ Success) → (¬ P → code ≡ one)
    → code ≡ (if all then Success else one)
code_by true P code one group many single = many (group.0 refl)
code_by false P code one group many single = single (λ h. no (group.1 h))
  where
    no : false ≡ true → ⊥
    no e = cc (e)
