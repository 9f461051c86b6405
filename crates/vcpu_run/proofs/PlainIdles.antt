-- A turn of a server unit in which nothing was done, and the name that the unit keeps.
use Rattle.std.proofs.Common.{◌≡◌, ◌≢◌, ◌∙◌, ◌⊎◌, inl, inr, ℕ, Bool, List, Result, Ok, Err, Some, IfOk, OnOk, slice_get, sym, ap, ap₂}
use Rattle.std.proofs.Math.Logic.{∥∥₁_elim, ∥∥₁_map, ∥∥₁_map₂}
use Rattle.vio_num.specs.declared.names.UnitId.{UnitId}
use Rattle.block_server.specs.Causes.{Told}
use Rattle.block_server.specs.Units.{AreInOrder}
use Rattle.block_server.specs.declared.records.Records.{Records}
use Rattle.block_server.specs.declared.unit.Unit.{Unit}
use Rattle.vcpu_run.specs.Ports.{unit_of}
use Rattle.vcpu_run.proofs.Driving.{same_or}

-- Two numbers are the same if they are at all.
the_same : (a b : ℕ) → ∥ a ≡ b ∥₁ → a ≡ b
the_same a b is = by (same_or a b)
  where
    by : (a ≡ b) ⊎ (a ≢ b) → a ≡ b
    by (inl e) = e
    by (inr apart) = absurd (∥∥₁_elim is (λ x y. absurd x) apart)

-- a unit of a server that is in order has its name by its number
pub ids_stay : (told told' : Told → Bool) (size size' partition partition' : ℕ) (units units' : List Unit) (records records' : Records) → partition' ≡ partition
    → ∥ AreInOrder told size partition units records ∥₁ → ∥ AreInOrder told' size' partition' units' records' ∥₁
    → (k : ℕ) (u u' : Unit) → slice_get units k ≡ Some u → slice_get units' k ≡ Some u' → u'.id ≡ u.id
ids_stay told told' size size' partition partition' units units' records records' same order order' k u u' there there' =
    ap₂ unit_of (the_same u'.id.partition u.id.partition (∥∥₁_map named (λ is. ap (λ (id : UnitId). id.partition) is)))
    (the_same u'.id.unit u.id.unit (∥∥₁_map named (λ is. ap (λ (id : UnitId). id.unit) is)))
  where
    named : ∥ u'.id ≡ u.id ∥₁
    named = ∥∥₁_map₂ order order' (λ is is'. (is' k u' there').id ∙ (ap (λ p. unit_of p k) same ∙ sym (is k u there).id))

-- what is so of a turn in which nothing was done, by what is so of each that ended well
pub idle_ok : {T E : Type 0} (r : Result T E) (Q : T → Type 0) (A B C D : Type 0) → (A → B → C → D) → OnOk r A → IfOk r (λ x. Q x → B) → IfOk r (λ x. Q x → C) → IfOk r (λ x. Q x → D)
idle_ok (Ok x) Q A B C D step a b c = λ is. step a (b is) (c is)
idle_ok (Err e) Q A B C D step a b c = tt
