-- What a turn tells, by what it did.
use Rattle.std.proofs.Common.{◌≡◌, Bool, true, false, Result, Ok, Err, IfOk, OnOk, refl, sym, subst}
use Rattle.vio_num.specs.declared.hypervisor.Moved.{Moved}
use Rattle.vio_num.specs.declared.hypervisor.Moved.TheVariants as moves
use Rattle.vio_num.specs.declared.memory.NoMemory.{NoMemory}
use Rattle.block_server.specs.Turns.{told_of}

module _ {X : Type 0} (done : Result X NoMemory) (moved : Bool) (result : Result Moved NoMemory) (is : result ≡ told_of done moved) where
  pub told_on : (P Q : Type 0) → (P → Q) → OnOk done P → OnOk result Q
  told_on P Q next given = subst (λ (r : Result Moved NoMemory). OnOk r Q) (sym is) (by done moved given)
    where
      by : (d : Result X NoMemory) (m : Bool) → OnOk d P → OnOk (told_of d m) Q
      by (Ok x) true given = next given
      by (Ok x) false given = next given
      by (Err memory) m given = tt

  pub told_quiet : (P : Type 0) → OnOk done (moved ≡ false → P) → IfOk result (λ m. m ≡ moves.Quiet → P)
  told_quiet P given = subst (λ (r : Result Moved NoMemory). IfOk r (λ m. m ≡ moves.Quiet → P)) (sym is) (by done moved given)
    where
      by : (d : Result X NoMemory) (m : Bool) → OnOk d (m ≡ false → P) → IfOk (told_of d m) (λ m. m ≡ moves.Quiet → P)
      by (Ok x) true given = λ quiet. absurd (cc (quiet))
      by (Ok x) false given = λ quiet. given refl
      by (Err memory) m given = tt

  pub told_moved : (P : Type 0) → OnOk done (moved ≡ true → P) → IfOk result (λ m. m ≡ moves.Moved → P)
  told_moved P given = subst (λ (r : Result Moved NoMemory). IfOk r (λ m. m ≡ moves.Moved → P)) (sym is) (by done moved given)
    where
      by : (d : Result X NoMemory) (m : Bool) → OnOk d (m ≡ true → P) → IfOk (told_of d m) (λ m. m ≡ moves.Moved → P)
      by (Ok x) true given = λ did. given refl
      by (Ok x) false given = λ did. absurd (cc (did))
      by (Err memory) m given = tt

  pub told_rests : OnOk done (moved ≡ false) → IfOk result (λ m. m ≡ moves.Quiet)
  told_rests given = subst (λ (r : Result Moved NoMemory). IfOk r (λ m. m ≡ moves.Quiet)) (sym is) (by done moved given)
    where
      by : (d : Result X NoMemory) (m : Bool) → OnOk d (m ≡ false) → IfOk (told_of d m) (λ m. m ≡ moves.Quiet)
      by (Ok x) true given = absurd (cc (given))
      by (Ok x) false given = refl
      by (Err memory) m given = tt
