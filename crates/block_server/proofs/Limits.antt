-- When one request more is refused: over the credits alone.
use Rattle.std.proofs.Common.{◌≡◌, ◌↔◌, ◌+◌, ◌<◌, ◌≤◌, ℕ, Bool, true, false, Option, Some, None, Result, Err, IsOk, if◌then◌else◌, refl, ◌∙◌, subst, arith}
use Rattle.std.specs.Result.{IsErrOf}
use Rattle.srp_credits.specs.Target.{TargetCredits, over_limit}
use Rattle.srp_credits.specs.declared.fault.CreditFault.{CreditFault}

-- no login takes requests
pub none_taking : (on : Bool) (current : ℕ) (result : Option ℕ) → result ≡ (if on then Some current else None) → ((login : ℕ) → result ≡ Some login → ⊥) → on ≡ false
none_taking true current result is none = absurd (none current is)
none_taking false current result is none = refl

-- Where a request is refused under a login as many are outstanding as are granted, and the fault says so.
pub limit_is : (result : Result (Unit {0}) CreditFault) (fault : CreditFault) (credits : TargetCredits) (taking : Bool) (granted : ℕ) → result ≡ Err fault → taking ≡ true → credits.on ≡ taking
    → (IsErrOf result (over_limit credits) ↔ ((credits.on ≡ true) × (granted < credits.outstanding + 1)))
    → (IsOk result ↔ ((credits.on ≡ true) × (credits.outstanding + 1 ≤ granted))) → credits.granted ≡ granted → credits.outstanding ≤ granted
    → (fault ≡ over_limit credits) × (credits.granted ≡ credits.outstanding)
limit_is result fault credits taking granted is on same over ok grants within =
    let more : granted < credits.outstanding + 1 = above (credits.outstanding + 1) granted (λ low. failed (ok.1 (same ∙ on, low))) in
    (same_fault (over.1 (same ∙ on, more)), full credits.granted granted credits.outstanding grants more within)
  where
    failed : IsOk result → ⊥
    failed fine = absurd (cc (subst IsOk is fine))

    same_fault : IsErrOf result (over_limit credits) → fault ≡ over_limit credits
    same_fault of = cc (subst (λ (r : Result (Unit {0}) CreditFault). IsErrOf r (over_limit credits)) is of)

    above : (a b : ℕ) → ¬ (a ≤ b) → b < a
    above a b apart = omega (arith, apart)

    full : (c granted o : ℕ) → c ≡ granted → granted < o + 1 → o ≤ granted → c ≡ o
    full c granted o same more within = omega (arith, same, more, within)

pub none_on : (on : Bool) (current : ℕ) → (if on then Some current else None) ≡ None → on ≡ false
none_on true current is = absurd (cc (is))
none_on false current is = refl

pub none_some : (result : Option ℕ) → ((x : ℕ) → result ≡ Some x → ⊥) → result ≡ None
none_some None apart = refl
none_some (Some x) apart = absurd (apart x refl)

pub too_short : (n : ℕ) → n < 16 → 16 ≤ n → ⊥
too_short n low high = absurd (omega (arith, low, high))
