-- What a turn at one pair leaves of the drivers of all.
use Rattle.std.proofs.Common.{◌≡◌, ◌≢◌, ◌∙◌, ◌⊎◌, inl, inr, ℕ, List, Option, Some, None, slice_get, slice_set, refl, sym, ap, subst}
use Rattle.std.proofs.lemmas.Option.{slice_get_within}
use Rattle.vcpu_run.specs.declared.driver.Driver.{Driver}
use Rattle.vcpu_run.specs.declared.pair.Pair.{Pair}
use Rattle.vcpu_run.specs.Agreed.{AllSame, OnDrivers, SameBeside, SameDrivers, SameOthers, driver_at, driver_in}
use Rattle.vcpu_run.specs.Sendings.{SameCredits}
use Rattle.vcpu_run.proofs.Driving.{get_set_other, get_set_same, same_or}

-- the driver of the pair, and of the others, once it had a turn
pub set_here : (pairs : List Pair) (i : ℕ) (old new : Pair) → slice_get pairs i ≡ Some old → driver_at (slice_set pairs i new) i ≡ new.driver
set_here pairs i old new there = ap driver_in (get_set_same pairs i new (slice_get_within pairs i old there))

pub was_here : (pairs : List Pair) (i : ℕ) (old : Pair) → slice_get pairs i ≡ Some old → driver_at pairs i ≡ old.driver
was_here pairs i old there = ap driver_in there

pub set_beside : (pairs : List Pair) (i : ℕ) (new : Pair) → SameBeside i pairs (slice_set pairs i new)
set_beside pairs i new k apart = get_set_other pairs i k new apart

pub set_others : (pairs : List Pair) (i : ℕ) (new : Pair) → SameOthers i pairs (slice_set pairs i new)
set_others pairs i new k apart = ap driver_in (get_set_other pairs i k new apart)

pub set_same : (pairs : List Pair) (i : ℕ) (old new : Pair) → slice_get pairs i ≡ Some old → new.driver ≡ old.driver → SameDrivers pairs (slice_set pairs i new)
set_same pairs i old new there same k = at (same_or k i)
  where
    at : (k ≡ i) ⊎ (k ≢ i) → driver_at (slice_set pairs i new) k ≡ driver_at pairs k
    at (inl e) = subst (λ n. driver_at (slice_set pairs i new) n ≡ driver_at pairs n) (sym e) (set_here pairs i old new there ∙ (same ∙ sym (was_here pairs i old there)))
    at (inr apart) = set_others pairs i new k apart

pub set_credit : (P : Driver → Driver → Type 0) (pairs : List Pair) (i : ℕ) (old new : Pair) → slice_get pairs i ≡ Some old → OnDrivers old.driver new.driver P
    → OnDrivers (driver_at pairs i) (driver_at (slice_set pairs i new) i) P
set_credit P pairs i old new there h =
    subst (λ (o : Option Driver). OnDrivers o (driver_at (slice_set pairs i new) i) P) (sym (was_here pairs i old there))
    (subst (λ (o : Option Driver). OnDrivers old.driver o P) (sym (set_here pairs i old new there)) h)

pub on_same : (o p : Option Driver) → p ≡ o → OnDrivers o p (λ a b. SameCredits a.client b.client)
on_same o p is = subst (λ (q : Option Driver). OnDrivers o q (λ a b. SameCredits a.client b.client)) (sym is) (at o)
  where
    at : (q : Option Driver) → OnDrivers q q (λ a b. SameCredits a.client b.client)
    at None = tt
    at (Some d) = record { granted = refl; outgoing = refl }

pub on_on : (o p q : Option Driver) → OnDrivers o p (λ a b. SameCredits a.client b.client) → OnDrivers p q (λ a b. SameCredits a.client b.client)
    → OnDrivers o q (λ a b. SameCredits a.client b.client)
on_on None None q x y = y
on_on None (Some b) q x y = absurd x
on_on (Some a) None q x y = absurd x
on_on (Some a) (Some b) None x y = absurd y
on_on (Some a) (Some b) (Some c) x y = record { granted = y.granted ∙ x.granted; outgoing = y.outgoing ∙ x.outgoing }

pub all_same : (pairs : List Pair) → AllSame pairs pairs
all_same pairs k = on_same (driver_at pairs k) (driver_at pairs k) refl

pub all_on : (a b c : List Pair) → AllSame a b → AllSame b c → AllSame a c
all_on a b c first next k = on_on (driver_at a k) (driver_at b k) (driver_at c k) (first k) (next k)

pub set_all : (pairs : List Pair) (i : ℕ) (old new : Pair) → slice_get pairs i ≡ Some old → OnDrivers old.driver new.driver (λ a b. SameCredits a.client b.client)
    → AllSame pairs (slice_set pairs i new)
set_all pairs i old new there same k = at (same_or k i)
  where
    at : (k ≡ i) ⊎ (k ≢ i) → OnDrivers (driver_at pairs k) (driver_at (slice_set pairs i new) k) (λ a b. SameCredits a.client b.client)
    at (inl e) = subst (λ n. OnDrivers (driver_at pairs n) (driver_at (slice_set pairs i new) n) (λ a b. SameCredits a.client b.client)) (sym e)
        (set_credit (λ a b. SameCredits a.client b.client) pairs i old new there same)
    at (inr apart) = on_same (driver_at pairs k) (driver_at (slice_set pairs i new) k) (set_others pairs i new k apart)
