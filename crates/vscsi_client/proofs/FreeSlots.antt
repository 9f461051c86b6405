-- Where fewer than n requests are outstanding, one of n slots has none of them.
use Rattle.std.proofs.Common.{◌≡◌, ◌∙◌, ℕ, zero, suc, ◌<◌, ◌≤◌, ◌==◌, ◌||◌, Bool, true, false, List, [], ◌∷◌, Option, None, cond, refl, sym, ap, subst, arith, length}
use Rattle.std.proofs.lemmas.Bool.Decides.{nat_tests}
use Rattle.vscsi_client.specs.declared.outgoing.Outgoing.{Outgoing}
use Rattle.vscsi_client.specs.declared.stage.Stage.{Stage}
use Rattle.vscsi_client.specs.declared.stage.Stage.TheVariants.{Idle}
use Rattle.vscsi_client.specs.State.{ClientState, is_asked, is_used, stage_uses, is_slot, IsFull, IsTheLogins}

-- the requests that do not have this slot
abbrev others : ℕ → List Outgoing → List Outgoing
others n [] = []
others n (o ∷ os) = cond (o.slot == n) (others n os) (o ∷ others n os)

differs : (x n j : ℕ) → j < n → (x == n) ≡ true → (x == j) ≡ false
differs x n j less same = grind (arith, nat_tests)

asked_others : (os : List Outgoing) (n j : ℕ) → j < n → is_asked (others n os) j ≡ is_asked os j
asked_others [] n j less = refl
asked_others (o ∷ os) n j less = at (o.slot == n) refl (asked_others os n j less)
  where
    at : (b : Bool) → (o.slot == n) ≡ b → is_asked (others n os) j ≡ is_asked os j
        → is_asked (cond b (others n os) (o ∷ others n os)) j ≡ (o.slot == j) || is_asked os j
    at true same e = rw (differs o.slot n j less same) e
    at false other e = ap (λ rest. (o.slot == j) || rest) e

no_longer : (os : List Outgoing) (n : ℕ) → length (others n os) ≤ length os
no_longer [] n = omega arith
no_longer (o ∷ os) n = at (o.slot == n) (no_longer os n)
  where
    at : (b : Bool) → length (others n os) ≤ length os → length (cond b (others n os) (o ∷ others n os)) ≤ length (o ∷ os)
    at true e = omega arith
    at false e = omega arith

shorter : (os : List Outgoing) (n : ℕ) → is_asked os n ≡ true → length (others n os) < length os
shorter [] n asked = absurd (cc)
shorter (o ∷ os) n asked = at (o.slot == n) (shorter os n) (no_longer os n) asked
  where
    at : (b : Bool) → (is_asked os n ≡ true → length (others n os) < length os) → length (others n os) ≤ length os
        → (b || is_asked os n) ≡ true → length (cond b (others n os) (o ∷ others n os)) < length (o ∷ os)
    at true later most e = omega arith
    at false later most e = let less = later e in omega (arith, less)

pub free_of_requests : (n : ℕ) (os : List Outgoing) → length os < n → (j : ℕ) × (j < n) × (is_asked os j ≡ false)
free_of_requests zero os few = absurd (omega arith)
free_of_requests (suc n) os few = at (is_asked os n) refl (λ less. free_of_requests n (others n os) less)
  where
    at : (b : Bool) → is_asked os n ≡ b → (length (others n os) < n → (j : ℕ) × (j < n) × (is_asked (others n os) j ≡ false))
        → (j : ℕ) × (j < suc n) × (is_asked os j ≡ false)
    at false none later = (n, omega arith, none)
    at true asked later =
        let less = shorter os n asked in
        let found = later (omega (arith, less, few)) in
        (found.0, omega (arith, found.1), sym (asked_others os n found.0 found.1) ∙ found.2)

used_by : (asked stage : Bool) (logout : Option ℕ) (j : ℕ) → logout ≡ None → asked ≡ false
    → (asked || (stage || is_slot logout j)) ≡ true → stage ≡ true
used_by asked stage logout j none free used = at stage (subst (λ o. (false || (stage || is_slot o j)) ≡ true) none (subst (λ a. (a || (stage || is_slot logout j)) ≡ true) free used))
  where
    at : (b : Bool) → (b || false) ≡ true → b ≡ true
    at true e = refl
    at false e = absurd (cc)

-- where each slot is used, one of them is the login's alone
pub the_logins : (s : ClientState) → IsFull (is_used s) → length s.outgoing < 200 → s.logout ≡ None
    → (slot : ℕ) × IsTheLogins (is_used s) s.outgoing s.login slot
the_logins s full few none =
    let found = free_of_requests 200 s.outgoing few in (
      found.0,
      record {
        within = found.1;
        all = full;
        its = used_by (is_asked s.outgoing found.0) (stage_uses s.login found.0) s.logout found.0 none found.2 (full found.0 found.1);
        free = found.2;
      },
    )

same_slot : (x y : ℕ) → (x == y) ≡ true → y ≡ x
same_slot x y e = grind (arith, nat_tests)

pub not_idle : (used : ℕ → Bool) (os : List Outgoing) (login : Stage) (slot : ℕ) → IsTheLogins used os login slot → login ≡ Idle → ⊥
not_idle used os login slot is idle = let e : stage_uses Idle slot ≡ true = subst (λ (t : Stage). stage_uses t slot ≡ true) idle is.its in cc

pub of_stage : (used : ℕ → Bool) (os : List Outgoing) (login : Stage) (slot own : ℕ) → IsTheLogins used os login slot
    → stage_uses login slot ≡ (own == slot) → IsTheLogins used os login own
of_stage used os login slot own is e = subst (IsTheLogins used os login) (same_slot own slot (sym e ∙ is.its)) is
