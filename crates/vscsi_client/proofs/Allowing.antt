-- What stands where nothing speaks against a request.
use Rattle.std.proofs.Common.{◌≡◌, ◌∙◌, ℕ, ◌+◌, ◌<◌, Bool, true, false, List, Option, Some, None, IsSomeAnd, IfSome, nat_le, length, subst, sym, ap, cond, arith, refl}
use Rattle.std.proofs.lemmas.Bool.Decides.{nat_tests}
use Rattle.std.proofs.lemmas.List.{length-map}
use Rattle.std.specs.Option.{option_map}
use Rattle.srp_credits.specs.Initiator.{InitiatorCredits, HasHistory, IsCapped}
use Rattle.vscsi_client.specs.declared.answers.Refused.{Refused}
use Rattle.vscsi_client.specs.declared.answers.Refused.TheVariants.{Range, NoCredit, Overlap}
use Rattle.vscsi_client.specs.declared.outgoing.Outgoing.{Outgoing}
use Rattle.vscsi_client.specs.State.{ClientState, granted_of, tags_of}
use Rattle.vscsi_client.specs.Sending.{refused_by}

-- where nothing speaks against a request there is a credit
credit_by : (limit : Option ℕ) (more outstanding : ℕ) (overlap : Option ℕ) → more ≡ outstanding
    → refused_by (option_map (λ n. n + more) limit) outstanding overlap ≡ None → IsSomeAnd limit (λ n. 0 < n)
credit_by None more outstanding overlap same none = absurd (cc)
credit_by (Some n) more outstanding overlap same none = left (nat_le (n + more) outstanding) refl none
  where
    left : (b : Bool) → nat_le (n + more) outstanding ≡ b → cond b (Some (NoCredit 0)) (option_map Overlap overlap) ≡ None → 0 < n
    left true is e = absurd (cc)
    left false is e = grind (arith, nat_tests)

pub not_range : (b : Bool) (x : Option Refused) → cond b x (Some Range) ≡ None → (b ≡ true) × (x ≡ None)
not_range true x e = (refl, e)
not_range false x e = absurd (cc)

pub credit_left : (s : ClientState) (overlap : Option ℕ) (credits : InitiatorCredits) → refused_by s.granted (length s.outgoing) overlap ≡ None
    → granted_of credits ≡ s.granted → credits.tags ≡ tags_of s.outgoing → IsSomeAnd credits.limit (λ n. 0 < n)
credit_left s overlap credits none granted tags =
    credit_by credits.limit (length credits.tags) (length s.outgoing) overlap
    (ap length tags ∙ length-map s.outgoing (λ (o : Outgoing). o.tag))
    (subst (λ g. refused_by g (length s.outgoing) overlap ≡ None) (sym granted) none)

few_by : (limit : Option ℕ) (tags : List ℕ) → IsCapped (record { limit = limit; tags = tags }) → IsSomeAnd limit (λ n. 0 < n) → length tags < 200
few_by None tags capped some = absurd some
few_by (Some n) tags capped some = omega (arith, capped, some)

-- where a credit is left, fewer than 200 requests are outstanding
pub few_left : (credits : InitiatorCredits) (outgoing : List Outgoing) → HasHistory credits → credits.tags ≡ tags_of outgoing
    → IsSomeAnd credits.limit (λ n. 0 < n) → length outgoing < 200
few_left credits outgoing history tags some =
    let few = few_by credits.limit credits.tags history.capped some in
    let same : length credits.tags ≡ length outgoing = ap length tags ∙ length-map outgoing (λ (o : Outgoing). o.tag) in
    omega (arith, few, same)

-- and a login is on
pub some_of : (limit : Option ℕ) (P : Type 0) → IsSomeAnd limit (λ n. 0 < n) → IfSome limit (λ _. P) → P
some_of None P some h = absurd some
some_of (Some n) P some h = h
