-- What a plain client refuses is what the replay of its lines refuses.
use Rattle.std.proofs.Common.{◌≡◌, ◌∙◌, ◌⊎◌, inl, inr, ℕ, ◌≤◌, ◌==◌, nat_le, not, Bool, true, false, cond, List, [], ◌∷◌, Option, Some, None, find, is_some, length, min, refl, sym, ap, arith}
use Rattle.std.specs.Option.{option_map}
use Rattle.std.proofs.lemmas.Bool.Decides.{nat_tests}
use Rattle.vio_trace.specs.declared.outcome.Outcome.{Outcome}
use Rattle.vio_trace.specs.declared.outcome.Outcome.TheVariants as outcomes
use Rattle.vscsi_client.specs.Sending.{logout_refused_by, refused_by, waits_for}
use Rattle.vscsi_client.specs.Spans.{first_sharing, op_in_range}
use Rattle.vscsi_client.specs.declared.answers.Refused.{Refused}
use Rattle.vscsi_client.specs.declared.answers.Refused.TheVariants as whys
use Rattle.vscsi_client.specs.declared.op.Op.{Op}
use Rattle.vscsi_client.specs.declared.outgoing.Outgoing.{Outgoing}
use Rattle.vcpu_run.specs.PlainSteps.{AreReplayedAs}
use Rattle.vcpu_run.specs.Replay.{Asked as Replayed, Range, Replay, any_share, lie_within, logout_refusal, oldest, oldest_sharing, refusal}
use Rattle.vcpu_run.specs.Sendings.{says_as}
use Rattle.vcpu_run.proofs.PlainShares.{overlap_by, replayed_long}

-- what the record of a line says that sends something, if it was refused
abbrev pub says_of : Option Refused → Option Outcome
says_of None = None
says_of (Some why) = says_as why

-- What a client knows of the login that is on, and of what is outstanding, is what the replay knows.
pub record KnowsCredits (grant : ℕ) (now : Replay) (granted : Option ℕ) (outgoing : List Outgoing) : Type 0 where
  pub is_on : is_some granted ≡ now.is_on
  pub grants : (granted ≡ None) ⊎ (granted ≡ Some (min grant 200))
  pub most : grant ≤ 200
  pub are : AreReplayedAs outgoing now.outstanding
  pub within : length now.outstanding ≤ grant

some_none : {X : Type 0} {x : X} → Some x ≡ None → ⊥
some_none e = cc (e)

some_same : (x y : ℕ) → Some x ≡ Some y → x ≡ y
some_same x y e = cc (e)

overlaps : (found : Option ℕ) → says_of (option_map (λ (tag : ℕ). whys.Overlap tag) found) ≡ overlap_by found
overlaps None = refl
overlaps (Some tag) = refl

-- so many are outstanding as are granted
no_credit : (n m grant : ℕ) → n ≡ grant → m ≤ grant → nat_le n m ≡ (m == grant)
no_credit n m grant is within = at (nat_le n m) (m == grant) refl refl
  where
    at : (b c : Bool) → nat_le n m ≡ b → (m == grant) ≡ c → nat_le n m ≡ (m == grant)
    at true true p q = p ∙ sym q
    at false false p q = p ∙ sym q
    at true false p q = absurd (grind (arith, nat_tests, p, q, is, within))
    at false true p q = absurd (grind (arith, nat_tests, p, q, is, within))

-- what speaks against a request but its range, with what an outstanding one says that shares a page
abbrev pub refusal_on : (grant : ℕ) → Replay → Option Outcome → Option Outcome
refusal_on grant now shared =
    cond (not now.is_on) (Some outcomes.NotLoggedIn) (cond (length now.outstanding == grant) (Some (outcomes.NoCredit 0)) shared)

pub credit_as : (grant : ℕ) (now : Replay) (granted : Option ℕ) (outgoing : List Outgoing) (found : Option ℕ) → KnowsCredits grant now granted outgoing
    → says_of (refused_by granted (length outgoing) found) ≡ refusal_on grant now (overlap_by found)
credit_as grant now None outgoing found knows =
    ap (λ b. cond (not b) (Some outcomes.NotLoggedIn) (cond (length now.outstanding == grant) (Some (outcomes.NoCredit 0)) (overlap_by found))) knows.is_on
credit_as grant now (Some n) outgoing found knows =
    at (nat_le n (length outgoing))
    ∙ ap (λ b. cond b (Some (outcomes.NoCredit 0)) (overlap_by found)) same
    ∙ ap (λ b. cond (not b) (Some outcomes.NotLoggedIn) (cond (length now.outstanding == grant) (Some (outcomes.NoCredit 0)) (overlap_by found))) knows.is_on
  where
    n_is : (Some n ≡ None) ⊎ (Some n ≡ Some (min grant 200)) → n ≡ grant
    n_is (inl none) = absurd (some_none none)
    n_is (inr some) = omega (arith, some_same n (min grant 200) some, knows.most)

    same : nat_le n (length outgoing) ≡ (length now.outstanding == grant)
    same = ap (nat_le n) (replayed_long outgoing now.outstanding knows.are) ∙ no_credit n (length now.outstanding) grant (n_is knows.grants) knows.within

    at : (b : Bool) → says_of (cond b (Some (whys.NoCredit 0)) (option_map (λ (tag : ℕ). whys.Overlap tag) found)) ≡ cond b (Some (outcomes.NoCredit 0)) (overlap_by found)
    at true = refl
    at false = overlaps found

-- a command
pub command_as : (grant pages : ℕ) (now : Replay) (granted : Option ℕ) (outgoing : List Outgoing) (op : Op) (ranges : List Range) → KnowsCredits grant now granted outgoing
    → lie_within pages ranges ≡ op_in_range pages op → overlap_by (first_sharing op outgoing) ≡ oldest_sharing ranges now.outstanding
    → says_of (cond (op_in_range pages op) (refused_by granted (length outgoing) (first_sharing op outgoing)) (Some whys.Range)) ≡ refusal grant pages now ranges
command_as grant pages now granted outgoing op ranges knows range shared =
    at (op_in_range pages op)
    ∙ ap (λ b. cond (not b) (Some outcomes.Range) (refusal_on grant now (oldest_sharing ranges now.outstanding))) (sym range)
  where
    rest : says_of (refused_by granted (length outgoing) (first_sharing op outgoing)) ≡ refusal_on grant now (oldest_sharing ranges now.outstanding)
    rest = credit_as grant now granted outgoing (first_sharing op outgoing) knows ∙ ap (refusal_on grant now) shared

    at : (b : Bool) → says_of (cond b (refused_by granted (length outgoing) (first_sharing op outgoing)) (Some whys.Range))
        ≡ cond (not b) (Some outcomes.Range) (refusal_on grant now (oldest_sharing ranges now.outstanding))
    at true = rest
    at false = refl

-- a task, which has no bytes
any_nothing : (ranges : List Range) → any_share ranges [] ≡ false
any_nothing [] = refl
any_nothing (r ∷ ranges) = any_nothing ranges

nothing_shares : (outstanding : List Replayed) → oldest_sharing [] outstanding ≡ None
nothing_shares [] = refl
nothing_shares (asked ∷ outstanding) =
    ap (λ b. option_map (λ (one : Replayed). outcomes.Overlap one.tag) (cond b (Some asked) (find (λ (one : Replayed). any_share one.ranges []) outstanding)))
    (any_nothing asked.ranges)
    ∙ nothing_shares outstanding

pub task_as : (grant pages : ℕ) (now : Replay) (granted : Option ℕ) (outgoing : List Outgoing) → KnowsCredits grant now granted outgoing
    → says_of (refused_by granted (length outgoing) None) ≡ refusal grant pages now []
task_as grant pages now granted outgoing knows = credit_as grant now granted outgoing None knows ∙ ap (refusal_on grant now) (sym (nothing_shares now.outstanding))

-- a logout
pub logout_as : (grant : ℕ) (now : Replay) (granted : Option ℕ) (outgoing : List Outgoing) → KnowsCredits grant now granted outgoing
    → says_of (logout_refused_by granted outgoing) ≡ logout_refusal now
logout_as grant now None outgoing knows = ap (λ b. cond b (oldest now.outstanding) (Some outcomes.NotLoggedIn)) knows.is_on
logout_as grant now (Some n) outgoing knows =
    at outgoing now.outstanding knows.are ∙ ap (λ b. cond b (oldest now.outstanding) (Some outcomes.NotLoggedIn)) knows.is_on
  where
    at : (outgoing : List Outgoing) (outstanding : List Replayed) → AreReplayedAs outgoing outstanding → says_of (waits_for outgoing) ≡ oldest outstanding
    at [] [] are = refl
    at [] (asked ∷ outstanding) are = absurd are
    at (o ∷ outgoing) [] are = absurd are
    at (o ∷ outgoing) (asked ∷ outstanding) are = ap (λ (tag : ℕ). Some (outcomes.Overlap tag)) are.0.tag
