-- The laws of credits, over every history.
use Rattle.std.proofs.Common.{◌≡◌, ◌↔◌, ℕ, ◌+◌, ◌≤◌, true, false, List, length, min, arith, pos, ◌+ℤ◌, ◌≤ℤ◌, ◌<ℤ◌}
use Rattle.std.proofs.lemmas.Int.{ints}
use Rattle.srp_credits.specs.History.{Event, is_on, outstanding, limit, granted, IsProper, IsLawful, IsWithinGrant, GrantsOneEach, times_sent, times_answered, times_outstanding}
use Rattle.srp_credits.proofs.Kept.{IsKept, kept, granted_whole, no_login, grant_kept, balance, once}
pub use Rattle.srp_credits.proofs.Lists.{length-without}

-- An initiator that sends only above limit 0 never takes its limit below 0, and limit and outstanding
-- requests stay at most 200 together.
pub limit_is_kept : (es : List Event) → IsLawful es → IsKept es
limit_is_kept es h = kept es h.proper h.within

-- The limit is 0 while no login is on.
pub no_limit_without_login : (es : List Event) → IsProper es → is_on es ≡ false → limit es ≡ pos 0
no_limit_without_login = no_login

-- Under a login where each answer grants one, limit and outstanding requests are together what the login
-- granted, of which 200 count.
pub limit_and_outstanding : (es : List Event) → IsProper es → GrantsOneEach es → is_on es ≡ true
    → limit es +ℤ pos (length (outstanding es)) ≡ pos (min (granted es) 200)
limit_and_outstanding = granted_whole

-- So an initiator that keeps its limit and a target that keeps its grant allow the same requests: those there are,
-- and the next.
pub sides_agree : (es : List Event) → IsProper es → GrantsOneEach es → is_on es ≡ true
    → (pos 0 ≤ℤ limit es) ↔ (length (outstanding es) ≤ min (granted es) 200)
sides_agree es p g o =
    (λ h. omega (arith, ints, granted_whole es p g o, h), λ h. omega (arith, ints, granted_whole es p g o, h))

pub sides_agree_next : (es : List Event) → IsProper es → GrantsOneEach es → is_on es ≡ true
    → (pos 0 <ℤ limit es) ↔ (length (outstanding es) + 1 ≤ min (granted es) 200)
sides_agree_next es p g o =
    (λ h. omega (arith, ints, granted_whole es p g o, h), λ h. omega (arith, ints, granted_whole es p g o, h))

-- A target never has more requests outstanding than it granted.
pub grant_is_kept : (n : ℕ) (es : List Event) → IsWithinGrant n es → length (outstanding es) ≤ n
grant_is_kept = grant_kept

-- Each answer has a request of its own: since the last login or loss a tag was sent as often as it was
-- answered, and once more where it is outstanding.
pub each_answer_has_its_request : (es : List Event) (tag : ℕ) → IsProper es
    → times_sent tag es ≡ times_answered tag es + times_outstanding tag es
each_answer_has_its_request = balance

pub a_tag_is_outstanding_once : (es : List Event) (tag : ℕ) → IsProper es → times_outstanding tag es ≤ 1
a_tag_is_outstanding_once = once
