-- The credits of a login as the target keeps them.
use Rattle.std.specs.Prelude.{◌≡◌, ℕ, ◌+◌, ◌≤◌, Bool, List, length}
use Rattle.srp_credits.specs.declared.fault.CreditFault.{CreditFault}
use Rattle.srp_credits.specs.declared.fault.CreditFault.TheVariants.{OverLimit}
use Rattle.srp_credits.specs.History.{Event, is_on, outstanding, logins, IsWithinGrant}

pub record TargetCredits : Type 0 where
  -- how many requests each login grants
  pub granted : ℕ
  -- how many logins there were
  pub logins : ℕ
  -- whether a login is on
  pub on : Bool
  -- how many requests were accepted and not answered
  pub outstanding : ℕ

-- the credits of a target that lived this history
pub record TargetIsAfter (es : List Event) (credits : TargetCredits) : Type 0 where
  pub lawful : IsWithinGrant credits.granted es
  pub counted : credits.logins ≡ logins es
  pub login : credits.on ≡ is_on es
  pub accepted : credits.outstanding ≡ length (outstanding es)

-- the credits are those after some history, and no more is outstanding than granted
pub record TargetHasHistory (credits : TargetCredits) : Type 0 where
  pub events : List Event
  pub after : TargetIsAfter events credits
  pub within : credits.outstanding ≤ credits.granted

-- the refusal of one request more: how many would be outstanding, and how many are granted
abbrev pub over_limit : TargetCredits → CreditFault
over_limit credits = OverLimit (credits.outstanding + 1) credits.granted
