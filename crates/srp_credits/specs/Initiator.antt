-- The credits of a login as the initiator keeps them.
use Rattle.std.specs.Prelude.{◌≡◌, ℕ, ◌+◌, ◌≤◌, [], true, false, List, length, Option, MatchOption, pos}
use Rattle.srp_credits.specs.History.{Event, is_on, outstanding, limit, IsLawful}

pub record InitiatorCredits : Type 0 where
  -- how many more requests may be sent; None where no login is on
  pub limit : Option ℕ
  -- the tags of the requests that are not answered, the oldest first
  pub tags : List ℕ

-- the credits of an initiator that lived this history
pub record IsAfter (es : List Event) (credits : InitiatorCredits) : Type 0 where
  pub lawful : IsLawful es
  pub login : MatchOption credits.limit (is_on es ≡ false) (λ n. is_on es ≡ true)
  pub allows : MatchOption credits.limit (limit es ≡ pos 0) (λ n. limit es ≡ pos n)
  pub sent : credits.tags ≡ outstanding es

-- at most 200 requests are outstanding or may be sent, and none is outstanding without a login
abbrev pub IsCapped : InitiatorCredits → Type 0
IsCapped credits = MatchOption credits.limit (credits.tags ≡ []) (λ n. n + length credits.tags ≤ 200)

-- the credits are those after some history, and are capped
pub record HasHistory (credits : InitiatorCredits) : Type 0 where
  pub events : List Event
  pub after : IsAfter events credits
  pub capped : IsCapped credits
