-- The credits of a login (SRP, "Flow control"), over what happened between an initiator and a target.
-- A history is a list of events, the latest first.
use Rattle.std.specs.Prelude.{◌≡◌, ℕ, ◌+◌, ◌≤◌, Bool, true, false, List, [], ◌∷◌, ◌++◌, length, min, ◌==◌, if◌then◌else◌, Contains, count_by, ℤ, pos, ◌+ℤ◌, ◌-ℤ◌, ◌<ℤ◌}
use Rattle.std.specs.Int.{int_min}

pub data Event : Type 0 where
  -- a login begins, and grants this many requests (REQUEST LIMIT DELTA of SRP_LOGIN_RSP)
  Login : (delta : ℕ) → Event
  -- a request with this tag is sent
  Sent : (tag : ℕ) → Event
  -- the request with this tag is answered, and the answer grants so many more (its REQUEST LIMIT DELTA)
  Answered : (tag delta : ℕ) → Event
  -- the login ends; what was sent before may still be answered
  Logout : Event
  -- the partner is gone, and with it the login and all that was sent
  Lost : Event

-- whether a login is on
abbrev pub is_on : List Event → Bool
is_on [] = false
is_on (Login delta ∷ es) = true
is_on (Sent tag ∷ es) = is_on es
is_on (Answered tag delta ∷ es) = is_on es
is_on (Logout ∷ es) = false
is_on (Lost ∷ es) = false

-- these tags without the first that is this one
abbrev pub without : ℕ → List ℕ → List ℕ
without tag [] = []
without tag (x ∷ xs) = if x == tag then xs else x ∷ without tag xs

-- the tags that were sent and not answered since the last login or loss, the oldest first
abbrev pub outstanding : List Event → List ℕ
outstanding [] = []
outstanding (Login delta ∷ es) = []
outstanding (Sent tag ∷ es) = outstanding es ++ tag ∷ []
outstanding (Answered tag delta ∷ es) = without tag (outstanding es)
outstanding (Logout ∷ es) = outstanding es
outstanding (Lost ∷ es) = []

-- the request limit after an answer: it rises by what the answer grants, but not above 200 less what is
-- then outstanding; where no login is on it stays 0
abbrev pub raised : Bool → ℤ → (delta used : ℕ) → ℤ
raised false before delta used = pos 0
raised true before delta used = int_min (before +ℤ pos delta) (pos 200 -ℤ pos used)

-- the request limit: how many more requests may be sent. It begins as what the login granted, of which
-- 200 count; a request lowers it by one; an answer raises it; while no login is on it is 0. A history that
-- no initiator lives may take it below 0.
abbrev pub limit : List Event → ℤ
limit [] = pos 0
limit (Login delta ∷ es) = pos (min delta 200)
limit (Sent tag ∷ es) = limit es -ℤ pos 1
limit (Answered tag delta ∷ es) = raised (is_on es) (limit es) delta (length (without tag (outstanding es)))
limit (Logout ∷ es) = pos 0
limit (Lost ∷ es) = pos 0

-- how many requests the last login granted
abbrev pub granted : List Event → ℕ
granted [] = 0
granted (Login delta ∷ es) = delta
granted (Sent tag ∷ es) = granted es
granted (Answered tag delta ∷ es) = granted es
granted (Logout ∷ es) = granted es
granted (Lost ∷ es) = granted es

-- how many logins there were
abbrev pub logins : List Event → ℕ
logins [] = 0
logins (Login delta ∷ es) = logins es + 1
logins (Sent tag ∷ es) = logins es
logins (Answered tag delta ∷ es) = logins es
logins (Logout ∷ es) = logins es
logins (Lost ∷ es) = logins es

-- a tag is sent under a login and while it is not outstanding, and answered only while it is
abbrev pub IsProper : List Event → Type 0
IsProper [] = Unit {0}
IsProper (Login delta ∷ es) = IsProper es
IsProper (Sent tag ∷ es) = IsProper es × (is_on es ≡ true) × (¬ Contains (outstanding es) tag)
IsProper (Answered tag delta ∷ es) = IsProper es × Contains (outstanding es) tag
IsProper (Logout ∷ es) = IsProper es
IsProper (Lost ∷ es) = IsProper es

-- each request was sent while the limit was above 0
abbrev pub IsWithinLimit : List Event → Type 0
IsWithinLimit [] = Unit {0}
IsWithinLimit (Login delta ∷ es) = IsWithinLimit es
IsWithinLimit (Sent tag ∷ es) = IsWithinLimit es × (pos 0 <ℤ limit es)
IsWithinLimit (Answered tag delta ∷ es) = IsWithinLimit es
IsWithinLimit (Logout ∷ es) = IsWithinLimit es
IsWithinLimit (Lost ∷ es) = IsWithinLimit es

-- what an initiator accepts
pub record IsLawful (es : List Event) : Type 0 where
  pub proper : IsProper es
  pub within : IsWithinLimit es

-- what a target that grants n requests accepts: a login while none is on, a request under a login while
-- fewer than n are outstanding, and an answer to one that is. The target does not look at tags: a tag may
-- be sent again while it is outstanding
abbrev pub IsWithinGrant : ℕ → List Event → Type 0
IsWithinGrant n [] = Unit {0}
IsWithinGrant n (Login delta ∷ es) = IsWithinGrant n es × (is_on es ≡ false) × (delta ≡ n)
IsWithinGrant n (Sent tag ∷ es) = IsWithinGrant n es × (is_on es ≡ true) × (length (outstanding es) + 1 ≤ n)
IsWithinGrant n (Answered tag delta ∷ es) = IsWithinGrant n es × Contains (outstanding es) tag
IsWithinGrant n (Logout ∷ es) = IsWithinGrant n es
IsWithinGrant n (Lost ∷ es) = IsWithinGrant n es

-- each answer since the last login granted one
abbrev pub GrantsOneEach : List Event → Type 0
GrantsOneEach [] = Unit {0}
GrantsOneEach (Login delta ∷ es) = Unit {0}
GrantsOneEach (Sent tag ∷ es) = GrantsOneEach es
GrantsOneEach (Answered tag delta ∷ es) = GrantsOneEach es × (delta ≡ 1)
GrantsOneEach (Logout ∷ es) = GrantsOneEach es
GrantsOneEach (Lost ∷ es) = GrantsOneEach es

-- how often this tag was sent since the last login or loss
abbrev pub times_sent : ℕ → List Event → ℕ
times_sent t [] = 0
times_sent t (Login delta ∷ es) = 0
times_sent t (Sent tag ∷ es) = times_sent t es + (if tag == t then 1 else 0)
times_sent t (Answered tag delta ∷ es) = times_sent t es
times_sent t (Logout ∷ es) = times_sent t es
times_sent t (Lost ∷ es) = 0

-- how often this tag was answered since the last login or loss
abbrev pub times_answered : ℕ → List Event → ℕ
times_answered t [] = 0
times_answered t (Login delta ∷ es) = 0
times_answered t (Sent tag ∷ es) = times_answered t es
times_answered t (Answered tag delta ∷ es) = times_answered t es + (if tag == t then 1 else 0)
times_answered t (Logout ∷ es) = times_answered t es
times_answered t (Lost ∷ es) = 0

-- how often this tag is outstanding
abbrev pub times_outstanding : ℕ → List Event → ℕ
times_outstanding t es = count_by (λ x. x == t) (outstanding es)
