-- Which login each line names: the logins of a unit have the numbers from 1, and a line that ends one names the login that is
-- on (SRP, "Login process").
use Rattle.std.specs.Prelude.{⊤, ◌≡◌, ◌==◌, ◌&&◌, ◌+◌, ◌<◌, ◌++◌, ℕ, Bool, true, false, List, [], ◌∷◌, Option, Some, None, if◌then◌else◌, length, filter, map}
use Rattle.std.specs.List.{filter_map}
use Rattle.vio_num.specs.declared.history.Grant.{Grant}
use Rattle.vio_num.specs.declared.history.Grant.TheVariants.{Granted, Lapsed}
use Rattle.vio_num.specs.declared.names.UnitId.{UnitId}
use Rattle.block_server.specs.Closings.{last_line}
use Rattle.block_server.specs.Makers.{same_unit}
use Rattle.block_server.specs.declared.request.Request.{Request}

-- whether a line grants a login to a unit, and how many these grant
abbrev pub grants_to : UnitId → Grant → Bool
grants_to unit (Granted of session login number credits) = same_unit of unit
grants_to unit (Lapsed of session login cause outstanding granted) = false

abbrev pub granted_to : UnitId → List Grant → ℕ
granted_to unit lines = length (filter (grants_to unit) lines)

-- the login that a line leaves on, or 0
abbrev pub login_left : Option Grant → ℕ
login_left (Some (Granted of session login number credits)) = login
login_left line = 0

-- the login that is on in a session behind these lines: the one that its last line grants, or 0
abbrev pub login_on : UnitId → (session : ℕ) → List Grant → ℕ
login_on unit session lines = login_left (last_line unit session lines)

-- A line of the unit, behind these, grants its next login, by number, while none is on in the session, or ends the one that is on.
abbrev pub NamesLogin : UnitId → (before : List Grant) → Grant → Type 0
NamesLogin unit before (Granted of session login number credits) =
    same_unit of unit ≡ true → (login ≡ granted_to unit before + 1) × (login_on unit session before ≡ 0)
NamesLogin unit before (Lapsed of session login cause outstanding granted) = same_unit of unit ≡ true → login ≡ login_on unit session before

-- Each of these lines does, behind those and the earlier ones.
abbrev pub NameLogins : UnitId → (before : List Grant) → List Grant → Type 0
NameLogins unit before [] = ⊤
NameLogins unit before (line ∷ lines) = NamesLogin unit before line × NameLogins unit (before ++ line ∷ []) lines

-- KEPT BETWEEN TURNS -----------------------------------------------------------------------------

-- The last login has the number of grants, the login that is on is the one that the lines leave on, and each line names its own.
pub record KeepsNumbers (unit : UnitId) (session current last : ℕ) (grants : List Grant) : Type 0 where
  pub count : last ≡ granted_to unit grants
  pub on : current ≡ login_on unit session grants
  pub each : NameLogins unit [] grants

-- RISING -----------------------------------------------------------------------------------------

-- the number of the entry over which a line grants a login to a unit in a session, if it does
abbrev pub granted_number : UnitId → (session : ℕ) → Grant → Option ℕ
granted_number unit session (Granted of other login number credits) = if same_unit of unit && (other == session) then Some number else None
granted_number unit session (Lapsed of other login cause outstanding granted) = None

-- those numbers, in the order of the lines
abbrev pub granted_numbers : UnitId → (session : ℕ) → List Grant → List ℕ
granted_numbers unit session lines = filter_map (granted_number unit session) lines

-- the numbers of the entries of requests
abbrev pub numbers_of : List Request → List ℕ
numbers_of requests = map (λ request. request.number) requests

-- Each of these numbers is above this one; each is below this one; and each is below all that stand behind it.
abbrev pub AreAbove : ℕ → List ℕ → Type 0
AreAbove n [] = ⊤
AreAbove n (m ∷ ms) = (n < m) × AreAbove n ms

abbrev pub AreBelow : ℕ → List ℕ → Type 0
AreBelow n [] = ⊤
AreBelow n (m ∷ ms) = (m < n) × AreBelow n ms

abbrev pub Rise : List ℕ → Type 0
Rise [] = ⊤
Rise (n ∷ ns) = AreAbove n ns × Rise ns

-- In each session the numbers of the entries over which logins were granted rise: of two logins the later was asked for later.
-- In the present one those that are pending follow, and the entry that is judged next is behind them all.
pub record KeepsRising (unit : UnitId) (session next : ℕ) (pending : List Request) (grants : List Grant) : Type 0 where
  pub each : (q : ℕ) → Rise (granted_numbers unit q grants)
  pub now : Rise (granted_numbers unit session grants ++ numbers_of pending)
  pub below : AreBelow next (granted_numbers unit session grants ++ numbers_of pending)
