-- Which login was on as another was rejected: the one that the lines say which stood then (SRP, "Login process").
use Rattle.std.specs.Prelude.{⊤, ◌≡◌, ◌<◌, ◌++◌, ℕ, Bool, true, List, [], ◌∷◌, Option, Some, None, IfSome, filter, slice_get}
use Rattle.std.specs.List.{filter_map}
use Rattle.crq_session.specs.EndState.{EndState}
use Rattle.vio_num.specs.declared.history.Grant.{Grant}
use Rattle.vio_num.specs.declared.names.UnitId.{UnitId}
use Rattle.block_server.specs.Closings.{is_line}
use Rattle.block_server.specs.LoginAnswers.{LoginAnswer, grants_in, line_of}
use Rattle.block_server.specs.Numbers.{login_on}
use Rattle.block_server.specs.Receipts.{is_ended}
use Rattle.block_server.specs.declared.unit.Unit.{Unit}

-- By a front of these lines this login was on in the session, or none where it is 0; the lines of that front that grant a login are these.
pub record IsOnThen (unit : UnitId) (granted lines : List Grant) (session on : ℕ) : Type 0 where
  pub before : List Grant
  pub after : List Grant
  pub parts : lines ≡ before ++ after
  pub grants : grants_in before ≡ granted
  pub on_is : on ≡ login_on unit session before

-- So it is of an answer that rejects a login.
abbrev pub RejectsThen : UnitId → (granted lines : List Grant) → Option Grant → LoginAnswer → Type 0
RejectsThen unit granted lines (Some line) answer = ⊤
RejectsThen unit granted lines None answer = IsOnThen unit granted lines answer.asked.session answer.on

-- So it is of each of these answers, where the lines that grant a login are those from before and those of the earlier answers.
abbrev pub RejectInTime : UnitId → (granted lines : List Grant) → List LoginAnswer → Type 0
RejectInTime unit granted lines [] = ⊤
RejectInTime unit granted lines (answer ∷ answers) =
    RejectsThen unit granted lines answer.line answer × RejectInTime unit (granted ++ filter_map line_of (answer ∷ [])) lines answers

-- KEPT BETWEEN TURNS ------------------------------------------------------------------------------

-- The login that is on is the one that the unit's lines leave on in its present session; none is on where nothing more is taken in
-- that; and no line is of a later session.
pub record IsOnByLines (unit : UnitId) (session current : ℕ) (ended : Bool) (lines : List Grant) : Type 0 where
  pub on : current ≡ login_on unit session lines
  pub off : ended ≡ true → current ≡ 0
  pub later : (q : ℕ) → session < q → filter (is_line unit q) lines ≡ []

-- So it is of the unit of this number.
abbrev pub LinesTellLogin : List Unit → (number : ℕ) → UnitId → EndState → List Grant → Type 0
LinesTellLogin units number unit queue lines =
    IfSome (slice_get units number) (λ u. IsOnByLines unit queue.last_session u.logins.current (is_ended u.line) lines)
