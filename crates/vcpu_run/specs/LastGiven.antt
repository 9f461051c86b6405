-- The answers of a login that goes on, and of those behind it, are the last that its client's queue got, and it got them in its present session.
use Rattle.std.specs.Prelude.{◌≡◌, ◌⊎◌, ◌++◌, ◌<◌, ◌≤◌, ℕ, true, false, All, List, [], Some, IfSome, filter, if◌then◌else◌, length}
use Rattle.std.specs.List.{slice_get}
use Rattle.vio_num.specs.declared.history.Grant.{Grant}
use Rattle.vio_num.specs.declared.history.Grant.TheVariants.{Granted}
use Rattle.vio_num.specs.declared.history.Served.{Served}
use Rattle.vio_num.specs.declared.names.UnitId.{UnitId}
use Rattle.crq_ring.specs.Sessions.{of_session}
use Rattle.crq_session.specs.EndState.{EndState}
use Rattle.crq_session.specs.PlainState.{end_of, side_of}
use Rattle.crq_session.specs.declared.link.PlainLink.{PlainLink}
use Rattle.block_server.specs.Answering.{answers_of}
use Rattle.block_server.specs.Entries.{is_response}
use Rattle.block_server.specs.Owed.{IsCutOff, IsEventAhead, IsEventKept}
use Rattle.block_server.specs.declared.unit.Unit.{Unit}

-- Each row of the unit among these is of an earlier login.
abbrev pub AreEarlier : UnitId → (login : ℕ) → List Served → Type 0
AreEarlier unit login rows = All (λ row. row.unit ≡ unit → row.login < login) rows

-- Behind rows of which none is of the login or of a later one, at most so many of the unit have their answers.
pub record HasFewBehind (unit : UnitId) (login count : ℕ) (history : List Served) : Type 0 where
  pub before : List Served
  pub behind : List Served
  pub parts : history ≡ before ++ behind
  pub earlier : AreEarlier unit login before
  pub few : length (answers_of unit behind) ≤ count

-- an event that says that the partner is gone is on its way to the own queue
abbrev pub IsEventComing : EndState → Type 0
IsEventComing queue = IsEventAhead queue ⊎ IsEventKept queue

-- how many responses the client's queue got in its present session, and none where it is not registered
abbrev pub responses_now : PlainLink → ℕ
responses_now link = length (filter is_response (of_session (side_of link false).queue.session (side_of link false).queue.sent))

abbrev pub most_now : PlainLink → ℕ
most_now link = if (side_of link false).registered then responses_now link else 0

-- A login is cut off, or an event is coming, or its answers and those behind are all of the present session.
abbrev pub IsLastGiven : UnitId → PlainLink → List Grant → List Served → (session login : ℕ) → Type 0
IsLastGiven unit link grants history session login =
    IsCutOff unit grants session login ⊎ (IsEventComing (end_of [] link true) ⊎ HasFewBehind unit login (most_now link) history)

-- So it is of each login that a line grants to the unit in a session.
abbrev pub AreLastGiven : UnitId → PlainLink → List Grant → List Served → Type 0
AreLastGiven unit link grants history = (place session login number credits : ℕ) → 1 ≤ session
    → slice_get grants place ≡ Some (Granted unit session login number credits) → ∥ IsLastGiven unit link grants history session login ∥₁

-- the same of the unit of this number
abbrev pub HaveLastGiven : List Unit → (unit : ℕ) → UnitId → PlainLink → List Grant → List Served → Type 0
HaveLastGiven units unit id link grants history = IfSome (slice_get units unit) (λ u. AreLastGiven id link grants history)
