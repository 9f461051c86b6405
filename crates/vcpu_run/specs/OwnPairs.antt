-- An own client at its pair: it and its server unit talk, or the unit's session is over, or was; and what was laid, noted and told.
use Rattle.std.specs.Prelude.{◌≡◌, ◌⊎◌, ◌+◌, ◌≤◌, ◌==◌, ℕ, All, Bool, true, false, List, [], Option, Some, None, drop, slice_get, if◌then◌else◌}
use Rattle.std.specs.List.{list_any}
use Rattle.boot_text.specs.declared.plan.Line.{Line}
use Rattle.boot_text.specs.declared.verb.Verb.{Verb}
use Rattle.boot_text.specs.declared.verb.Verb.TheVariants as verbs
use Rattle.crq_session.specs.EndState.{EndState}
use Rattle.crq_session.specs.PlainState.{end_of}
use Rattle.tce_window.specs.PlainPort.{known_of}
use Rattle.block_server.specs.Doings.{Doing, IsAtRest, doing_at}
use Rattle.block_server.specs.Talk.{Word}
use Rattle.block_server.specs.declared.unit.Unit.{Unit}
use Rattle.vscsi_client.specs.Ports.{ports}
use Rattle.vscsi_client.specs.State.{ClientState}
use Rattle.vscsi_client.specs.declared.stage.Stage.TheVariants.{Idle, Written}
use Rattle.vcpu_run.specs.Credited.{Ended}
use Rattle.vcpu_run.specs.OwnActs.{IsSeenAt, IsSettled}
use Rattle.vcpu_run.specs.OwnClients.{IsGrantOf}
use Rattle.vcpu_run.specs.OwnCounts.{KeepsPair}
use Rattle.vcpu_run.specs.OwnOver.{IsOver, is_login_due}
use Rattle.vcpu_run.specs.PlainBorne.{rows_by}
use Rattle.vcpu_run.specs.PlainClients.{granted_in, grants_of, lines_of, tables_of}
use Rattle.vcpu_run.specs.PlainPairs.{IsNewBetween, ServerBooks, between_of}
use Rattle.vcpu_run.specs.PlainScripts.{OfUnit, StandsAt}
use Rattle.vcpu_run.specs.PlainTalk.{AreEnds, TalksPlainly, grants_one, owes}
use Rattle.vcpu_run.specs.Replay.{Range, Replay, any_share}
use Rattle.vcpu_run.specs.Works.{fails}
use Rattle.vcpu_run.specs.declared.driver.Driver.{Driver}
use Rattle.vcpu_run.specs.declared.pair.Pair.{Pair}
use Rattle.vcpu_run.specs.declared.script.Progress.{Progress}
use Rattle.vcpu_run.specs.declared.script.Progress.TheVariants as progress
use Rattle.vcpu_run.specs.Machines.{server_id}

-- server unit k of this partition, as its client's pair and the server's books show it
abbrev pub doing_of : Unit → (home k : ℕ) → ServerBooks → Pair → Doing
doing_of unit home k books pair = doing_at unit (server_id home k) (end_of [] pair.link true) (known_of pair.window) books.rows books.lines

-- HOW FAR THE CLIENT'S LINE CAME ------------------------------------------------------------------

-- Between its calls nothing of a login is under way.
pub record RestsIdle (s : ClientState) : Type 0 where
  pub settled : IsSettled s
  pub login : s.login ≡ Idle

-- In the midst of a login a client is between its calls, and the login is due once its unit is written, until it is sent.
pub record IsMidLogin (s : ClientState) : Type 0 where
  pub settled : IsSettled s
  pub due : (tag slot : ℕ) → s.login ≡ Written tag slot → list_any is_login_due s.due ≡ true

-- In the midst of a login, or of a reset once its queue was freed, it may be; else the client rests, and its queue is registered.
abbrev pub ComesOver : Verb → Progress → ClientState → EndState → Type 0
ComesOver verbs.Login p s own = IsMidLogin s
ComesOver verbs.Reset progress.Freed s own = IsMidLogin s
ComesOver verb p s own = RestsIdle s × (own.registered ≡ true)

-- The current line, if it is of this unit, came so far; else the unit's client stands between two lines. A line that fails the partition may have
-- failed its queue.
abbrev pub StandsOver : (unit : ℕ) (failed : Bool) → Option Line → Progress → ClientState → EndState → Type 0
StandsOver unit failed None p s own = ((failed ≡ true) × RestsIdle s) ⊎ (RestsIdle s × (own.registered ≡ true))
StandsOver unit failed (Some line) p s own =
    ((failed ≡ false) × OfUnit (line.unit == unit) (ComesOver line.verb p s own) (RestsIdle s × (own.registered ≡ true)))
    ⊎ ((failed ≡ true) × (fails line.verb ≡ true) × RestsIdle s)

-- What spares the tables of the unit's lines spares those of what the replay has outstanding.
abbrev pub SparesLines : (unit : ℕ) → List Line → Replay → Type 0
SparesLines unit lines now = (written : List Range) → All (λ line. any_share written (tables_of line.verb) ≡ false) (lines_of unit lines)
    → All (λ asked. any_share written (drop 1 asked.ranges) ≡ false) now.outstanding

-- BETWEEN TURNS -----------------------------------------------------------------------------------

-- The two talk, and some replay leads to where the client's line came (of all lines that went before, none is said); of the logins that its lines
-- which ended say were granted, and the one that it is owed, each has a line that grants it.
pub record TalksOwn (granted : ℕ) (told : List Ended) (lines : List Line) (home u k : ℕ) (books : ServerBooks) (words : List Word) (line : Option Line) (p : Progress) (unit : Unit) (driver : Driver) (pair : Pair) : Type 0 where
  pub talks : TalksPlainly granted (between_of unit driver pair) words
  pub owed : granted_in told + owes (between_of unit driver pair) words ≤ grants_of (server_id home k) books.lines
  pub now : Replay
  pub spares : SparesLines u lines now
  pub stands : StandsAt granted u line p now pair

-- The session of the unit is over, or was; the same of the logins, of which the client is owed one where an answer that it is to look at grants it.
pub record IsOverOwn (granted : ℕ) (failed : Bool) (told : List Ended) (home u k : ℕ) (books : ServerBooks) (line : Option Line) (p : Progress) (unit : Unit) (driver : Driver) (pair : Pair) : Type 0 where
  pub over : IsOver granted failed (doing_of unit home k books pair) driver.client (end_of [] pair.link false)
  pub owed : granted_in told + (if grants_one over.answers then 1 else 0) ≤ grants_of (server_id home k) books.lines
  pub seen : IsSeenAt (doing_of unit home k books pair) (ports false (end_of [] pair.link false) false (known_of pair.window))
  pub rests : IsAtRest (doing_of unit home k books pair)
  pub ends : AreEnds (end_of [] pair.link true) (end_of [] pair.link false)
  pub server_slots : 256 ≤ (end_of [] pair.link true).place.own_slots
  pub own_slots : 256 ≤ (end_of [] pair.link false).place.own_slots
  pub stands : StandsOver u failed line p driver.client (end_of [] pair.link false)

-- Server unit k and the client of its pair, which is unit u of a script whose line and progress are these. These lines of the client ended. (Where
-- the two talk, these words are to come.)
pub record IsOwnPair (granted : ℕ) (failed : Bool) (told : List Ended) (lines : List Line) (home u k : ℕ) (books : ServerBooks) (words : List Word) (line : Option Line) (p : Progress) (pair : Pair) : Type 0 where
  pub unit : Unit
  pub there : slice_get books.units k ≡ Some unit
  pub id : unit.id ≡ server_id home k
  pub driver : Driver
  pub driver_is : pair.driver ≡ Some driver
  pub how : TalksOwn granted told lines home u k books words line p unit driver pair ⊎ IsOverOwn granted failed told home u k books line p unit driver pair
  pub keeps : KeepsPair told (server_id home k) (rows_by (server_id home k) books.rows) driver pair
  pub numbers : All (λ e. IsGrantOf granted e.outcome) told

-- Before the unit's first turn: neither queue is registered, the client has done nothing, and the unit is as it was made.
pub record IsNewOwnPair (granted : ℕ) (told : List Ended) (lines : List Line) (home u k : ℕ) (books : ServerBooks) (line : Option Line) (p : Progress) (pair : Pair) : Type 0 where
  pub unit : Unit
  pub there : slice_get books.units k ≡ Some unit
  pub id : unit.id ≡ server_id home k
  pub driver : Driver
  pub driver_is : pair.driver ≡ Some driver
  pub new : IsNewBetween granted (between_of unit driver pair)
  pub owed : granted_in told ≤ grants_of (server_id home k) books.lines
  pub now : Replay
  pub spares : SparesLines u lines now
  pub stands : StandsAt granted u line p now pair
  pub sent : (end_of [] pair.link true).sent ≡ []
  pub keeps : KeepsPair told (server_id home k) (rows_by (server_id home k) books.rows) driver pair
  pub numbers : All (λ e. IsGrantOf granted e.outcome) told

-- Such a pair before its server unit's turn, which may be the first. Whether the client's partition failed, and what is to come, is not said.
abbrev pub IsReadyOwnPair : (granted : ℕ) (told : List Ended) (lines : List Line) (home u k : ℕ) → ServerBooks → Option Line → Progress → Pair → Type 0
IsReadyOwnPair granted told lines home u k books line p pair =
    ((failed : Bool) × (words : List Word) × IsOwnPair granted failed told lines home u k books words line p pair) ⊎ IsNewOwnPair granted told lines home u k books line p pair
