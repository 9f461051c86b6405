-- What is so of a plain client and its server unit at their pair, between turns.
use Rattle.std.specs.Prelude.{◌≡◌, ◌≢◌, ◌⊎◌, ℕ, ◌+◌, ◌≤◌, true, false, All, List, [], Option, Some, None, IfSome, IsSomeAnd, length, slice_get}
use Rattle.vio_num.specs.declared.history.Grant.{Grant}
use Rattle.vio_num.specs.declared.history.Served.{Served}
use Rattle.vio_num.specs.declared.names.UnitId.{UnitId}
use Rattle.page_slots.specs.Stroke.{StrokeValue}
use Rattle.crq_session.specs.Answered.{taken_now}
use Rattle.crq_session.specs.PlainState.{end_of, side_of}
use Rattle.tce_window.specs.PlainPort.{known_of}
use Rattle.block_server.specs.Makers.{same_unit}
use Rattle.block_server.specs.Receipts.{unit_of}
use Rattle.block_server.specs.Talk.{HearsAll, IsNewThere, Talk, Word, reach, talk_of}
use Rattle.block_server.specs.declared.unit.Unit.{Unit}
use Rattle.vscsi_client.specs.State.{new_client}
use Rattle.vcpu_run.specs.declared.driver.Driver.{Driver}
use Rattle.vcpu_run.specs.declared.pair.Pair.{Pair}
use Rattle.vcpu_run.specs.Credited.{Ended}
use Rattle.vcpu_run.specs.Machines.{server_id}
use Rattle.vcpu_run.specs.PlainBorne.{AreBorne, rows_by}
use Rattle.vcpu_run.specs.PlainClients.{ends_by_client, granted_in, grants_of}
use Rattle.vcpu_run.specs.PlainRows.{TagsKept, tags_by, AnswersKept, EntriesKept}
use Rattle.vcpu_run.specs.PlainTalk.{AreEnds, Between, HasRights, IsOwnWindow, TalksPlainly, owes}
use Rattle.vcpu_run.specs.PlainNoted.{AreAnswers, AreAskedFor, IsLaidAnswer}
use Rattle.vcpu_run.specs.PlainRejected.{TellsOf}

-- a server unit, its client's driver and what lies between them
abbrev pub between_of : Unit → Driver → Pair → Between
between_of unit driver pair = record {
  unit = unit;
  server = end_of [] pair.link true;
  client = driver.client;
  own = end_of [] pair.link false;
  window = known_of pair.window;
}

-- what a server goes by at its pairs: its units, the lines on their logins, and the rows of what they served
pub record ServerBooks : Type 0 where
  pub units : List Unit
  pub lines : List Grant
  pub rows : List Served

abbrev pub books_of : List Unit → List Grant → List Served → ServerBooks
books_of units lines rows = record { units = units; lines = lines; rows = rows }

-- Each line on a login of this unit is a grant, or says that its client ended it.
abbrev pub EndByClient : UnitId → List Grant → Type 0
EndByClient unit lines = All (λ line. same_unit (unit_of line) unit ≡ true → ends_by_client line ≡ true) lines

-- Server unit k and the client of its pair talk plainly, these words are to come, the driver's pages have all rights, its logins end by the
-- client alone, and no two of its rows have one tag, nor will have with those that are pending once the words are heard. These lines of the
-- client ended: with the one that it is owed they say of no more logins that they were granted than the lines do; and what they say was
-- rejected, the unit rejected. What was put into the client's queue as an answer to a command with data-in has a row; and what the server
-- unit laid behind the slots of the client's window bears data-in of its rows. What it laid in the slots answers rows, or logins; the rows
-- ask for as much as the client's commands; and what the client noted was laid there. An entry that was put as an answer says how long the
-- answer of the row of its tag is.
pub record IsPlainPair (granted : ℕ) (told : List Ended) (home : ℕ) (books : ServerBooks) (k : ℕ) (words : List Word) (pair : Pair) : Type 0 where
  pub unit : Unit
  pub there : slice_get books.units k ≡ Some unit
  pub id : unit.id ≡ server_id home k
  pub driver : Driver
  pub driver_is : pair.driver ≡ Some driver
  pub talks : TalksPlainly granted (between_of unit driver pair) words
  pub rights : HasRights (known_of pair.window)
  pub owed : granted_in told + owes (between_of unit driver pair) words ≤ grants_of (server_id home k) books.lines
  pub laid : All (TellsOf unit.id (known_of pair.window).strokes) told
  pub lines : EndByClient (server_id home k) books.lines
  pub tags : (talk : Talk) → HearsAll (talk_of unit) (length (taken_now (end_of [] pair.link true))) words talk
      → TagsKept (tags_by (server_id home k) books.rows) (length driver.client.rows) talk.pending
  pub answers : (talk : Talk) → HearsAll (talk_of unit) (length (taken_now (end_of [] pair.link true))) words talk
      → AnswersKept (tags_by (server_id home k) books.rows) driver.client (end_of [] pair.link true).sent talk.pending
  pub entries : (talk : Talk) → HearsAll (talk_of unit) (length (taken_now (end_of [] pair.link true))) words talk
      → EntriesKept (rows_by (server_id home k) books.rows) (end_of [] pair.link true).sent talk.pending
  pub apart : pair.window.unit ≢ server_id home k
  pub borne : AreBorne (rows_by (server_id home k) books.rows) (server_id home k) driver.client.rows (known_of pair.window).strokes
  pub answered : AreAnswers (rows_by (server_id home k) books.rows) pair.window.unit (known_of pair.window).strokes
  pub sized : AreAskedFor (rows_by (server_id home k) books.rows) driver.client.rows
  pub noted : All (IsLaidAnswer pair.window.unit (known_of pair.window).strokes) driver.answers.items

-- Before the first turn: neither queue is registered, the client has done nothing, and the server unit is as it was made, to grant so many
-- requests; the queues have room; and the window is as it was opened.
pub record IsNewBetween (granted : ℕ) (at : Between) : Type 0 where
  pub made : IsNewThere at.unit (reach at.server at.window false) false
  pub client : (id server : UnitId) × (at.client ≡ new_client id server)
  pub registered : at.own.registered ≡ false
  pub kept : at.own.kept ≡ None
  pub grants : at.unit.logins.granted ≡ granted
  pub most : granted ≤ 200
  pub ends : AreEnds at.server at.own
  pub server_slots : 256 ≤ at.server.place.own_slots
  pub own_slots : 256 ≤ at.own.place.own_slots
  pub usable : IsOwnWindow at.window

pub record IsNewPair (granted : ℕ) (told : List Ended) (home : ℕ) (books : ServerBooks) (k : ℕ) (pair : Pair) : Type 0 where
  pub unit : Unit
  pub there : slice_get books.units k ≡ Some unit
  pub id : unit.id ≡ server_id home k
  pub driver : Driver
  pub driver_is : pair.driver ≡ Some driver
  pub new : IsNewBetween granted (between_of unit driver pair)
  pub rights : HasRights (known_of pair.window)
  pub owed : granted_in told ≤ grants_of (server_id home k) books.lines
  pub laid : All (TellsOf unit.id (known_of pair.window).strokes) told
  pub lines : EndByClient (server_id home k) books.lines
  pub tags : tags_by (server_id home k) books.rows ≡ []
  pub sent : (end_of [] pair.link true).sent ≡ []
  pub apart : pair.window.unit ≢ server_id home k
  pub borne : AreBorne (rows_by (server_id home k) books.rows) (server_id home k) driver.client.rows (known_of pair.window).strokes
  pub answered : AreAnswers (rows_by (server_id home k) books.rows) pair.window.unit (known_of pair.window).strokes
  pub sized : AreAskedFor (rows_by (server_id home k) books.rows) driver.client.rows
  pub noted : All (IsLaidAnswer pair.window.unit (known_of pair.window).strokes) driver.answers.items

-- no stroke lies on these pages
abbrev pub AreBlank : (strokes : ℕ → Option (List StrokeValue)) → Type 0
AreBlank strokes = (page : ℕ) (list : List StrokeValue) → strokes page ≡ Some list → list ≡ []

-- A pair as it is opened, where this driver is its client's: neither queue is registered, no event is kept, the client has done nothing,
-- the queues have room, and the client's window is its own, with no stroke on it.
pub record IsOpened (pair : Pair) (driver : Driver) : Type 0 where
  pub server : UnitId
  pub client : driver.client ≡ new_client driver.unit server
  pub answers : driver.answers.items ≡ []
  pub registered : (side_of pair.link false).registered ≡ false
  pub kept : (side_of pair.link false).kept ≡ None
  pub server_registered : (side_of pair.link true).registered ≡ false
  pub server_kept : (side_of pair.link true).kept ≡ None
  pub ends : AreEnds (end_of [] pair.link true) (end_of [] pair.link false)
  pub sent : (end_of [] pair.link true).sent ≡ []
  pub server_slots : 256 ≤ (side_of pair.link true).queue.slots
  pub own_slots : 256 ≤ (side_of pair.link false).queue.slots
  pub usable : IsOwnWindow (known_of pair.window)
  pub rights : HasRights (known_of pair.window)
  pub unit : pair.window.unit ≡ driver.unit
  pub blank : AreBlank (known_of pair.window).strokes

-- so is a pair that has a client
abbrev pub OpensPlainly : Pair → Type 0
OpensPlainly pair = IfSome pair.driver (IsOpened pair)

abbrev pub OpenPlainly : List Pair → Type 0
OpenPlainly pairs = (k : ℕ) (pair : Pair) → slice_get pairs k ≡ Some pair → OpensPlainly pair

-- Such a pair before its server unit's turn, which may be the first.
abbrev pub IsReadyPair : (granted : ℕ) (told : List Ended) (home : ℕ) → ServerBooks → (k : ℕ) → Pair → Type 0
IsReadyPair granted told home books k pair = ((words : List Word) × IsPlainPair granted told home books k words pair) ⊎ IsNewPair granted told home books k pair

-- Where the client's queue is not registered, no stroke is laid in its window.
abbrev pub LeavesAway : (old new : Pair) → Type 0
LeavesAway old new = (side_of old.link false).registered ≡ false
    → ((known_of new.window).place ≡ (known_of old.window).place) × ((page : ℕ) → (known_of new.window).strokes page ≡ (known_of old.window).strokes page)

-- What a turn of server unit k leaves of its pair: if it was such a pair, it is one, and nothing is to come.
abbrev pub ServesPlainly : (home : ℕ) → (books books' : ServerBooks) → (k : ℕ) → (old new : Pair) → Type 0
ServesPlainly home books books' k old new = (granted : ℕ) (told : List Ended) → IsReadyPair granted told home books k old → IsPlainPair granted told home books' k [] new × LeavesAway old new

-- Nothing is pending in unit k.
abbrev pub IsIdleUnit : (k : ℕ) → ServerBooks → Type 0
IsIdleUnit k books = IsSomeAnd (slice_get books.units k) (λ unit. unit.pending.items ≡ [])

-- A turn in which it did nothing leaves nothing that is pending.
abbrev pub IdlesPlainly : (home : ℕ) → (books books' : ServerBooks) → (k : ℕ) → (old : Pair) → Type 0
IdlesPlainly home books books' k old = (granted : ℕ) (told : List Ended) → IsReadyPair granted told home books k old → IsIdleUnit k books'

-- Turns of other server units leave unit k and its rows as they are, no line that they add says that one of its logins ended
-- otherwise, and no line is gone that says that one was granted.
pub record SparesUnit (home : ℕ) (books books' : ServerBooks) (k : ℕ) : Type 0 where
  pub same : slice_get books'.units k ≡ slice_get books.units k
  pub lines : EndByClient (server_id home k) books.lines → EndByClient (server_id home k) books'.lines
  pub grants : grants_of (server_id home k) books.lines ≤ grants_of (server_id home k) books'.lines
  pub rows : rows_by (server_id home k) books'.rows ≡ rows_by (server_id home k) books.rows

-- the pair of server unit k is such a pair, also before its turn
abbrev pub IsPlainAt : (granted : ℕ) (told : List Ended) (home : ℕ) → ServerBooks → (k : ℕ) → List Word → List Pair → Type 0
IsPlainAt granted told home books k words pairs = IsSomeAnd (slice_get pairs k) (IsPlainPair granted told home books k words)

abbrev pub IsReadyAt : (granted : ℕ) (told : List Ended) (home : ℕ) → ServerBooks → (k : ℕ) → List Pair → Type 0
IsReadyAt granted told home books k pairs = IsSomeAnd (slice_get pairs k) (IsReadyPair granted told home books k)

-- and no stroke is laid in its client's window, if the queue is not registered
abbrev pub LeavesAwayAt : (k : ℕ) → (old new : List Pair) → Type 0
LeavesAwayAt k old new = (before after : Pair) → slice_get old k ≡ Some before → slice_get new k ≡ Some after → LeavesAway before after

-- what turns of server units, one of which is unit k's, leave of its pair
abbrev pub ServesPlainlyAt : (home : ℕ) → (books books' : ServerBooks) → (old new : List Pair) → (k : ℕ) → Type 0
ServesPlainlyAt home books books' old new k = (granted : ℕ) (told : List Ended) → IsReadyAt granted told home books k old → IsPlainAt granted told home books' k [] new × LeavesAwayAt k old new

-- and of its unit, where they did nothing
abbrev pub IdlesPlainlyAt : (home : ℕ) → (books books' : ServerBooks) → (old : List Pair) → (k : ℕ) → Type 0
IdlesPlainlyAt home books books' old k = (granted : ℕ) (told : List Ended) → IsReadyAt granted told home books k old → IsIdleUnit k books'
