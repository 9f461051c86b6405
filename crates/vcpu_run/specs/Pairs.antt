-- What is so of a server unit, its client and what lies between them, at each moment of a run; and what a turn of the
-- client's partition leaves of them.
use Rattle.std.specs.Prelude.{◌≡◌, ℕ, ◌≤◌, true, false, All, List, [], Option, Some, None, IfNone, IfSome, IsSomeAnd, MatchOption, length}
use Rattle.std.specs.List.{slice_get}
use Rattle.vio_num.specs.declared.entry.Entry.{Entry}
use Rattle.vio_num.specs.Entry.{partner_freed}
use Rattle.crq_session.specs.PlainState.{end_of, side_of}
use Rattle.tce_window.specs.Window.{WindowValue, strokes_at}
use Rattle.tce_window.specs.PlainPort.{known_of}
use Rattle.rdma_copy.specs.Copy.{SideGrows}
use Rattle.rdma_copy.specs.Copies.{side_of as side_at}
use Rattle.rdma_copy.specs.declared.copy.CopyRecord.{CopyRecord}
use Rattle.block_server.specs.Advances.{IsOwnCopy}
use Rattle.block_server.specs.SiteState.{AreReady}
use Rattle.vscsi_client.specs.Transferred.{FitRows}
use Rattle.vscsi_client.specs.declared.TheConstants.{MIN_PAGES}
use Rattle.unit_region.specs.Kept.{LaysOwnAll}
use Rattle.vcpu_run.specs.declared.driver.Driver.{Driver}
use Rattle.vcpu_run.specs.declared.pair.Pair.{Pair}
use Rattle.vcpu_run.specs.Announces.{Announces}
use Rattle.vcpu_run.specs.AnswersSeen.{AreResponsesRead, fronts_of}
use Rattle.vcpu_run.specs.ClientSlots.{HoldsSlots}
use Rattle.vcpu_run.specs.Reached.{IfReached}
use Rattle.vcpu_run.specs.Named.{HasNames, WindowsAreApart, absent_unit}

-- A client's driver is that of its window's unit; the data of its commands lie in the window, its requests have slots there, and its answers were
-- read in them.
pub record IsDriver (window : WindowValue) (driver : Driver) : Type 0 where
  pub unit : window.unit ≡ driver.unit
  pub pages : MIN_PAGES ≤ length window.pages
  pub rows : FitRows (length window.pages) driver.client
  pub slots : HoldsSlots driver.client
  pub answers : AreResponsesRead (fronts_of (strokes_at window.pages)) driver.answers.items

-- a copy by this server unit is lawful, between its own window and its client's
abbrev pub IsCopyOf : Pair → CopyRecord → Type 0
IsCopyOf pair copy = copy.name.who ≡ pair.server → IsOwnCopy (known_of pair.own) (known_of pair.window) copy

-- Server unit k of partition `home`, its client, and the copies of the whole server.
pub record IsPair (home : ℕ) (made : List CopyRecord) (k : ℕ) (pair : Pair) : Type 0 where
  pub server : pair.server ≡ record { partition = home; unit = k }
  pub own_unit : pair.own.unit ≡ pair.server
  pub ready : AreReady (known_of pair.own) (known_of pair.window)
  pub event : (event : Entry) → (side_of pair.link true).kept ≡ Some event → event ≡ partner_freed
  pub copies : All (IsCopyOf pair) made
  pub driver : IfSome pair.driver (IsDriver pair.window)
  pub names : HasNames pair made
  pub absent : IfNone pair.driver (pair.window.unit ≡ absent_unit pair.server)

-- all server units of a partition
abbrev pub ArePairs : (home : ℕ) → List CopyRecord → List Pair → Type 0
ArePairs home copies pairs = (k : ℕ) (pair : Pair) → slice_get pairs k ≡ Some pair → IsPair home copies k pair

-- All server units of a partition, whichever it is.
pub record AreOfOneHome (copies : List CopyRecord) (pairs : List Pair) : Type 0 where
  pub home : ℕ
  pub pairs_are : ArePairs home copies pairs
  pub apart : WindowsAreApart pairs

-- the driver is that of the same unit, and its data lie in the window if they did
abbrev pub GoesOn : (before after : WindowValue) → Option Driver → Option Driver → Type 0
GoesOn before after old new = MatchOption old (new ≡ None)
    (λ driver. IsSomeAnd new (λ driver'. (driver'.unit ≡ driver.unit) × (IsDriver before driver → IsDriver after driver')))

-- What a client's part of a turn leaves of its pair: the server unit and its window are as before, nothing was taken from its
-- queue, which is in the same session, nothing was put into the client's own queue, the client's window has no stroke and no
-- value less, and none more that another unit laid; what the client put into the server unit's queue stands behind what was there, and
-- tells of what was freed; the client is logged in only where something was put into its queue, if it was so; and a queue in place of a
-- client's is registered as before.
pub record Drives (old new : Pair) : Type 0 where
  pub server : new.server ≡ old.server
  pub own : new.own ≡ old.own
  pub event : (side_of new.link true).kept ≡ (side_of old.link true).kept
  pub server_slots : (side_of new.link true).queue.slots ≡ (side_of old.link true).queue.slots
  pub client_slots : (side_of new.link false).queue.slots ≡ (side_of old.link false).queue.slots
  pub got : (side_of new.link false).queue.sent ≡ (side_of old.link false).queue.sent
  pub unit : new.window.unit ≡ old.window.unit
  pub pages : length new.window.pages ≡ length old.window.pages
  pub held : new.window.held_count ≡ old.window.held_count
  pub grows : SideGrows (side_at (known_of old.window)) (side_at (known_of new.window))
  pub driver : GoesOn old.window new.window old.driver new.driver
  pub laid : LaysOwnAll old.window.unit (strokes_at old.window.pages) (strokes_at new.window.pages)
  pub server_registered : (side_of new.link true).registered ≡ (side_of old.link true).registered
  pub server_session : (side_of new.link true).queue.session ≡ (side_of old.link true).queue.session
  pub server_taken : (side_of new.link true).queue.taken ≡ (side_of old.link true).queue.taken
  pub puts : Announces (end_of [] old.link false) (end_of [] new.link false)
  pub reached : IfReached old.driver (side_of old.link false).queue.sent → IfReached new.driver (side_of new.link false).queue.sent
  pub alone : IfNone old.driver ((side_of new.link false).registered ≡ (side_of old.link false).registered)

-- each of the pairs was left so
pub record AreDriven (old new : List Pair) : Type 0 where
  pub count : length new ≡ length old
  pub each : (k : ℕ) (pair : Pair) → slice_get old k ≡ Some pair → IsSomeAnd (slice_get new k) (Drives pair)

-- each driver is that of its window
abbrev pub AreDrivers : List Pair → Type 0
AreDrivers pairs = (k : ℕ) (pair : Pair) → slice_get pairs k ≡ Some pair → IfSome pair.driver (IsDriver pair.window)
