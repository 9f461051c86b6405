-- What the windows of each server unit told it, between turns, and what of its rows and its lines goes by that.
use Rattle.std.specs.Prelude.{◌≡◌, ℕ, Bool, true, false, List, [], Some, Contains, length, slice_get}
use Rattle.crq_session.specs.PlainState.{end_of, side_of}
use Rattle.tce_window.specs.PlainPort.{known_of}
use Rattle.rdma_copy.specs.Copies.{side_of as side_at}
use Rattle.rdma_copy.specs.Copy.{SideGrows}
use Rattle.rdma_copy.specs.declared.copy.CopyRecord.{CopyRecord}
use Rattle.vio_num.specs.Words.{Begins}
use Rattle.block_server.specs.Cargo.{HasRuns}
use Rattle.block_server.specs.Causes.{Hearing, Includes, Told, told_to}
use Rattle.block_server.specs.LoginAnswers.{login_answers}
use Rattle.block_server.specs.Refusals.{HasExplained}
use Rattle.block_server.specs.Units.{AreInOrder}
use Rattle.block_server.specs.Written.{AreWritten}
use Rattle.block_server.specs.declared.records.Records.{Records}
use Rattle.block_server.specs.declared.unit.Unit.{Unit}
use Rattle.vcpu_run.specs.declared.pair.Pair.{Pair}
use Rattle.vcpu_run.specs.Gone.{HearsEvent}
use Rattle.vcpu_run.specs.LoginsSent.{GoInOrder}
use Rattle.vcpu_run.specs.News.{IsNth, hearing}

-- what the windows of a pair and the copies so far show
abbrev pub heard_at : List CopyRecord → Pair → Hearing
heard_at copies pair =
    hearing (Contains copies) (IsNth pair.own.unit copies) (side_at (known_of pair.own)) (side_at (known_of pair.window)) (length pair.window.pages)

-- all of it is told as told to the pair's server unit
abbrev pub TellsPair : (told : Told → Bool) → List CopyRecord → Pair → Type 0
TellsPair told copies pair = Includes (heard_at copies pair) (told_to told pair.own.unit)

abbrev pub TellsPairs : (told : Told → Bool) → List CopyRecord → List Pair → Type 0
TellsPairs told copies pairs = (k : ℕ) (pair : Pair) → slice_get pairs k ≡ Some pair → TellsPair told copies pair

-- By what was told, the units of a server are in order, and each row's answer was written over its request.
pub record AllGoBy (told : Told → Bool) (size partition : ℕ) (units : List Unit) (records : Records) : Type 0 where
  pub order : AreInOrder told size partition units records
  pub written : AreWritten size told records.history.items

-- By that, server unit k has its data in hand, and its rows have their runs among these copies; its lines are explained, the answers to
-- requests to log in that were put into its client's queue are those of its lines, or rejections, each request's once and in their order, and
-- none of these requests was dropped.
pub record UnitGoesBy (told : Told → Bool) (units : List Unit) (records : Records) (copies : List CopyRecord) (k : ℕ) (pair : Pair) : Type 0 where
  pub cargo : HasRuns told units k (known_of pair.own) copies records
  pub explained : HasExplained told units k pair.own.unit (end_of [] pair.link true) [] records.grants.items
  pub logins : GoInOrder told units k pair.own.unit (side_of pair.link true).queue.session (side_of pair.link true).queue.taken (login_answers (side_of pair.link false).queue.sent) records.grants.items
      (HearsEvent (end_of [] pair.link true))

-- This is so by whatever tells all that the pairs show.
pub record AreHeard (size partition : ℕ) (units : List Unit) (records : Records) (copies : List CopyRecord) (pairs : List Pair) : Type 0 where
  pub all : (told : Told → Bool) → TellsPairs told copies pairs → AllGoBy told size partition units records
  pub each : (told : Told → Bool) → TellsPairs told copies pairs → (k : ℕ) (pair : Pair) → slice_get pairs k ≡ Some pair
      → ∥ UnitGoesBy told units records copies k pair ∥₁

-- More copies were made, and both windows of the pair have what they had.
pub record ShowsMore (copies copies' : List CopyRecord) (old new : Pair) : Type 0 where
  pub made : Begins copies copies'
  pub own : SideGrows (side_at (known_of old.own)) (side_at (known_of new.own))
  pub window : SideGrows (side_at (known_of old.window)) (side_at (known_of new.window))
  pub pages : length new.window.pages ≡ length old.window.pages
