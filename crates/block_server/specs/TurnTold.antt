-- What a turn of a server leaves, by what its windows told in the turns.
use Rattle.std.specs.Prelude.{◌≡◌, ℕ, Bool, List, Option, Some, OnOk, Result, slice_get}
use Rattle.vio_num.specs.declared.history.Grant.{Grant}
use Rattle.vio_num.specs.declared.hypervisor.Moved.{Moved}
use Rattle.vio_num.specs.declared.memory.NoMemory.{NoMemory}
use Rattle.crq_session.specs.EndState.{EndState}
use Rattle.tce_window.specs.PortState.{PortState}
use Rattle.rdma_copy.specs.declared.copy.CopyRecord.{CopyRecord}
use Rattle.block_server.specs.Asked.{AskInOrder, AskedAt}
use Rattle.block_server.specs.Cargo.{HasRuns}
use Rattle.block_server.specs.Causes.{Told, told_to}
use Rattle.block_server.specs.Dealt.{HasDealt, KnowsSends}
use Rattle.block_server.specs.DiskLaw.{KeepsDiskBy}
use Rattle.block_server.specs.Ranges.{WritesOn, seen_in}
use Rattle.block_server.specs.Ready.{AgreesAt}
use Rattle.block_server.specs.Refusals.{AnswersInOrder, HasExplained}
use Rattle.block_server.specs.Rejecting.{LinesTellLogin}
use Rattle.block_server.specs.Talk.{IsTurnReady, Word, reach}
use Rattle.block_server.specs.Units.{AreInOrder}
use Rattle.block_server.specs.Written.{AreWritten}
use Rattle.block_server.specs.declared.records.Records.{Records}
use Rattle.block_server.specs.declared.unit.Unit.{Unit}

-- what a server has, before a turn or behind it
pub record Stock : Type 0 where
  -- so many blocks has its disk
  pub count : ℕ
  pub partition : ℕ
  pub units : List Unit
  pub records : Records
  -- the copies that were made, in the order of time
  pub copies : List CopyRecord
  -- the blocks of its image, where it tells them
  pub blocks : Option (List (List ℕ))

abbrev pub stock : (count partition : ℕ) → List Unit → Records → List CopyRecord → Option (List (List ℕ)) → Stock
stock count partition units records copies blocks =
    record { count = count; partition = partition; units = units; records = records; copies = copies; blocks = blocks }

-- What a turn of this unit leaves, over this end of a queue, its own window and its client's, where all that the windows told is told, and
-- the units were in order by it.
pub record GoesByTold (told : Told → Bool) (link_shared shared : Bool) (unit : ℕ) (old new : Stock) (queue queue' : EndState) (own own' client client' : PortState) (result : Result Moved NoMemory) : Type 0 where
  -- Where the rows took some blocks to those of the image, they do so still, each row by its row law: a command is refused only for a cause
  -- that was told.
  pub causes : KeepsDiskBy told old.records.history.items new.records.history.items old.blocks new.blocks
  -- The units are still in order by it.
  pub order : AreInOrder told new.count new.partition new.units new.records
  -- Where each row that has its answer had it written over its request, and was in form, it is so still.
  pub written : AreWritten old.count told old.records.history.items → AreWritten new.count told new.records.history.items
  -- Where the data of the unit's rows were carried, all data-out fetched and all data-in delivered, they are so still.
  pub runs : HasRuns told old.units unit own old.copies old.records → HasRuns told new.units unit own' new.copies new.records
  -- Where each line behind these that grants a login, or that says that a session was refused, has its cause, it has so still.
  pub explains : (since : List Grant) → HasExplained told old.units unit own.place.unit queue since old.records.grants.items
      → HasExplained told new.units unit own.place.unit queue' since new.records.grants.items
  -- The answers to logins are put in the order of their requests, behind those to earlier ones, each to one request, and none is dropped.
  pub logins : (since : List Grant) → HasExplained told old.units unit own.place.unit queue since old.records.grants.items
      → (earlier : List AskedAt) → AskInOrder earlier old.units unit queue
      → LinesTellLogin old.units unit own.place.unit queue old.records.grants.items
      → (closed : ℕ → Bool) → KnowsSends (AgreesAt old.units unit queue) link_shared queue queue' closed
      → HasDealt told earlier closed old.units unit own.place.unit queue
      → AnswersInOrder told earlier closed new.units unit own.place.unit queue queue' old.records new.records
  -- Where nothing was amiss before it, and it finds memory, it laid strokes only where the oldest request lets it, by the table that was told.
  pub writes : (words : List Word) (u : Unit) → slice_get old.units unit ≡ Some u → IsTurnReady u (reach queue client shared) link_shared words
      → OnOk result (WritesOn (told_to told own.place.unit) u queue words (seen_in shared client) (seen_in shared client'))
