-- What a turn of a server unit leaves: at its pair, by what the windows told, and at each other pair.
use Rattle.std.specs.Prelude.{◌≡◌, ℕ, Bool, true, false, List, slice_get}
use Rattle.vio_num.specs.declared.names.UnitId.{UnitId}
use Rattle.crq_session.specs.PlainState.{side_of}
use Rattle.rdma_copy.specs.declared.copy.CopyRecord.{CopyRecord}
use Rattle.block_server.specs.Causes.{Told}
use Rattle.block_server.specs.DiskLaw.{KeepsDiskBy}
use Rattle.block_server.specs.TurnTold.{Stock}
use Rattle.block_server.specs.Units.{AreInOrder}
use Rattle.vcpu_run.specs.Answered.{IsAnswered}
use Rattle.vcpu_run.specs.ClientStrokes.{KeepsOwn}
use Rattle.vcpu_run.specs.DropsShown.{KeepsFull}
use Rattle.vcpu_run.specs.Freed.{FreesNoneAt}
use Rattle.vcpu_run.specs.Heard.{AllGoBy, ShowsMore, UnitGoesBy}
use Rattle.vcpu_run.specs.Links.{IsLinked}
use Rattle.vcpu_run.specs.Machines.{server_id}
use Rattle.vcpu_run.specs.Named.{HasWindow}
use Rattle.vcpu_run.specs.Pairs.{IsPair}
use Rattle.vcpu_run.specs.PlainPairs.{SparesUnit, books_of}
use Rattle.vcpu_run.specs.Received.{IsReceived}
use Rattle.vcpu_run.specs.ShutShown.{StaysServed}
use Rattle.vcpu_run.specs.ValuesPut.{SameValues}
use Rattle.vcpu_run.specs.declared.pair.Pair.{Pair}

-- At the link between both: the turn does of the client's side nothing but to put, and puts nothing into the server unit's own queue.
pub record KeepsClient (before after : Pair) : Type 0 where
  -- The client's queue is registered as it was.
  pub queue : (side_of after.link false).registered ≡ (side_of before.link false).registered
  -- As much was taken from it, and its end keeps the event that it kept.
  pub taken : (side_of after.link false).queue.taken ≡ (side_of before.link false).queue.taken
  pub kept : (side_of after.link false).kept ≡ (side_of before.link false).kept
  -- Where it was not freed, it is not.
  pub unfreed : FreesNoneAt before after
  -- The server unit's own queue holds what it held.
  pub sent : (side_of after.link true).queue.sent ≡ (side_of before.link true).queue.sent
  -- It has as many slots, and each record of a drop.
  pub full : KeepsFull before after
  -- No session of it is undone, and it is registered only where it was, or in a later session.
  pub served : StaysServed before.link after.link

-- What it leaves of the pair, but for the server unit's side of the link.
pub record LeavesClient (copies copies' : List CopyRecord) (before after : Pair) : Type 0 where
  -- More copies were made, and both windows have what they had.
  pub shows : ShowsMore copies copies' before after
  -- No entry of the client's window has other values, and no stroke in it is laid in the client's name.
  pub values : SameValues before after
  pub owner : KeepsOwn before after
  pub client : KeepsClient before after

-- What was served at the pair of unit k: the responses in its client's queue are those of the unit's rows, and each entry that it took has
-- its receipt and its fate.
pub record IsServedAt (now : Stock) (k : ℕ) (pair : Pair) : Type 0 where
  pub answered : IsAnswered now.records.history.items pair
  pub received : IsReceived now.units now.copies now.records.grants.items now.records.history.items k pair

-- Server unit k, of which this was told, and its pair: each row still has its cause on the disk, all is in order, and so is the unit's own.
pub record PairGoesBy (told : Told → Bool) (k : ℕ) (old new : Stock) (before after : Pair) : Type 0 where
  pub all : AllGoBy told old.count old.partition old.units old.records → AllGoBy told new.count new.partition new.units new.records
  pub causes : AreInOrder told old.count old.partition old.units old.records → KeepsDiskBy told old.records.history.items new.records.history.items old.blocks new.blocks
  pub own : AllGoBy told old.count old.partition old.units old.records
      → UnitGoesBy told old.units old.records old.copies k before → UnitGoesBy told new.units new.records new.copies k after

-- The unit k is another than the one whose turn it was, at the pair that was so before it.
pub record SparesPair (old new : Stock) (before : Pair) (k : ℕ) : Type 0 where
  pub unit : slice_get new.units k ≡ slice_get old.units k
  pub books : SparesUnit old.partition (books_of old.units old.records.grants.items old.records.history.items) (books_of new.units new.records.grants.items new.records.history.items) k
  -- A pair with windows of its own is a pair still.
  pub pair : (other : Pair) → ((id : UnitId) → HasWindow id before → HasWindow id other → ⊥) → IsPair old.partition old.copies k other → IsPair old.partition new.copies k other
  pub linked : (other : Pair) → IsLinked old.units k other → IsLinked new.units k other
  pub answered : (other : Pair) → other.server ≡ server_id old.partition k → IsAnswered old.records.history.items other → IsAnswered new.records.history.items other
  pub received : (other : Pair) → other.own.unit ≡ server_id old.partition k
      → IsReceived old.units old.copies old.records.grants.items old.records.history.items k other → IsReceived new.units new.copies new.records.grants.items new.records.history.items k other
  pub told : (told : Told → Bool) (other : Pair) → other.own.unit ≡ server_id old.partition k → AreInOrder told old.count old.partition old.units old.records
      → UnitGoesBy told old.units old.records old.copies k other → ∥ UnitGoesBy told new.units new.records new.copies k other ∥₁
