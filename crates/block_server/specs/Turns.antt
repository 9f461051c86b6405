-- A turn of a server unit in which nothing was done.
use Rattle.std.specs.Prelude.{◌≡◌, ℕ, Bool, true, false, List, Option, Result, Ok, Err, option_map, slice_get}
use Rattle.vio_num.specs.declared.hypervisor.Moved.{Moved}
use Rattle.vio_num.specs.declared.hypervisor.Moved.TheVariants as moves
use Rattle.vio_num.specs.declared.memory.NoMemory.{NoMemory}
use Rattle.crq_session.specs.EndState.{EndState}
use Rattle.block_server.specs.declared.request.Arrival.{Arrival}
use Rattle.block_server.specs.declared.request.Request.{Request}
use Rattle.block_server.specs.declared.unit.Unit.{Unit}
use Rattle.block_server.specs.Stage.{how_far}

-- What a unit has under way: the entry whose information unit is to be fetched, the requests that are not answered, the
-- oldest first, and how far the service of the oldest has come.
pub record UnderWay : Type 0 where
  pub waiting : Option Arrival
  pub pending : List Request
  pub stage : ℕ × ℕ

abbrev pub under_way : Unit → UnderWay
under_way unit = record { waiting = unit.waiting; pending = unit.pending.items; stage = how_far unit.service.stage }

-- No entry was taken or put, and the queue was neither registered nor freed.
pub record IsStill (old new : EndState) : Type 0 where
  pub taken : new.taken ≡ old.taken
  pub sent : new.sent ≡ old.sent
  pub registered : new.registered ≡ old.registered
  pub session : new.last_session ≡ old.last_session

-- Nothing was done: the queue is still, and no request came to its next stage.
pub record IsQuietTurn (unit unit' : Unit) (old new : EndState) : Type 0 where
  pub still : IsStill old new
  pub same : under_way unit' ≡ under_way unit

-- Nothing was done before in the turn, and nothing was done.
pub record IsQuiet (unit unit' : Unit) (old new : EndState) : Type 0 where
  pub was : unit.moved ≡ false
  pub still : IsStill old new
  pub same : under_way unit' ≡ under_way unit

-- Where the unit does not say that something was done, nothing was.
abbrev pub IfQuiet : Unit → Unit → EndState → EndState → Type 0
IfQuiet unit unit' old new = unit'.moved ≡ false → IsQuiet unit unit' old new

-- What was done is not forgotten.
abbrev pub StaysMoved : Unit → Unit → Type 0
StaysMoved unit unit' = unit.moved ≡ true → unit'.moved ≡ true

-- what the unit of this number has under way
abbrev pub way_of : List Unit → ℕ → Option UnderWay
way_of units unit = option_map under_way (slice_get units unit)

-- what a turn tells that is done, by whether it moved
abbrev pub told_of : {X : Type 0} → Result X NoMemory → (moved : Bool) → Result Moved NoMemory
told_of (Ok done) true = Ok moves.Moved
told_of (Ok done) false = Ok moves.Quiet
told_of (Err memory) moved = Err memory
