-- What was done where something is said to have moved: a kept event was put, or an entry was taken, of a client's queue or of a port's.
use Rattle.std.specs.Prelude.{◌≡◌, ◌⊎◌, ℕ, ◌+◌, ◌<◌, ◌≤◌, false, List, Option, Some, None, IsSome, length, slice_get}
use Rattle.vio_num.specs.declared.hypervisor.Moved.{Moved}
use Rattle.vio_num.specs.declared.hypervisor.Moved.TheVariants as moves
use Rattle.vio_num.specs.declared.names.UnitId.{UnitId}
use Rattle.crq_session.specs.PlainState.{side_of}
use Rattle.tce_window.specs.PortState.{PortState}
use Rattle.tce_window.specs.PlainPort.{known_of}
use Rattle.lan_script.specs.Resting.{entries_read_at}
use Rattle.lan_script.specs.Units.{LanValue}
use Rattle.vcpu_run.specs.Acts.{Acting}
use Rattle.vcpu_run.specs.Links.{EventStays}
use Rattle.vcpu_run.specs.Ports.{unit_of}
use Rattle.vcpu_run.specs.PortSteps.{AllTake}
use Rattle.vcpu_run.specs.declared.driver.Driver.{Driver}
use Rattle.vcpu_run.specs.declared.pair.Pair.{Pair}

-- AT A CLIENT -------------------------------------------------------------------------------------

-- The client is done with so many entries more, at least: they were taken from its queue, in whichever session, or were kept by a login,
-- and are not kept any more.
abbrev pub Handles : ℕ → (old new : Acting) → Type 0
Handles n old new = length old.ports.crq.taken + length new.client.kept + n ≤ length new.ports.crq.taken + length old.client.kept

-- each page of a region is in its place
abbrev pub PagesThere : PortState → Type 0
PagesThere window = (p : ℕ) → p < window.place.size → IsSome (window.strokes p)

-- The same of the client's own region, in which nobody else has a hand: no slot of it is in use.
pub record HasRegion (a : Acting) : Type 0 where
  pub alone : a.ports.own_shared ≡ false
  pub there : PagesThere a.ports.own

-- Of what it was done with the client keeps none again; and where something moved, it is done with one entry more at least.
pub record HandlesBy (moved : Moved) (old new : Acting) : Type 0 where
  pub none : Handles 0 old new
  pub one : moved ≡ moves.Moved → HasRegion old → Handles 1 old new

-- AT A PAIR ---------------------------------------------------------------------------------------

-- how many entries a client keeps
abbrev pub kept_in : Option Driver → ℕ
kept_in (Some driver) = length driver.client.kept
kept_in None = 0

abbrev pub PairHandles : ℕ → (old new : Pair) → Type 0
PairHandles n old new =
    length (side_of old.link false).queue.taken + kept_in new.driver + n ≤ length (side_of new.link false).queue.taken + kept_in old.driver

abbrev pub PairPagesThere : Pair → Type 0
PairPagesThere pair = PagesThere (known_of pair.window)

pub record PairHandlesBy (moved : Moved) (old new : Pair) : Type 0 where
  pub none : PairHandles 0 old new
  pub one : moved ≡ moves.Moved → PairPagesThere old → PairHandles 1 old new

-- the client kept an event, and keeps none any more
pub record EventGoes (old new : Pair) : Type 0 where
  pub some : IsSome (side_of old.link false).kept
  pub gone : (side_of new.link false).kept ≡ None

-- No event is kept anew; and where something moved, one is kept no more.
pub record EventMoves (moved : Moved) (old new : Pair) : Type 0 where
  pub stays : EventStays old new
  pub goes : moved ≡ moves.Moved → EventGoes old new

-- AT ONE OF MANY ----------------------------------------------------------------------------------

-- R of each pair before and after
abbrev pub EachPair : (R : Pair → Pair → Type 0) → (old new : List Pair) → Type 0
EachPair R old new = (k : ℕ) (before after : Pair) → slice_get old k ≡ Some before → slice_get new k ≡ Some after → R before after

-- R of one of them
pub record SomePair (R : Pair → Pair → Type 0) (old new : List Pair) : Type 0 where
  pub k : ℕ
  pub before : Pair
  pub after : Pair
  pub there : slice_get old k ≡ Some before
  pub here : slice_get new k ≡ Some after
  pub is : R before after

pub record EventsMove (moved : Moved) (old new : List Pair) : Type 0 where
  pub stay : EachPair EventStays old new
  pub goes : moved ≡ moves.Moved → SomePair EventGoes old new

-- the regions of all clients have their pages
abbrev pub AllPagesThere : List Pair → Type 0
AllPagesThere pairs = (k : ℕ) (pair : Pair) → slice_get pairs k ≡ Some pair → PairPagesThere pair

pub record PairsHandle (moved : Moved) (old new : List Pair) : Type 0 where
  pub none : EachPair (PairHandles 0) old new
  pub one : moved ≡ moves.Moved → AllPagesThere old → SomePair (PairHandles 1) old new

-- a unit's port read a receive entry
abbrev pub ReadsMore : UnitId → (old new : LanValue) → Type 0
ReadsMore unit old new = entries_read_at old unit < entries_read_at new unit

-- The same of what sits at one place: a client, or this unit's port.
pub record SeatHandles (moved : Moved) (unit : UnitId) (old new : List Pair) (lan lan' : LanValue) : Type 0 where
  pub none : EachPair (PairHandles 0) old new
  pub one : moved ≡ moves.Moved → AllPagesThere old → SomePair (PairHandles 1) old new ⊎ ReadsMore unit lan lan'

-- One port of a partition, each of which took some frames or none, read a receive entry.
pub record SomePortReads (partition : ℕ) (old new : LanValue) : Type 0 where
  pub unit : ℕ
  pub before : LanValue
  pub after : LanValue
  pub first : AllTake partition old before
  pub reads : ReadsMore (unit_of partition unit) before after
  pub next : AllTake partition after new

-- The same of all that sit at the places of a partition.
pub record SeatsHandle (moved : Moved) (partition : ℕ) (old new : List Pair) (lan lan' : LanValue) : Type 0 where
  pub none : EachPair (PairHandles 0) old new
  pub one : moved ≡ moves.Moved → AllPagesThere old → SomePair (PairHandles 1) old new ⊎ SomePortReads partition lan lan'
