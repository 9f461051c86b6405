-- What a turn of a server leaves, whatever comes.
use Rattle.std.specs.Prelude.{◌≡◌, ◌≢◌, ◌++◌, ℕ, Bool, false, List, IfOk, IfSome, IsSome, Result, length, slice_get}
use Rattle.vio_num.specs.declared.hypervisor.Moved.{Moved as MovedValue}
use Rattle.vio_num.specs.declared.hypervisor.Moved.TheVariants.{Moved, Quiet}
use Rattle.vio_num.specs.declared.memory.NoMemory.{NoMemory}
use Rattle.vio_num.specs.declared.names.UnitId.{UnitId}
use Rattle.crq_session.specs.EndState.{EndState}
use Rattle.tce_window.specs.Port.{Later}
use Rattle.tce_window.specs.PortState.{PortState}
use Rattle.rdma_copy.specs.Copies.{side_of}
use Rattle.block_server.specs.Advances.{CopiesMore, Goes, KeepsFreed, PutsNow, StayNamed}
use Rattle.block_server.specs.DiskLaw.{KeepsDisk}
use Rattle.block_server.specs.Judged.{Judged}
use Rattle.block_server.specs.Judges.{AreInTime, HasJudged}
use Rattle.block_server.specs.Makers.{AreNamed}
use Rattle.block_server.specs.Owed.{HaveAnswers}
use Rattle.block_server.specs.OwnerStrokes.{LaysNoneOfOwner}
use Rattle.block_server.specs.Ready.{AgreesAt, UnitWaits}
use Rattle.block_server.specs.Receipts.{HasIntake, LinesMore, Receipt}
use Rattle.block_server.specs.Resting.{RestsAt}
use Rattle.block_server.specs.SiteState.{AreReady}
use Rattle.block_server.specs.TurnTold.{Stock}
use Rattle.block_server.specs.Turns.{IsStill, way_of}
use Rattle.block_server.specs.Units.{AnswersItsRows, GrantEach, ServesItsRows, grant_of}

-- Of the server, the partition, the number of its units and that of the disk's blocks are as before, and each other unit than this one.
pub record KeepsServer (unit : ℕ) (old new : Stock) : Type 0 where
  pub units : length new.units ≡ length old.units
  pub partition : new.partition ≡ old.partition
  pub count : new.count ≡ old.count
  pub others_stay : (k : ℕ) → k ≢ unit → slice_get new.units k ≡ slice_get old.units k

-- The unit's queue and both windows go on, and are ready for a next turn.
pub record PortsGoOn (link_shared shared : Bool) (queue queue' : EndState) (own own' client client' : PortState) : Type 0 where
  pub goes : Goes queue queue' own own' client client'
  -- Where nobody else has a hand in the client's window, its entries have the values of before, and else these and more.
  pub values : (e : ℕ) → Later shared (client.values e) (client'.values e)
  -- Where nobody else changes the link, the client is in its session of before, and each entry that was put is of that session.
  pub partner : link_shared ≡ false → queue'.counts.partner_session ≡ queue.counts.partner_session
  pub sessions : link_shared ≡ false → PutsNow queue queue'
  -- The windows are ready, and an event that is kept says that the unit's queue is free.
  pub ready : AreReady own' client'
  pub event : KeepsFreed queue'

-- Each copy that was made is lawful, and the unit's own.
pub record CopiesGoOn (shared : Bool) (old new : Stock) (own own' client client' : PortState) : Type 0 where
  pub copies : CopiesMore own' client' old.copies new.copies
  -- Where nobody else has a hand in the client's window, nothing was laid there in the client's name.
  pub owner : shared ≡ false → LaysNoneOfOwner (side_of client) (side_of client')
  -- Where the copies named the strokes of the client's window, or of the unit's own, they still do.
  pub named : StayNamed shared client client' old.copies new.copies
  pub own_named : AreNamed (side_of own) old.copies → AreNamed (side_of own') new.copies

-- Rows came, or were answered, of the unit of this name alone.
pub record RowsGoOn (name : UnitId) (old new : Stock) (queue queue' : EndState) : Type 0 where
  -- Each response that was put is that of one row more which has its answer.
  pub answers : ∥ AnswersItsRows name queue queue' old.records new.records ∥₁
  pub others : ∥ ServesItsRows name old.records new.records ∥₁
  -- Where the rows took some blocks to those of the image, they do so still, and an image that told its blocks tells them.
  pub disk : ∥ KeepsDisk old.records.history.items new.records.history.items old.blocks new.blocks ∥₁
  pub tells : IfSome old.blocks (λ all. IsSome new.blocks)

-- What the answer of a turn of this unit says: whether it did something.
pub record SaysMoved (link_shared shared : Bool) (unit : ℕ) (old new : Stock) (queue queue' : EndState) (own own' client client' : PortState) (result : Result MovedValue NoMemory) : Type 0 where
  -- It is quiet where the unit has nothing to do and its queue is empty, and nobody else changes the link.
  pub rests : link_shared ≡ false → RestsAt old.units unit queue → IfOk result (λ moved. moved ≡ Quiet)
  -- One that moved did something: at the queue, or it brought what the unit has under way to its next stage.
  pub moved : IfOk result (λ moved. moved ≡ Moved → ¬ (IsStill queue queue' × (way_of new.units unit ≡ way_of old.units unit)))
  -- A quiet one did neither.
  pub quiet : IfOk result (λ moved. moved ≡ Quiet → IsStill queue queue')
  pub way : IfOk result (λ moved. moved ≡ Quiet → way_of new.units unit ≡ way_of old.units unit)
  -- Where the unit takes its queue for registered exactly where it is, it does so still, and after a quiet turn nothing was ready.
  pub agrees : AgreesAt old.units unit queue → AgreesAt new.units unit queue'
  pub waits : IfOk result (λ moved. moved ≡ Quiet → AgreesAt old.units unit queue
      → UnitWaits link_shared shared new.units unit queue queue' own own' client client')

-- What of the unit was taken, judged and answered goes on.
pub record RequestsGoOn (link_shared : Bool) (unit : ℕ) (old new : Stock) (queue queue' : EndState) (own own' client client' : PortState) : Type 0 where
  -- Each SRP entry that it took has its receipt.
  pub intake : (receipts : List Receipt) → HasIntake old.units unit own client queue old.copies old.records.grants.items receipts
      → ∥ ((more : List Receipt) × HasIntake new.units unit own' client' queue' new.copies new.records.grants.items (receipts ++ more)) ∥₁
  -- Each line that was added is of the unit, and a login is granted as many requests as the unit grants.
  pub lines : ∥ LinesMore own.place.unit (grant_of old.units unit) old.records.grants.items new.records.grants.items ∥₁
  pub grants : (granted : ℕ) → GrantEach granted old.units old.records.grants.items → GrantEach granted new.units new.records.grants.items
  -- Each receipt has its fate, and each that was judged in the turn was so in time.
  pub judged : (judged : List Judged) → HasJudged old.units unit own client queue old.copies old.records.history.items old.records.grants.items judged
      → ∥ ((more : List Judged)
      × (HasJudged new.units unit own' client' queue' new.copies new.records.history.items new.records.grants.items (judged ++ more)
      × AreInTime own.place.unit old.records.grants.items more)) ∥₁
  -- Where nobody else changes the link, each row has its answer, or is owed one, or was cut off.
  pub answered : link_shared ≡ false
      → (judged : List Judged) → HasJudged old.units unit own client queue old.copies old.records.history.items old.records.grants.items judged
      → HaveAnswers old.units unit own.place.unit queue old.records.history.items old.records.grants.items
      → ∥ HaveAnswers new.units unit own.place.unit queue' new.records.history.items new.records.grants.items ∥₁
