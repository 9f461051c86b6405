-- Where each step of a turn stops that does nothing.
use Rattle.std.specs.Prelude.{◌≡◌, ◌≢◌, ◌⊎◌, Bool, true, false, [], None}
use Rattle.crq_session.specs.declared.handshake.Handshake.TheVariants.{Down}
use Rattle.crq_session.specs.EndState.{EndState}
use Rattle.block_server.specs.declared.intake.Next.{Next}
use Rattle.block_server.specs.declared.intake.Next.TheVariants.{Entry, Service, End}
use Rattle.block_server.specs.declared.unit.Unit.{Unit}
use Rattle.block_server.specs.Ready.{Agrees, FindsUse, Idles, MeetsEmpty, MeetsFull, MeetsSender, NothingReady}
use Rattle.block_server.specs.Receipts.{is_ended}
use Rattle.block_server.specs.SiteState.{SiteState}
use Rattle.block_server.specs.Stage.{is_entry}

-- A page was in use.
abbrev pub MeetsUse : SiteState → SiteState → Type 0
MeetsUse old new = FindsUse old.shared old.own new.own old.client new.client

-- The unit takes its queue for registered exactly where it is, if it did.
abbrev pub StaysAgreed : Unit → Unit → EndState → EndState → Type 0
StaysAgreed unit unit' old new = Agrees unit.line.handshake old → Agrees unit'.line.handshake new

-- It does not.
abbrev pub Disagrees : Unit → EndState → Type 0
Disagrees unit queue = ¬ Agrees unit.line.handshake queue

-- A request is pending.
abbrev pub IsPending : Unit → Type 0
IsPending unit = unit.pending.items ≢ []

-- There was nothing to be taken: the own queue is empty, or it is not registered.
abbrev pub FindsNothing : (shared : Bool) → EndState → EndState → Type 0
FindsNothing shared old new = (MeetsEmpty shared old new × (new.registered ≡ true)) ⊎ (new.registered ≡ false)

-- Why intake stopped before it took anything: at a page in use, at as many requests as may be pending, or with no entry.
abbrev pub StopsIntake : (shared : Bool) → Unit → SiteState → SiteState → Type 0
StopsIntake shared unit' old new =
    MeetsUse old new ⊎ (IsPending unit' ⊎ ((unit'.waiting ≡ None) × FindsNothing shared old.queue new.queue))

-- The entry of its answer is to be put.
pub record IsEntryDue (unit : Unit) : Type 0 where
  pub pending : IsPending unit
  pub stage : is_entry unit.service.stage ≡ true

-- No entry is kept to be put, any more, and nothing else was done.
pub record PassesKept (shared : Bool) (unit unit' : Unit) (old new : EndState) : Type 0 where
  pub idles : Idles shared old new
  pub none : unit'.line.kept ≡ None
  pub handshake : unit'.line.handshake ≡ unit.line.handshake
  pub closing : unit'.line.closing ≡ unit.line.closing

-- No event is kept, any more, and nothing else was done.
pub record PassesEvent (shared : Bool) (old new : EndState) : Type 0 where
  pub idles : Idles shared old new
  pub none : new.kept ≡ None

-- Intake came to its end, and took nothing.
pub record EndsIntake (shared : Bool) (unit unit' : Unit) (old new : SiteState) : Type 0 where
  pub idles : Idles shared old.queue new.queue
  pub line : unit'.line ≡ unit.line
  pub stops : StopsIntake shared unit' old new

-- The queue's end stands, the unit takes it for registered, and the session goes on.
pub record StandsOpen (shared : Bool) (unit' : Unit) (old new : EndState) : Type 0 where
  pub passes : PassesEvent shared old new
  pub on : unit'.line.handshake ≢ Down
  pub going : is_ended unit'.line ≡ false

-- The first calls of a turn stopped at a full slot, at a sender, or at a registration that the unit does not know of.
abbrev pub StopsOpening : (shared : Bool) → Unit → EndState → EndState → Type 0
StopsOpening shared unit' old new = MeetsFull shared old new ⊎ (MeetsSender shared old new ⊎ Disagrees unit' new)

-- The service stopped at a page in use, or at a full slot.
abbrev pub IsHeldUp : (shared : Bool) → SiteState → SiteState → Type 0
IsHeldUp shared old new = MeetsUse old new ⊎ MeetsFull shared old.queue new.queue

-- Nothing was ready.
abbrev pub HasNoneReady : (shared : Bool) → SiteState → SiteState → Unit → Type 0
HasNoneReady shared old new unit' =
    NothingReady shared old.shared old.queue new.queue old.own new.own old.client new.client unit'

-- Nothing was ready, or the registration is not as the unit takes it.
abbrev pub IsIdle : (shared : Bool) → SiteState → SiteState → Unit → Type 0
IsIdle shared old new unit' = Disagrees unit' new.queue ⊎ HasNoneReady shared old new unit'

-- by what comes after a step: the next entry, the service of the oldest request, or the end of the turn
abbrev pub AsNext : Next → (entry service over : Type 0) → Type 0
AsNext Entry entry service over = entry
AsNext Service entry service over = service
AsNext End entry service over = over
