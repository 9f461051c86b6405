-- Why a turn did nothing: nothing that it looked at was ready.
use Rattle.std.specs.Prelude.{◌≡◌, ◌≢◌, ◌⊎◌, ℕ, Bool, true, false, List, [], None, IfSome, slice_get}
use Rattle.vio_num.specs.Counts.{Rose}
use Rattle.crq_session.specs.declared.handshake.Handshake.{Handshake}
use Rattle.crq_session.specs.declared.handshake.Handshake.TheVariants.{Down}
use Rattle.crq_session.specs.EndState.{EndState, Rises}
use Rattle.crq_session.specs.Answered.{FindsFull, FindsInUse, FindsNone}
use Rattle.tce_window.specs.PortState.{PortState}
use Rattle.block_server.specs.declared.unit.Unit.{Unit}
use Rattle.block_server.specs.Receipts.{is_ended}
use Rattle.block_server.specs.Turns.{IsStill}

-- At the queue's end nothing was done: it is still, no entry found its slot full, no count fell, and no event is kept anew.
pub record Idles (shared : Bool) (old new : EndState) : Type 0 where
  pub still : IsStill old new
  pub place : new.place ≡ old.place
  pub drops : new.drops ≡ old.drops
  pub counts : Rises shared old.counts new.counts
  pub kept : old.kept ≡ None → new.kept ≡ None

-- What was to be put found its slot of the client's queue full.
pub record MeetsFull (shared : Bool) (old new : EndState) : Type 0 where
  pub before : EndState
  pub idles : Idles shared old before
  pub number : ℕ
  pub held : ℕ
  pub full : FindsFull shared before new number held

-- The own queue was to be freed, and a sender was inside.
pub record MeetsSender (shared : Bool) (old new : EndState) : Type 0 where
  pub before : EndState
  pub idles : Idles shared old before
  pub word : ℕ
  pub inside : FindsInUse shared before new word

-- All that was received had been taken.
pub record MeetsEmpty (shared : Bool) (old new : EndState) : Type 0 where
  pub before : EndState
  pub idles : Idles shared old before
  pub number : ℕ
  pub none : FindsNone shared before new number
  pub kept : old.kept ≡ None → new.kept ≡ None

-- A page was in use, which others have in hand: they have a hand in the client's window, and one of the two windows
-- counted it.
pub record FindsUse (shared : Bool) (own own' client client' : PortState) : Type 0 where
  pub shared_is : shared ≡ true
  pub rose : Rose own.in_use own'.in_use ⊎ Rose client.in_use client'.in_use

-- The unit has nothing to do: no entry waits to be fetched or put, no request is pending, and its session goes on.
pub record HasNothing (unit : Unit) : Type 0 where
  pub waiting : unit.waiting ≡ None
  pub pending : unit.pending.items ≡ []
  pub kept : unit.line.kept ≡ None
  pub going : is_ended unit.line ≡ false

-- The unit takes its queue for registered exactly where it is.
pub record Agrees (handshake : Handshake) (queue : EndState) : Type 0 where
  pub down : handshake ≡ Down → queue.registered ≡ false
  pub on : handshake ≢ Down → queue.registered ≡ true

-- Nothing was ready: a slot was full, a sender was inside, a page was in use; or the own queue, which is registered, is
-- empty, no event is kept, and the unit has nothing to do.
abbrev pub NothingReady : (shared client_shared : Bool) → (queue queue' : EndState) → (own own' client client' : PortState) → Unit → Type 0
NothingReady shared client_shared queue queue' own own' client client' unit' =
    MeetsFull shared queue queue'
    ⊎ (MeetsSender shared queue queue'
    ⊎ (FindsUse client_shared own own' client client'
    ⊎ (MeetsEmpty shared queue queue' × ((queue'.registered ≡ true) × ((queue'.kept ≡ None) × HasNothing unit')))))

-- of the unit of this number, after a turn
abbrev pub UnitWaits : (shared client_shared : Bool) → List Unit → (unit : ℕ) → (queue queue' : EndState)
    → (own own' client client' : PortState) → Type 0
UnitWaits shared client_shared units unit queue queue' own own' client client' =
    IfSome (slice_get units unit) (NothingReady shared client_shared queue queue' own own' client client')

-- the same of the unit of this number and its queue
abbrev pub AgreesAt : List Unit → (unit : ℕ) → EndState → Type 0
AgreesAt units unit queue = IfSome (slice_get units unit) (λ u. Agrees u.line.handshake queue)

-- Each unit takes its queue for unregistered.
abbrev pub AreDown : List Unit → Type 0
AreDown units = (number : ℕ) → IfSome (slice_get units number) (λ u. u.line.handshake ≡ Down)
