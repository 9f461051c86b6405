-- Why a unit hears no more in a turn.
use Rattle.std.specs.Prelude.{◌≡◌, ◌≢◌, ◌⊎◌, ◌+◌, ◌<◌, ◌≤◌, ℕ, Bool, true, false, List, [], Some, None, length, slice_get}
use Rattle.crq_session.specs.Answered.{partner_took, sent_now}
use Rattle.crq_session.specs.EndState.{EndState}
use Rattle.block_server.specs.Receipts.{is_ended}
use Rattle.block_server.specs.Talk.{to_come}
use Rattle.block_server.specs.Waits.{AsNext}
use Rattle.block_server.specs.declared.intake.Next.{Next}
use Rattle.block_server.specs.declared.intake.Next.TheVariants.{End}
use Rattle.block_server.specs.declared.service.Outcome.{Outcome}
use Rattle.block_server.specs.declared.service.Stage.TheVariants as stages
use Rattle.block_server.specs.declared.unit.Unit.{Unit}

-- The client's queue is registered, and there is no room in it: as many entries are unread as it has slots.
pub record HasNoRoom (queue : EndState) : Type 0 where
  pub partner : queue.place.partner_registered ≡ true
  pub slots : length (sent_now queue queue.counts.partner_session) ≡ length (partner_took queue queue.counts.partner_session) + queue.place.partner_slots

-- The unit hears no more from this queue, for one of these causes. Whether others have a hand in its client's window (`shared`), and how many
-- requests may be pending (`most`), is said beside.
pub data HearsOut (most : ℕ) (shared : Bool) (unit : Unit) (queue : EndState) : Type 0 where
  -- nothing is to come
  heard_all : to_come queue ≡ [] → HearsOut most shared unit queue
  -- the session is over
  over : unit.line.closing ≡ true → HearsOut most shared unit queue
  -- the queue is not registered
  shut : queue.registered ≡ false → HearsOut most shared unit queue
  -- an entry is to be put before all else, and there is no room for it in the client's queue
  keeps : unit.line.kept ≢ None → HasNoRoom queue → HearsOut most shared unit queue
  -- an information unit is to be fetched, whose page somebody else uses
  waits : shared ≡ true → unit.waiting ≢ None → HearsOut most shared unit queue
  -- as many requests are pending as may be
  full : most ≤ length unit.pending.items → HearsOut most shared unit queue

-- No more is to come than a turn takes.
abbrev pub FitsSlots : EndState → Type 0
FitsSlots queue = length (to_come queue) ≤ queue.place.own_slots

-- The next entry was taken; or the unit hears no more.
abbrev pub HearsNext : (shared : Bool) → (unit' : Unit) → (old new : EndState) → Next → Type 0
HearsNext shared unit' old new next =
    AsNext next (length (to_come new) + 1 ≡ length (to_come old)) (HearsOut 256 shared unit' new) (HearsOut 256 shared unit' new)

-- What keeps a unit from hearing more stays, but that so many requests less may be pending, which were served.
pub record StaysBusy (served : ℕ) (unit unit' : Unit) : Type 0 where
  pub closing : unit'.line.closing ≡ unit.line.closing
  pub waiting : unit'.waiting ≡ unit.waiting
  pub pending : length unit.pending.items ≤ length unit'.pending.items + served

-- A part of a turn that heard nothing: what is to come stays, and so does what keeps the unit from hearing it, unless its session ended.
pub record HearsNone (unit unit' : Unit) (old new : EndState) : Type 0 where
  pub coming : to_come new ≡ to_come old
  pub registered : new.registered ≡ old.registered
  pub goes : (unit'.line.closing ≡ true) ⊎ StaysBusy 1 unit unit'

-- A unit hears what is to come in its turn: nobody else changes the link, its session goes on, no event is kept, and no more is to come than a
-- turn takes.
pub record MayHear (unit : Unit) (queue : EndState) (link_shared : Bool) : Type 0 where
  pub alone : link_shared ≡ false
  pub going : is_ended unit.line ≡ false
  pub event : queue.kept ≡ None
  pub few : FitsSlots queue

-- SERVING IT -------------------------------------------------------------------------------------

-- how many requests are pending, or may come
abbrev pub to_serve : Unit → EndState → ℕ
to_serve unit queue = length unit.pending.items + length (to_come queue)

-- The session is over, or an entry is to be put before all else.
abbrev pub IsStopped : Unit → Type 0
IsStopped unit = (unit.line.closing ≡ true) ⊎ (unit.line.kept ≢ None)

-- One entry brought one request at most; and it ended the turn only where the unit is stopped.
pub record BringsOne (unit unit' : Unit) (next : Next) : Type 0 where
  pub most : length unit'.pending.items ≤ length unit.pending.items + 1
  pub ends : next ≡ End → IsStopped unit'

-- What was heard brought no more requests than it has entries; and it ended the turn only where the unit is stopped.
pub record BringsFew (unit unit' : Unit) (old new : EndState) (next : Next) : Type 0 where
  pub most : to_serve unit' new ≤ to_serve unit old
  pub ends : next ≡ End → IsStopped unit'

-- The answer to the oldest request was copied; or the session ended.
abbrev pub CopiesOrEnds : (unit unit' : Unit) → Outcome → Type 0
CopiesOrEnds unit unit' outcome =
    ((unit'.service.stage ≡ stages.Entry outcome) × (unit'.pending.items ≡ unit.pending.items)) ⊎ ((unit'.service.stage ≡ stages.Start) × (unit'.line.closing ≡ true))

-- One request less is pending, unless the unit is stopped.
abbrev pub ServesOrStops : (unit unit' : Unit) → Type 0
ServesOrStops unit unit' = IsStopped unit' ⊎ (length unit'.pending.items < length unit.pending.items)

-- Nothing is pending; or the session is over; or an entry is kept; or fewer requests are pending or may come than before.
abbrev pub ServesOut : (unit unit' : Unit) → (old new : EndState) → Type 0
ServesOut unit unit' old new =
    (unit'.pending.items ≡ []) ⊎ ((unit'.line.closing ≡ true) ⊎ ((unit'.line.kept ≢ None) ⊎ (to_serve unit' new < to_serve unit old)))

-- The unit of this number hears no more, after such a turn; and where nobody else has a hand in the client's window, and no information unit is to
-- be fetched, it served a request, or what keeps it from that is said.
pub record UnitHearsOut (units' : List Unit) (number : ℕ) (unit : Unit) (shared : Bool) (old queue : EndState) : Type 0 where
  pub unit' : Unit
  pub there : slice_get units' number ≡ Some unit'
  pub out : HearsOut 255 shared unit' queue
  pub serves : shared ≡ false → unit.waiting ≡ None → ServesOut unit unit' old queue
