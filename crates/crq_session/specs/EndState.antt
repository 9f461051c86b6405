-- What an end of a link is to its callers, and what a call leaves of it.
use Rattle.std.specs.Prelude.{◌≡◌, ℕ, ◌≤◌, Bool, true, false, List, Option, None}
use Rattle.std.specs.Borrow.{GName}
use Rattle.std.specs.List.{AllPairs}
use Rattle.vio_num.specs.declared.entry.Entry.{Entry}
use Rattle.crq_ring.specs.declared.rows.PipeRow.{PipeRow}
use Rattle.crq_ring.specs.declared.rows.DropRow.{DropRow}
use Rattle.crq_ring.specs.Sessions.{AreRising, Precedes}

-- What only the partner's calls raise: how often it read a slot of the own queue full, polled and found
-- nothing, and read the own control word and found it not open.
pub record PartnerCounts : Type 0 where
  pub full : ℕ
  pub empty : ℕ
  pub closed : ℕ

-- What no call of the end changes. A shared end has none of what only the partner's calls change.
pub record EndPlace : Type 0 where
  -- the borrows through which the link is reached
  pub lenders : List GName
  -- the side of the link
  pub first : Bool
  -- the slots of the own queue and of the partner's
  pub own_slots : ℕ
  pub partner_slots : ℕ
  -- what the partner put into the own queue, and what found its slot full there
  pub received : List PipeRow
  pub received_drops : List DropRow
  -- what the partner took, whether it is registered, and the event that it keeps
  pub partner_taken : List PipeRow
  pub partner_registered : Bool
  pub partner_kept : Option Entry
  pub partner_counts : PartnerCounts

-- What calls only raise.
pub record EndCounts : Type 0 where
  -- the partner's last session; of a shared end, the one that it entered last
  pub partner_session : ℕ
  -- how often a slot was read full, and how often a poll found nothing
  pub full : ℕ
  pub empty : ℕ
  -- how often the partner's control word was read and was not open, or was of another session
  pub closed : ℕ
  -- how often the own control word was read with a sender inside
  pub in_use : ℕ

pub record EndState : Type 0 where
  pub place : EndPlace
  -- the own queue's last session, 0 before the first, and whether the queue is registered
  pub last_session : ℕ
  pub registered : Bool
  -- the event that found its slot full
  pub kept : Option Entry
  -- what was put into the partner's queue, what found its slot full there, what was taken from the own
  pub sent : List PipeRow
  pub drops : List DropRow
  pub taken : List PipeRow
  pub counts : EndCounts
  -- the calls for which room is reserved
  pub spare : ℕ

-- What is so of every end.
pub record IsLawfulEnd (end : EndState) : Type 0 where
  -- a registered queue is in a session, and no event is kept
  pub begun : end.registered ≡ true → 1 ≤ end.last_session
  pub idle : end.registered ≡ true → end.kept ≡ None
  -- rows stand in rising order of their sessions
  pub sent : AreRising end.counts.partner_session end.sent
  pub taken : AreRising end.last_session end.taken
  pub drops : AllPairs Precedes end.drops

-- No count fell; where the end is not shared, the partner is in its session of before.
pub record Rises (shared : Bool) (old new : EndCounts) : Type 0 where
  pub partner_session : old.partner_session ≤ new.partner_session
  pub same_session : shared ≡ false → new.partner_session ≡ old.partner_session
  pub full : old.full ≤ new.full
  pub empty : old.empty ≤ new.empty
  pub closed : old.closed ≤ new.closed
  pub in_use : old.in_use ≤ new.in_use

-- Nothing changed but the room.
pub record OnlyReserves (old new : EndState) : Type 0 where
  pub place : new.place ≡ old.place
  pub last_session : new.last_session ≡ old.last_session
  pub registered : new.registered ≡ old.registered
  pub kept : new.kept ≡ old.kept
  pub sent : new.sent ≡ old.sent
  pub drops : new.drops ≡ old.drops
  pub taken : new.taken ≡ old.taken
  pub counts : new.counts ≡ old.counts

-- Nothing changed but the registration and its session, what was put and is kept, and the counts of sends.
pub record OnlyRegisters (shared : Bool) (old new : EndState) : Type 0 where
  pub place : new.place ≡ old.place
  pub last_session : old.last_session ≤ new.last_session
  pub taken : new.taken ≡ old.taken
  pub counts : Rises shared old.counts new.counts
  pub empty : new.counts.empty ≡ old.counts.empty
  pub in_use : new.counts.in_use ≡ old.counts.in_use

-- Nothing changed but whether the own queue is registered, what was put and is kept, and the counts but that of polls.
pub record OnlyFrees (shared : Bool) (old new : EndState) : Type 0 where
  pub place : new.place ≡ old.place
  pub last_session : new.last_session ≡ old.last_session
  pub taken : new.taken ≡ old.taken
  pub counts : Rises shared old.counts new.counts
  pub empty : new.counts.empty ≡ old.counts.empty

-- Nothing changed but what was put, what found its slot full, and the counts of sends.
pub record OnlySends (shared : Bool) (old new : EndState) : Type 0 where
  pub place : new.place ≡ old.place
  pub last_session : new.last_session ≡ old.last_session
  pub registered : new.registered ≡ old.registered
  pub kept : new.kept ≡ old.kept
  pub taken : new.taken ≡ old.taken
  pub counts : Rises shared old.counts new.counts
  pub empty : new.counts.empty ≡ old.counts.empty
  pub in_use : new.counts.in_use ≡ old.counts.in_use

-- Nothing changed but what was taken, and the count of polls that found nothing.
pub record OnlyTakes (shared : Bool) (old new : EndState) : Type 0 where
  pub place : new.place ≡ old.place
  pub last_session : new.last_session ≡ old.last_session
  pub registered : new.registered ≡ old.registered
  pub kept : new.kept ≡ old.kept
  pub sent : new.sent ≡ old.sent
  pub drops : new.drops ≡ old.drops
  pub counts : Rises shared old.counts new.counts
  pub full : new.counts.full ≡ old.counts.full
  pub closed : new.counts.closed ≡ old.counts.closed
  pub in_use : new.counts.in_use ≡ old.counts.in_use

-- Nothing changed but what was put, what is kept, and the counts of sends.
pub record OnlyPushes (shared : Bool) (old new : EndState) : Type 0 where
  pub place : new.place ≡ old.place
  pub last_session : new.last_session ≡ old.last_session
  pub registered : new.registered ≡ old.registered
  pub taken : new.taken ≡ old.taken
  pub counts : Rises shared old.counts new.counts
  pub empty : new.counts.empty ≡ old.counts.empty
  pub in_use : new.counts.in_use ≡ old.counts.in_use
