-- What a unit's calls leave of its queue and of the two windows: nothing that was known is gone, nothing was put but what a
-- unit may put, and nothing was copied but by lawful copies.
use Rattle.std.specs.Prelude.{◌≡◌, ◌==◌, ◌<◌, ◌≤◌, ◌⊎◌, ◌++◌, ℕ, Bool, false, true, not, All, List, Some, filter}
use Rattle.vio_num.specs.declared.entry.Entry.{Entry}
use Rattle.vio_num.specs.Entry.{partner_freed}
use Rattle.crq_ring.specs.declared.rows.PipeRow.{PipeRow}
use Rattle.crq_session.specs.EndState.{EndState}
use Rattle.vio_num.specs.Words.{Begins}
use Rattle.tce_window.specs.Port.{Later}
use Rattle.tce_window.specs.PortState.{PortState}
use Rattle.rdma_copy.specs.Copy.{IsLawful, SideGrows}
use Rattle.rdma_copy.specs.declared.copy.CopyRecord.{CopyRecord}
use Rattle.rdma_copy.specs.Copies.{side_of}
use Rattle.block_server.specs.Entries.{MayPut}
use Rattle.block_server.specs.Makers.{AreNamed}
use Rattle.block_server.specs.OwnerStrokes.{LaysNoneOfOwner}
use Rattle.block_server.specs.SiteState.{SiteState}

-- Entries were put behind those that were, each of which a unit may put.
pub record PutsMore (old new : List PipeRow) : Type 0 where
  pub more : List PipeRow
  pub put : new ≡ old ++ more
  pub may : All (λ row. MayPut row.entry) more

-- the rows of other sessions than this one
abbrev pub rows_elsewhere : (session : ℕ) → List PipeRow → List PipeRow
rows_elsewhere session rows = filter (λ row. not (row.session == session)) rows

-- What was put is of the partner's session, and nothing was where the partner's queue is not registered.
pub record PutsNow (old new : EndState) : Type 0 where
  pub others : rows_elsewhere old.counts.partner_session new.sent ≡ rows_elsewhere old.counts.partner_session old.sent
  pub none : old.place.partner_registered ≡ false → new.sent ≡ old.sent

-- A queue that is registered was so before, or it is in a later session.
abbrev pub OpensLater : (old new : EndState) → Type 0
OpensLater old new = new.registered ≡ true → (old.registered ≡ true) ⊎ (old.last_session < new.last_session)

-- The event that is kept, if one is, says that the unit's queue is free.
abbrev pub KeepsFreed : EndState → Type 0
KeepsFreed queue = (event : Entry) → queue.kept ≡ Some event → event ≡ partner_freed

-- The copy bears the unit's name, and is a lawful one from its client's window to its own, or from its own to its client's.
pub record IsOwnCopy (own client : PortState) (copy : CopyRecord) : Type 0 where
  pub who : copy.name.who ≡ own.place.unit
  pub from : ℕ
  pub to : ℕ
  pub lawful : IsLawful copy (side_of client) from (side_of own) to ⊎ IsLawful copy (side_of own) from (side_of client) to

-- Copies were made behind those that were, each of which is the unit's own.
pub record CopiesMore (own client : PortState) (old new : List CopyRecord) : Type 0 where
  pub more : List CopyRecord
  pub made : new ≡ old ++ more
  pub lawful : All (IsOwnCopy own client) more

-- Where no other has a hand in the window: if the copies named its strokes, they still do.
abbrev pub StayNamed : (shared : Bool) → (old new : PortState) → (copies copies' : List CopyRecord) → Type 0
StayNamed shared old new copies copies' = shared ≡ false → AreNamed (side_of old) copies → AreNamed (side_of new) copies'

pub record Advances (old new : SiteState) : Type 0 where
  pub reached : new.reached ≡ old.reached
  pub queue_place : new.queue.place ≡ old.queue.place
  pub own_place : new.own.place ≡ old.own.place
  pub client_place : new.client.place ≡ old.client.place
  pub shared : new.shared ≡ old.shared
  -- where nobody else changes the link, the partner is in its session of before
  pub partner : old.reached.link_shared ≡ false → new.queue.counts.partner_session ≡ old.queue.counts.partner_session
  pub now : old.reached.link_shared ≡ false → PutsNow old.queue new.queue
  -- the sends that found the partner's queue closed are counted
  pub closed : old.queue.counts.closed ≤ new.queue.counts.closed
  pub values : (e : ℕ) → Later old.shared (old.client.values e) (new.client.values e)
  pub session : old.queue.last_session ≤ new.queue.last_session
  pub opens : OpensLater old.queue new.queue
  pub taken : Begins old.queue.taken new.queue.taken
  pub put : PutsMore old.queue.sent new.queue.sent
  pub own : SideGrows (side_of old.own) (side_of new.own)
  pub client : SideGrows (side_of old.client) (side_of new.client)
  pub copies : CopiesMore new.own new.client old.copies new.copies
  pub own_in_use : old.own.in_use ≤ new.own.in_use
  pub client_in_use : old.client.in_use ≤ new.client.in_use
  -- where nobody else has a hand in the client's window, nothing was laid there in the client's name
  pub owner : old.shared ≡ false → LaysNoneOfOwner (side_of old.client) (side_of new.client)
  pub named : StayNamed old.shared old.client new.client old.copies new.copies
  pub own_named : AreNamed (side_of old.own) old.copies → AreNamed (side_of new.own) new.copies

-- What a turn leaves of its queue's end, of the unit's own window and of its client's.
pub record Goes (queue queue' : EndState) (own own' client client' : PortState) : Type 0 where
  pub queue_place : queue'.place ≡ queue.place
  pub own_place : own'.place ≡ own.place
  pub client_place : client'.place ≡ client.place
  pub session : queue.last_session ≤ queue'.last_session
  pub opens : OpensLater queue queue'
  pub taken : Begins queue.taken queue'.taken
  pub put : PutsMore queue.sent queue'.sent
  pub own_grows : SideGrows (side_of own) (side_of own')
  pub client_grows : SideGrows (side_of client) (side_of client')
