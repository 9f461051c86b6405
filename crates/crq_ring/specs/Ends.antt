-- What contracts see of a ring and of its two ends.
use Rattle.std.specs.Prelude.{◌≡◌, ℕ, Bool, true, false, List}
use Rattle.atomic_table.specs.Seated.{TableId}
use Rattle.vio_num.specs.declared.entry.Entry.{Entry}
use Rattle.vio_num.specs.Words.{WordRead}
use Rattle.crq_ring.specs.declared.rows.PipeRow.{PipeRow}
use Rattle.crq_ring.specs.declared.rows.DropRow.{DropRow}
use Rattle.crq_ring.specs.Sessions.{of_session}

pub record RingValue : Type 0 where
  -- which ring it is
  pub id : TableId
  pub slots : ℕ

pub record SendValue : Type 0 where
  -- the ring that it is an end of
  pub ring : TableId
  -- the session that it entered last, 0 before the first, and whether it is inside
  pub session : ℕ
  pub inside : Bool
  -- what it put, and what it knows was taken, over all sessions
  pub sent : List PipeRow
  pub known : List PipeRow
  -- what found its slot full, one record a number, and how often one was found full
  pub drops : List DropRow
  pub full : ℕ
  -- the puts for which room is reserved
  pub spare : ℕ
  pub last : WordRead

pub record RecvValue : Type 0 where
  -- the ring that it is an end of
  pub ring : TableId
  -- the last session, 0 before the first, and whether the queue is open
  pub session : ℕ
  pub is_open : Bool
  -- what it took, and what it knows was put, over all sessions
  pub taken : List PipeRow
  pub heard : List PipeRow
  -- how often it found nothing
  pub empty : ℕ
  -- the polls and the sessions for which room is reserved
  pub spare : ℕ
  pub renewals : ℕ
  pub last : WordRead

-- what was put in the sender's session, and what it knows was taken of it
abbrev pub end_sent : SendValue → List Entry
end_sent send = of_session send.session send.sent

abbrev pub known_now : SendValue → List Entry
known_now send = of_session send.session send.known

-- what was taken in the last session, and what the receiver knows was put in it
abbrev pub end_taken : RecvValue → List Entry
end_taken recv = of_session recv.session recv.taken

abbrev pub heard_now : RecvValue → List Entry
heard_now recv = of_session recv.session recv.heard

-- It is an end of this ring, inside it; or one whose queue is open.
abbrev pub MayPut : RingValue → SendValue → Type 0
MayPut ring send = (send.ring ≡ ring.id) × (send.inside ≡ true)

abbrev pub MayPoll : RingValue → RecvValue → Type 0
MayPoll ring recv = (recv.ring ≡ ring.id) × (recv.is_open ≡ true)

-- It is an end of this ring, outside it; or one whose queue is closed.
abbrev pub MayEnter : RingValue → SendValue → Type 0
MayEnter ring send = (send.ring ≡ ring.id) × (send.inside ≡ false)

abbrev pub MayBegin : RingValue → RecvValue → Type 0
MayBegin ring recv = (recv.ring ≡ ring.id) × (recv.is_open ≡ false)

pub record FrontValue : Type 0 where
  pub ring : TableId
  -- what the sender had put, and what it knew was taken
  pub sent : List PipeRow
  pub known : List PipeRow

pub record RoomValue : Type 0 where
  pub ring : TableId
  -- what the receiver had taken, and what it knew was put
  pub taken : List PipeRow
  pub heard : List PipeRow
