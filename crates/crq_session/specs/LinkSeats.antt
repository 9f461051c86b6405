-- Which queue of a shared link is whose.
use Rattle.std.specs.Prelude.{◌≡◌, Bool, true, false, not}
use Rattle.crq_ring.specs.Ends.{RingValue}
use Rattle.crq_session.specs.declared.seat.LinkSeat.{LinkSeat}
use Rattle.crq_session.specs.declared.shared_link.Link.{Link}

-- the queue from which a side polls, the first or the second
abbrev pub ring_of : Link → Bool → RingValue
ring_of link true = link.first
ring_of link false = link.second

-- The seat is one of this link.
pub record IsSeatOf (link : Link) (seat : LinkSeat) : Type 0 where
  pub own : seat.recv.ring ≡ (ring_of link seat.first).id
  pub partner : seat.send.ring ≡ (ring_of link (not seat.first)).id
