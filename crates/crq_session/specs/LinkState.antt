-- What contracts see of a shared link: its queues, its seats, and the plain link that it ends as.
use Rattle.std.specs.Prelude.{◌≡◌, ℕ, Bool, true, false, not, List, ◌∷◌, ◌++◌, length}
use Rattle.std.specs.Borrow.{GName}
use Rattle.crq_ring.specs.declared.rows.PipeRow.{PipeRow}
use Rattle.crq_ring.specs.Ends.{RingValue, SendValue}
use Rattle.crq_ring.specs.Ring.{Opens, Closes}
use Rattle.crq_ring.specs.RingSessions.{EntersSession, FindsNoSession}
use Rattle.crq_ring.specs.SharedPipe.{names_of}
use Rattle.crq_session.specs.declared.link.PlainLink.{PlainLink}
use Rattle.crq_session.specs.declared.seat.LinkSeat.{LinkSeat}
use Rattle.crq_session.specs.declared.shared_end.SharedEnd.{SharedEnd}
use Rattle.crq_session.specs.declared.shared_link.Link.{Link}
use Rattle.crq_session.specs.declared.shared_link.OpenedLink.{OpenedLink}
use Rattle.crq_session.specs.declared.side.PlainSide.{PlainSide}
use Rattle.crq_session.specs.EndState.{EndPlace, EndState}
use Rattle.crq_session.specs.LinkSeats.{ring_of}
use Rattle.crq_session.specs.PlainState.{side_of}
use Rattle.crq_session.specs.SeatState.{IsNewSeat, shared_place, end_at}

-- the borrow of a seat, and the numbers that tell the two queues of its link from all others, those of the
-- first with their count before them
abbrev pub lenders_of : GName → Link → List GName
lenders_of lender link = let first = names_of link.first.id in let second = names_of link.second.id in
    lender ∷ length first ∷ first ++ second

abbrev pub place_at : GName → Link → Bool → EndPlace
place_at lender link first = shared_place (lenders_of lender link) first (ring_of link first).slots (ring_of link (not first)).slots

abbrev pub place_of : SharedEnd → EndPlace
place_of end = place_at end.seat.ghost_name end.link.now end.seat.now.first

abbrev pub shared_state_of : SharedEnd → EndState
shared_state_of end = end_at (place_of end) end.seat.now

-- what the receiver of the seat's own queue knows was put into it
abbrev pub shared_heard_of : SharedEnd → List PipeRow
shared_heard_of end = end.seat.now.recv.heard

-- A link whose queues have these numbers of slots, before their first sessions, and its seats.
pub record OpensLink (opened : OpenedLink) (slots_a slots_b : ℕ) : Type 0 where
  pub a : IsNewSeat opened.a true
  pub b : IsNewSeat opened.b false
  pub first : Opens false slots_a opened.link.first opened.b.send opened.a.recv
  pub second : Opens false slots_b opened.link.second opened.a.send opened.b.recv

-- A side of a plain link with this queue, from these ends and what the seat of the side kept.
pub record ClosesSide (ring : RingValue) (seat : LinkSeat) (send : SendValue) (side : PlainSide) : Type 0 where
  pub queue : Closes ring send seat.recv side.queue
  pub registered : side.registered ≡ seat.recv.is_open
  pub kept : side.kept ≡ seat.kept
  pub closed : side.closed ≡ seat.closed

-- The plain link of exactly what the two sides put, took, dropped and keep.
pub record ClosesLink (link : Link) (a b : LinkSeat) (plain : PlainLink) : Type 0 where
  pub first : ClosesSide link.first a b.send (side_of plain true)
  pub second : ClosesSide link.second b a.send (side_of plain false)

-- Nothing changed but the sender's end.
pub record OnlyGoes (old new : LinkSeat) : Type 0 where
  pub first : new.first ≡ old.first
  pub recv : new.recv ≡ old.recv
  pub kept : new.kept ≡ old.kept
  pub closed : new.closed ≡ old.closed
  pub in_use : new.in_use ≡ old.in_use

-- The seat is inside its partner's session; the partner's queue is closed or in another session; it is
-- outside again.
pub record GoesIn (old new : LinkSeat) : Type 0 where
  pub enters : EntersSession old.send new.send
  pub rest : OnlyGoes old new

pub record StaysOut (old : LinkSeat) (word : ℕ) (new : LinkSeat) : Type 0 where
  pub finds : FindsNoSession old.send word new.send
  pub rest : OnlyGoes old new

pub record GoesOut (old new : LinkSeat) : Type 0 where
  pub leaves : new.send ≡ record old.send { inside = false }
  pub rest : OnlyGoes old new
