-- What contracts see of a seat at a shared link, and of the end that it is.
use Rattle.std.specs.Prelude.{◌≡◌, ℕ, ◌+◌, ◌≤◌, Bool, false, List, [], None, min}
use Rattle.std.specs.Borrow.{GName}
use Rattle.crq_ring.specs.Later.{IsLater}
use Rattle.crq_session.specs.declared.seat.LinkSeat.{LinkSeat}
use Rattle.crq_session.specs.EndState.{EndPlace, EndState}

-- the place of a shared end, which has none of what only the partner's calls change
abbrev pub shared_place : List GName → Bool → ℕ → ℕ → EndPlace
shared_place lenders first own_slots partner_slots = record {
  lenders = lenders;
  first = first;
  own_slots = own_slots;
  partner_slots = partner_slots;
  received = [];
  received_drops = [];
  partner_taken = [];
  partner_registered = false;
  partner_kept = None;
  partner_counts = record { full = 0; empty = 0; closed = 0 };
}

-- the calls for which room is reserved, of whatever kind they are
abbrev pub seat_spare_of : LinkSeat → ℕ
seat_spare_of seat = min seat.send.spare (min seat.recv.spare seat.recv.renewals)

-- the end that a seat is, in its place
abbrev pub end_at : EndPlace → LinkSeat → EndState
end_at place seat = record {
  place = place;
  last_session = seat.recv.session;
  registered = seat.recv.is_open;
  kept = seat.kept;
  sent = seat.send.sent;
  drops = seat.send.drops;
  taken = seat.recv.taken;
  counts = record {
    partner_session = seat.send.session;
    full = seat.send.full;
    empty = seat.recv.empty;
    closed = seat.closed;
    in_use = seat.in_use;
  };
  spare = seat_spare_of seat;
}

-- A seat that made no call.
pub record IsNewSeat (seat : LinkSeat) (first : Bool) : Type 0 where
  pub first_is : seat.first ≡ first
  pub kept : seat.kept ≡ None
  pub never_closed : seat.closed ≡ 0
  pub never_in_use : seat.in_use ≡ 0

-- A call of a seat as an end of the link, in whatever place; and where the partner's queue has n slots.
abbrev pub Anywhere : (EndState → EndState → Type 0) → LinkSeat → LinkSeat → Type 0
Anywhere P old new = (place : EndPlace) → P (end_at place old) (end_at place new)

abbrev pub AtSeat : (EndState → EndState → Type 0) → ℕ → LinkSeat → LinkSeat → Type 0
AtSeat P n old new = (place : EndPlace) → place.partner_slots ≡ n → P (end_at place old) (end_at place new)

-- What every call of a seat keeps: its rings, that it is outside the partner's queue between calls, and that
-- nothing is put in a session of the own queue that has ended.
pub record KeepsSeat (old new : LinkSeat) : Type 0 where
  pub first : new.first ≡ old.first
  pub send_ring : new.send.ring ≡ old.send.ring
  pub outside : new.send.inside ≡ false
  pub later : IsLater old.recv new.recv

-- A call used up the room of one call at most.
pub record SpendsSeat (old new : LinkSeat) : Type 0 where
  pub puts : old.send.spare ≤ new.send.spare + 1
  pub polls : old.recv.spare ≤ new.recv.spare + 1
  pub renewals : old.recv.renewals ≤ new.recv.renewals + 1
