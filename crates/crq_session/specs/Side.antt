-- What contracts see of one side of a plain link, and of an end between two sides.
use Rattle.std.specs.Prelude.{◌≡◌, ℕ, ◌+◌, ◌≤◌, Bool, false, List, Option, Some, None, min}
use Rattle.std.specs.Borrow.{GName}
use Rattle.vio_num.specs.declared.entry.Entry.{Entry}
use Rattle.crq_ring.specs.Control.{control_word}
use Rattle.crq_ring.specs.Pipe.{IsEmptyPipe, OnlyReserves}
use Rattle.crq_session.specs.declared.answers.EventAnswer.{EventAnswer}
use Rattle.crq_session.specs.declared.answers.EventAnswer.TheVariants.{Kept}
use Rattle.crq_session.specs.declared.side.PlainSide.{PlainSide}
use Rattle.crq_session.specs.Control.{fits_queue}
use Rattle.crq_session.specs.EndState.{EndState}

-- the calls for which room is reserved, of whatever kind they are
unfoldable pub spare_of : PlainSide → PlainSide → ℕ
spare_of own partner = min partner.queue.room.puts (min own.queue.room.polls own.queue.room.renewals)

-- the end that has this side for its own
abbrev pub end_over : List GName → Bool → PlainSide → PlainSide → EndState
end_over lenders first own partner = record {
  place = record {
    lenders = lenders;
    first = first;
    own_slots = own.queue.slots;
    partner_slots = partner.queue.slots;
    received = own.queue.sent;
    received_drops = own.queue.drops;
    partner_taken = partner.queue.taken;
    partner_registered = partner.registered;
    partner_kept = partner.kept;
    partner_counts = record {
      full = own.queue.counts.full;
      empty = partner.queue.counts.empty;
      closed = partner.closed;
    };
  };
  last_session = own.queue.session;
  registered = own.registered;
  kept = own.kept;
  sent = partner.queue.sent;
  drops = partner.queue.drops;
  taken = own.queue.taken;
  counts = record {
    partner_session = partner.queue.session;
    full = partner.queue.counts.full;
    empty = own.queue.counts.empty;
    closed = own.closed;
    in_use = 0;
  };
  spare = spare_of own partner;
}

-- these are the address and the length in bytes of a side's queue
abbrev pub fits_side : PlainSide → ℕ → ℕ → Bool
fits_side side = fits_queue side.queue.slots

-- the control word of a side whose queue is not registered
abbrev pub IsClosedWordOf : PlainSide → ℕ → Type 0
IsClosedWordOf side word = word ≡ control_word side.queue.session false false

-- A call between two sides, as an end sees it, whatever the borrows and the side of the link.
abbrev pub At : (EndState → EndState → Type 0) → PlainSide → PlainSide → PlainSide → PlainSide → Type 0
At P own partner own' partner' =
    (lenders : List GName) (first : Bool) → P (end_over lenders first own partner) (end_over lenders first own' partner')

-- A side whose queue has this many slots, before its first session.
pub record IsNewSide (side : PlainSide) (slots : ℕ) : Type 0 where
  pub queue : IsEmptyPipe side.queue slots 0
  pub unregistered : side.registered ≡ false
  pub kept : side.kept ≡ None
  pub never : side.closed ≡ 0

-- Nothing changed but the room, and there is no less of it.
pub record KeepsSide (old new : PlainSide) : Type 0 where
  pub queue : OnlyReserves old.queue new.queue
  pub registered : new.registered ≡ old.registered
  pub kept : new.kept ≡ old.kept
  pub closed : new.closed ≡ old.closed

-- An event is kept where it found its slot full, and only there.
abbrev pub IsKeptBy : EventAnswer → Entry → Option Entry → Type 0
IsKeptBy (Kept number held) event kept = kept ≡ Some event
IsKeptBy _ event kept = kept ≡ None

-- where no event is kept any more: P
abbrev pub OnNotKept : EventAnswer → Type 0 → Type 0
OnNotKept (Kept number held) P = Unit {0}
OnNotKept _ P = P

-- A call used up the room of one call at most.
pub record Spends (own partner own' partner' : PlainSide) : Type 0 where
  pub puts : partner.queue.room.puts ≤ partner'.queue.room.puts + 1
  pub polls : own.queue.room.polls ≤ own'.queue.room.polls + 1
  pub renewals : own.queue.room.renewals ≤ own'.queue.room.renewals + 1

-- What only the partner's own calls change is as before, and there is no less of its room.
pub record KeepsPartner (own partner own' partner' : PlainSide) : Type 0 where
  pub full : own'.queue.counts.full ≡ own.queue.counts.full
  pub empty : partner'.queue.counts.empty ≡ partner.queue.counts.empty
  pub closed : partner'.closed ≡ partner.closed
  pub puts : own.queue.room.puts ≤ own'.queue.room.puts
  pub polls : partner.queue.room.polls ≤ partner'.queue.room.polls
  pub renewals : partner.queue.room.renewals ≤ partner'.queue.room.renewals
