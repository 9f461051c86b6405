-- What callers of a shared link's ends use.
use Rattle.std.proofs.Common.{◌≡◌, Bool, true, false, not, List, take, drop, slice_index, sym, ◌∙◌, ap}
use Rattle.std.specs.Borrow.{GName}
use Rattle.std.proofs.Math.Seq.{take-append_seam, drop-append_seam}
use Rattle.crq_ring.specs.Ends.{RingValue}
use Rattle.crq_ring.specs.SharedPipe.{names_of}
use Rattle.crq_session.specs.declared.shared_end.SharedEnd.{SharedEnd}
use Rattle.crq_session.specs.declared.shared_link.Link.{Link}
use Rattle.crq_session.specs.EndState.{EndPlace}
use Rattle.crq_session.specs.LinkSeats.{ring_of, IsSeatOf}
use Rattle.crq_session.specs.LinkState.{lenders_of, place_at, place_of}

-- a ring that has these names
abbrev named : List GName → RingValue
named names = record {
  id = record {
    words = slice_index names 0;
    slots = slice_index names 1;
    views_name = slice_index names 2;
    atom = slice_index names 3;
    block = slice_index names 4;
    offset = slice_index names 5;
    slot_names = drop 6 names;
  };
  slots = 0;
}

-- the names of the two queues in a list of lenders
abbrev first_names : List GName → List GName
first_names lenders = take (slice_index lenders 1) (drop 2 lenders)

abbrev second_names : List GName → List GName
second_names lenders = drop (slice_index lenders 1) (drop 2 lenders)

names_first : (lender : GName) (link : Link) → first_names (lenders_of lender link) ≡ names_of link.first.id
names_first lender link = take-append_seam (names_of link.first.id) (names_of link.second.id)

names_second : (lender : GName) (link : Link) → second_names (lenders_of lender link) ≡ names_of link.second.id
names_second lender link = drop-append_seam (names_of link.first.id) (names_of link.second.id)

module _ (lender : GName) (link : Link) (first : Bool) (new : SharedEnd) (same : place_of new ≡ place_at lender link first) where
  lenders_same : lenders_of new.seat.ghost_name new.link.now ≡ lenders_of lender link
  lenders_same = ap (λ (p : EndPlace). p.lenders) same

  same_ring : (side : Bool) → (ring_of new.link.now side).id ≡ (ring_of link side).id
  same_ring true = ap (λ names. (named names).id) (sym (names_first new.seat.ghost_name new.link.now) ∙ (ap first_names lenders_same ∙ names_first lender link))
  same_ring false = ap (λ names. (named names).id) (sym (names_second new.seat.ghost_name new.link.now) ∙ (ap second_names lenders_same ∙ names_second lender link))

  -- calls that keep the place of a shared end leave its seat with its link
  pub seat_stays : IsSeatOf link new.seat.now
  seat_stays = record { own = new.ours.own ∙ same_ring new.seat.now.first; partner = new.ours.partner ∙ same_ring (not new.seat.now.first) }

  -- and on its side
  pub side_stays : new.seat.now.first ≡ first
  side_stays = ap (λ (p : EndPlace). p.first) same
