-- What contracts see of a queue of one direction, both its ends in one hand.
use Rattle.std.specs.Prelude.{◌≡◌, ℕ, ◌+◌, ◌<◌, ◌≤◌, nat_lt, Bool, List, [], ◌∷◌, ◌++◌, length, Some}
use Rattle.std.specs.Borrow.{GName}
use Rattle.std.specs.List.{slice_get}
use Rattle.vio_num.specs.declared.entry.Entry.{Entry}
use Rattle.vio_num.specs.Counts.{Rose}
use Rattle.vio_num.specs.Queue.{LawfulDrop}
use Rattle.crq_ring.specs.Pipe.{PipeValue, PipeCounts, sent_now, taken_now}

-- what no call changes
pub record PortPlace : Type 0 where
  -- the borrows through which the queue is reached
  pub lenders : List GName
  pub slots : ℕ

pub record PortState : Type 0 where
  pub place : PortPlace
  -- whether a session has begun
  pub ready : Bool
  -- what was put and what was taken in the present session
  pub sent : List Entry
  pub taken : List Entry
  pub counts : PipeCounts
  -- the puts and the polls for which room is reserved
  pub spare_puts : ℕ
  pub spare_polls : ℕ

-- The counts did not fall.
pub record NoFewer (old new : PipeCounts) : Type 0 where
  pub full : old.full ≤ new.full
  pub empty : old.empty ≤ new.empty

-- The entry was put into its slot, which was empty, and has this number.
pub record Puts (old : PortState) (number : ℕ) (entry : Entry) (new : PortState) : Type 0 where
  pub empty_slot : length old.sent < length old.taken + old.place.slots
  pub number_is : number ≡ length old.sent
  pub sent : new.sent ≡ old.sent ++ entry ∷ []

-- The entry of this number found its slot full, with this high half in it.
pub record FindsFull (old : PortState) (number held : ℕ) (new : PortState) : Type 0 where
  pub full_slot : length old.sent ≡ length old.taken + old.place.slots
  pub number_is : number ≡ length old.sent
  pub lawful : LawfulDrop old.sent old.place.slots number held
  pub sent : new.sent ≡ old.sent
  pub full : Rose old.counts.full new.counts.full

-- Nothing changed but what was put, and the counts.
pub record OnlyPuts (old new : PortState) : Type 0 where
  pub place : new.place ≡ old.place
  pub ready : new.ready ≡ old.ready
  pub taken : new.taken ≡ old.taken
  pub counts : NoFewer old.counts new.counts
  pub spare_polls : old.spare_polls ≤ new.spare_polls

-- The next entry was taken, which has this number.
pub record Takes (old : PortState) (number : ℕ) (entry : Entry) (new : PortState) : Type 0 where
  pub number_is : number ≡ length old.taken
  pub there : slice_get old.sent number ≡ Some entry
  pub taken : new.taken ≡ old.taken ++ entry ∷ []

-- All that was put had been taken, and the next entry has this number.
pub record FindsNone (old : PortState) (number : ℕ) (new : PortState) : Type 0 where
  pub number_is : number ≡ length old.taken
  pub all_taken : old.sent ≡ old.taken
  pub taken : new.taken ≡ old.taken
  pub empty : Rose old.counts.empty new.counts.empty

-- Nothing changed but what was taken, and the counts.
pub record OnlyTakes (old new : PortState) : Type 0 where
  pub place : new.place ≡ old.place
  pub ready : new.ready ≡ old.ready
  pub sent : new.sent ≡ old.sent
  pub counts : NoFewer old.counts new.counts
  pub spare_puts : old.spare_puts ≤ new.spare_puts

-- a plain pipe as a queue of one direction
abbrev pub port_of : PipeValue → PortState
port_of pipe = record {
  place = record { lenders = []; slots = pipe.slots };
  ready = nat_lt 0 pipe.session;
  sent = sent_now pipe;
  taken = taken_now pipe;
  counts = pipe.counts;
  spare_puts = pipe.room.puts;
  spare_polls = pipe.room.polls;
}
