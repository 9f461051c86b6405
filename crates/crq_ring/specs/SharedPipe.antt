-- A ring with both its ends in one hand, as a queue of one direction.
use Rattle.std.specs.Prelude.{◌≡◌, List, ◌∷◌, true}
use Rattle.std.specs.Borrow.{GName}
use Rattle.atomic_table.specs.Seated.{TableId}
use Rattle.crq_ring.specs.declared.shared.SharedPipe.{SharedPipe}
use Rattle.vio_num.specs.Words.{Begins}
use Rattle.crq_ring.specs.Ends.{end_sent, end_taken}
use Rattle.crq_ring.specs.Port.{PortPlace, PortState}
use Rattle.crq_ring.specs.Ring.{OnlyKnows, OnlyHears}

-- the numbers that tell a ring from every other
abbrev pub names_of : TableId → List GName
names_of id = id.words ∷ id.slots ∷ id.views_name ∷ id.atom ∷ id.block ∷ id.offset ∷ id.slot_names

-- the borrows of its ends, and the ring that they are of
abbrev pub place_of : SharedPipe → PortPlace
place_of pipe = record {
  lenders = pipe.send.ghost_name ∷ pipe.recv.ghost_name ∷ names_of pipe.ring.now.id;
  slots = pipe.ring.now.slots;
}

abbrev pub state_of : SharedPipe → PortState
state_of pipe = record {
  place = place_of pipe;
  ready = true;
  sent = end_sent pipe.send.now;
  taken = end_taken pipe.recv.now;
  counts = record { full = pipe.send.now.full; empty = pipe.recv.now.empty };
  spare_puts = pipe.send.now.spare;
  spare_polls = pipe.recv.now.spare;
}

-- The sender was told what the receiver took.
pub record TellsSender (old new : SharedPipe) : Type 0 where
  pub place : place_of new ≡ place_of old
  pub recv : new.recv.now ≡ old.recv.now
  pub send : OnlyKnows old.send.now new.send.now
  pub taken : Begins old.recv.now.taken new.send.now.known

-- The receiver was told what the sender put and knew.
pub record TellsReceiver (old new : SharedPipe) : Type 0 where
  pub place : place_of new ≡ place_of old
  pub send : new.send.now ≡ old.send.now
  pub recv : OnlyHears old.recv.now new.recv.now
  pub sent : Begins old.send.now.sent new.recv.now.heard
  pub known : Begins old.send.now.known new.recv.now.taken
