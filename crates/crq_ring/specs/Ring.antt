-- What the calls of a ring leave of its ends.
use Rattle.std.specs.Prelude.{◌≡◌, ℕ, ◌+◌, ◌<◌, ◌≤◌, ◌^◌, ◌⊎◌, Bool, true, [], ◌∷◌, ◌++◌, length, Some}
use Rattle.std.specs.List.{slice_get, AllPairs}
use Rattle.vio_num.specs.declared.entry.Entry.{Entry}
use Rattle.vio_num.specs.Counts.{Rose}
use Rattle.vio_num.specs.Queue.{Handed, LawfulDrop}
use Rattle.crq_ring.specs.Control.{IsEnded}
use Rattle.vio_num.specs.Words.{Begins, ReadsWord}
use Rattle.crq_ring.specs.Ends.{RingValue, SendValue, RecvValue, FrontValue, RoomValue}
use Rattle.crq_ring.specs.Ends.{end_sent, known_now, end_taken, heard_now}
use Rattle.crq_ring.specs.Pipe.{PipeValue}
use Rattle.crq_ring.specs.RingRule.{first_session}
use Rattle.crq_ring.specs.Sessions.{of_session, recorded, AreRising, Precedes}

-- A new ring of n slots and its ends, which put and took nothing: in session 1 with its sender inside, or
-- closed.
pub record Opens (begun : Bool) (n : ℕ) (ring : RingValue) (send : SendValue) (recv : RecvValue) : Type 0 where
  pub slots : ring.slots ≡ n
  pub send_ring : send.ring ≡ ring.id
  pub recv_ring : recv.ring ≡ ring.id
  pub send_session : send.session ≡ first_session begun
  pub recv_session : recv.session ≡ first_session begun
  pub inside : send.inside ≡ begun
  pub is_open : recv.is_open ≡ begun
  pub sent : send.sent ≡ []
  pub known : send.known ≡ []
  pub drops : send.drops ≡ []
  pub full : send.full ≡ 0
  pub taken : recv.taken ≡ []
  pub heard : recv.heard ≡ []
  pub empty : recv.empty ≡ 0

-- The entry was put into its slot, which was empty, and has this number in its session.
pub record EndPuts (n : ℕ) (old : SendValue) (number : ℕ) (entry : Entry) (new : SendValue) : Type 0 where
  pub empty_slot : length (end_sent old) < length (known_now new) + n
  pub number_is : number ≡ length (end_sent old)
  pub sent : new.sent ≡ old.sent ++ record { session = old.session; entry = entry } ∷ []
  pub sent_now : end_sent new ≡ end_sent old ++ entry ∷ []
  pub drops : new.drops ≡ old.drops
  pub full : new.full ≡ old.full

-- The entry of this number found its slot full, with this high half in it, which was read; its number has a
-- record. All that was taken when it looked is known.
pub record EndFindsFull (n : ℕ) (old : SendValue) (number held : ℕ) (new : SendValue) : Type 0 where
  pub full_slot : length (end_sent old) ≡ length (known_now new) + n
  pub none_known : length (known_now old) + n ≤ number
  pub number_is : number ≡ length (end_sent old)
  pub lawful : LawfulDrop (end_sent old) n number held
  pub sent : new.sent ≡ old.sent
  pub drops : new.drops ≡ recorded old.drops (record { session = old.session; number = number; held = held })
  pub full : Rose old.full new.full
  pub read : ReadsWord old.last new.last held

-- The sender's end is of the same ring, and knows no less of what was taken, in each session a front of what
-- it put.
pub record KnowsTaken (old new : SendValue) : Type 0 where
  pub ring : new.ring ≡ old.ring
  pub known : Begins old.known new.known
  pub front : Begins (known_now new) (end_sent new)

-- It is in the same session besides.
pub record KeepsSending (old new : SendValue) : Type 0 where
  pub knows : KnowsTaken old new
  pub session : new.session ≡ old.session
  pub inside : new.inside ≡ old.inside
  pub full : old.full ≤ new.full
  pub reads : old.last.count ≤ new.last.count

-- The next entry was taken, which has this number in its session.
pub record EndTakes (old : RecvValue) (number : ℕ) (entry : Entry) (new : RecvValue) : Type 0 where
  pub number_is : number ≡ length (end_taken old)
  pub there : slice_get (heard_now new) number ≡ Some entry
  pub taken : new.taken ≡ old.taken ++ record { session = old.session; entry = entry } ∷ []
  pub taken_now : end_taken new ≡ end_taken old ++ entry ∷ []
  pub empty : new.empty ≡ old.empty

-- All that was put when it looked had been taken, as the word shows that was read: its first byte is 0. The
-- next entry has this number.
pub record EndFindsNone (old : RecvValue) (number : ℕ) (new : RecvValue) : Type 0 where
  pub number_is : number ≡ length (end_taken old)
  pub all_taken : heard_now new ≡ end_taken old
  pub none_heard : length (heard_now old) ≤ number
  pub taken : new.taken ≡ old.taken
  pub empty : Rose old.empty new.empty
  pub shows : new.last.word < 2 ^ 56
  pub read : ReadsWord old.last new.last new.last.word

-- The receiver's end is of the same ring, and knows no less of what was put, of which it took a front in its
-- session. It knows all that was ever put in a session that has ended: nothing is put in it any more.
pub record KnowsPut (old new : RecvValue) : Type 0 where
  pub ring : new.ring ≡ old.ring
  pub heard : Begins old.heard new.heard
  pub front : Begins (end_taken new) (heard_now new)
  pub ended : (q : ℕ) → IsEnded old.session old.is_open q → of_session q new.heard ≡ of_session q old.heard
  pub empty : old.empty ≤ new.empty

-- It is in the same session besides.
pub record KeepsReceiving (old new : RecvValue) : Type 0 where
  pub knows : KnowsPut old new
  pub session : new.session ≡ old.session
  pub is_open : new.is_open ≡ old.is_open
  pub renewals : new.renewals ≡ old.renewals

-- The note says what the sender had put, and what it knew was taken.
pub record IsFrontOf (send : SendValue) (front : FrontValue) : Type 0 where
  pub ring : front.ring ≡ send.ring
  pub sent : front.sent ≡ send.sent
  pub known : front.known ≡ send.known

-- The note says what the receiver had taken, and what it knew was put.
pub record IsRoomOf (recv : RecvValue) (room : RoomValue) : Type 0 where
  pub ring : room.ring ≡ recv.ring
  pub taken : room.taken ≡ recv.taken
  pub heard : room.heard ≡ recv.heard

-- The receiver learnt a front: it knows all that this says was put, of which what it took in its session is
-- a front or the other way round, and took all that it says was taken.
pub record Learns (old : RecvValue) (front : FrontValue) (new : RecvValue) : Type 0 where
  pub sent : Begins front.sent new.heard
  pub agrees : Begins (of_session new.session front.sent) (end_taken new) ⊎ Begins (end_taken new) (of_session new.session front.sent)
  pub sent_length : length (of_session new.session front.sent) ≤ length (heard_now new)
  pub known : Begins front.known new.taken

-- Nothing changed of the receiver's end but what it knows was put.
pub record OnlyHears (old new : RecvValue) : Type 0 where
  pub keeps : KeepsReceiving old new
  pub taken : new.taken ≡ old.taken
  pub empty : new.empty ≡ old.empty
  pub spare : new.spare ≡ old.spare
  pub last : new.last ≡ old.last

-- The sender was told of a room: it knows all that this says was taken, a front of what it put in its
-- session, and put all that it says was put.
pub record Knows (old : SendValue) (room : RoomValue) (new : SendValue) : Type 0 where
  pub taken : Begins room.taken new.known
  pub front : Begins (of_session new.session room.taken) (end_sent new)
  pub taken_length : length (of_session new.session room.taken) ≤ length (known_now new)
  pub heard : Begins room.heard new.sent

-- Nothing changed of the sender's end but what it knows was taken.
pub record OnlyKnows (old new : SendValue) : Type 0 where
  pub keeps : KeepsSending old new
  pub sent : new.sent ≡ old.sent
  pub drops : new.drops ≡ old.drops
  pub full : new.full ≡ old.full
  pub spare : new.spare ≡ old.spare
  pub last : new.last ≡ old.last

-- Nothing changed of the sender's end but the word that it read last.
abbrev pub OnlySees : SendValue → SendValue → Type 0
OnlySees old new = new ≡ record old { last = new.last }

-- The pipe of exactly what the two ends put, took and dropped, which meets the queue law. Of each session
-- that has ended nothing was put but what the receiver knew then.
pub record Closes (ring : RingValue) (send : SendValue) (recv : RecvValue) (pipe : PipeValue) : Type 0 where
  pub slots : pipe.slots ≡ ring.slots
  pub session : pipe.session ≡ recv.session
  pub sent : pipe.sent ≡ send.sent
  pub taken : pipe.taken ≡ recv.taken
  pub drops : pipe.drops ≡ send.drops
  pub counts : pipe.counts ≡ record { full = send.full; empty = recv.empty }
  pub room : pipe.room ≡ record { puts = send.spare; polls = recv.spare; renewals = recv.renewals }
  pub handed : (q : ℕ) → Handed (of_session q send.sent) (of_session q recv.taken) ring.slots
  pub ended : (q : ℕ) → IsEnded recv.session recv.is_open q → of_session q send.sent ≡ of_session q recv.heard

-- Nothing changed but the room for puts, and there is no less of it.
pub record ReservesPuts (old new : SendValue) : Type 0 where
  pub rest : new ≡ record old { spare = new.spare }
  pub spare : old.spare ≤ new.spare

-- Nothing changed but the room for polls and for sessions, and there is no less of it.
pub record ReservesPolls (old new : RecvValue) : Type 0 where
  pub rest : new ≡ record old { spare = new.spare; renewals = new.renewals }
  pub spare : old.spare ≤ new.spare
  pub renewals : old.renewals ≤ new.renewals

-- What is so of every end: rows stand in rising order of their sessions, no number has two records, and the
-- session of an open queue is at least 1.
pub record IsLawfulSend (send : SendValue) : Type 0 where
  pub sent : AreRising send.session send.sent
  pub drops : AllPairs Precedes send.drops

pub record IsLawfulRecv (recv : RecvValue) : Type 0 where
  pub taken : AreRising recv.session recv.taken
  pub begun : recv.is_open ≡ true → 1 ≤ recv.session
  pub few_sessions : recv.session < 2 ^ 60
