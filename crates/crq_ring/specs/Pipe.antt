-- What contracts see of a plain pipe, and what its calls leave of it.
use Rattle.std.specs.Prelude.{◌≡◌, ℕ, ◌+◌, ◌^◌, ◌<◌, ◌≤◌, List, [], ◌∷◌, ◌++◌, length, Some}
use Rattle.crq_ring.specs.declared.TheConstants.{MAX_SLOTS}
use Rattle.std.specs.List.{slice_get}
use Rattle.vio_num.specs.declared.entry.Entry.{Entry}
use Rattle.vio_num.specs.Counts.{Rose}
use Rattle.vio_num.specs.Queue.{Handed, LawfulDrop}
use Rattle.crq_ring.specs.declared.rows.PipeRow.{PipeRow}
use Rattle.crq_ring.specs.declared.rows.DropRow.{DropRow}
use Rattle.crq_ring.specs.Sessions.{of_session, recorded, AreRising, LawfulDrops}

pub record PipeCounts : Type 0 where
  -- how often a slot was found full, and how often a poll found nothing
  pub full : ℕ
  pub empty : ℕ

-- the calls for which room is reserved
pub record PipeRoom : Type 0 where
  pub puts : ℕ
  pub polls : ℕ
  pub renewals : ℕ

pub record PipeValue : Type 0 where
  pub slots : ℕ
  -- the number of the last session, 0 before the first
  pub session : ℕ
  -- what was put, what was taken and what found its slot full, over all sessions
  pub sent : List PipeRow
  pub taken : List PipeRow
  pub drops : List DropRow
  pub counts : PipeCounts
  pub room : PipeRoom

-- what was put and what was taken in the last session
abbrev pub sent_now : PipeValue → List Entry
sent_now pipe = of_session pipe.session pipe.sent

abbrev pub taken_now : PipeValue → List Entry
taken_now pipe = of_session pipe.session pipe.taken

-- a row of the present session
abbrev pub row_now : PipeValue → Entry → PipeRow
row_now pipe entry = record { session = pipe.session; entry = entry }

-- A pipe of n slots in session q, into which nothing was put.
pub record IsEmptyPipe (pipe : PipeValue) (n q : ℕ) : Type 0 where
  pub slots : pipe.slots ≡ n
  pub session : pipe.session ≡ q
  pub sent : pipe.sent ≡ []
  pub taken : pipe.taken ≡ []
  pub drops : pipe.drops ≡ []
  pub counts : pipe.counts ≡ record { full = 0; empty = 0 }

-- What is so of every pipe: each session meets the queue law and the drop law, and rows stand in
-- rising order of their sessions.
pub record IsLawfulPipe (pipe : PipeValue) : Type 0 where
  pub some_slots : 1 ≤ pipe.slots
  pub few_slots : pipe.slots ≤ MAX_SLOTS
  pub few_sessions : pipe.session < 2 ^ 60
  pub handed : (q : ℕ) → Handed (of_session q pipe.sent) (of_session q pipe.taken) pipe.slots
  pub dropped : LawfulDrops pipe.sent pipe.drops pipe.slots
  pub sent : AreRising pipe.session pipe.sent
  pub taken : AreRising pipe.session pipe.taken

-- The entry was put into its slot, which was empty, and has this number in its session.
pub record Receives (old : PipeValue) (number : ℕ) (entry : Entry) (new : PipeValue) : Type 0 where
  pub empty_slot : length (sent_now old) < length (taken_now old) + old.slots
  pub number_is : number ≡ length (sent_now old)
  pub sent : new.sent ≡ old.sent ++ row_now old entry ∷ []
  pub sent_now : sent_now new ≡ sent_now old ++ entry ∷ []
  pub drops : new.drops ≡ old.drops
  pub full : new.counts.full ≡ old.counts.full

-- The entry of this number found its slot full, with this high half in it; its number has a record.
pub record Overflows (old : PipeValue) (number held : ℕ) (new : PipeValue) : Type 0 where
  pub full_slot : length (sent_now old) ≡ length (taken_now old) + old.slots
  pub number_is : number ≡ length (sent_now old)
  pub lawful : LawfulDrop (sent_now old) old.slots number held
  pub sent : new.sent ≡ old.sent
  pub drops : new.drops ≡ recorded old.drops (record { session = old.session; number = number; held = held })
  pub full : Rose old.counts.full new.counts.full

-- Nothing changed but what was put, what found its slot full, and the room for puts.
pub record OnlyReceives (old new : PipeValue) : Type 0 where
  pub slots : new.slots ≡ old.slots
  pub session : new.session ≡ old.session
  pub taken : new.taken ≡ old.taken
  pub full : old.counts.full ≤ new.counts.full
  pub empty : new.counts.empty ≡ old.counts.empty
  pub polls : new.room.polls ≡ old.room.polls
  pub renewals : new.room.renewals ≡ old.room.renewals

-- The next entry was taken, which has this number in its session.
pub record Yields (old : PipeValue) (number : ℕ) (entry : Entry) (new : PipeValue) : Type 0 where
  pub number_is : number ≡ length (taken_now old)
  pub there : slice_get (sent_now old) number ≡ Some entry
  pub taken : new.taken ≡ old.taken ++ row_now old entry ∷ []
  pub taken_now : taken_now new ≡ taken_now old ++ entry ∷ []
  pub empty : new.counts.empty ≡ old.counts.empty

-- All that was put had been taken, and the next entry has this number.
pub record RunsDry (old : PipeValue) (number : ℕ) (new : PipeValue) : Type 0 where
  pub number_is : number ≡ length (taken_now old)
  pub all_taken : sent_now old ≡ taken_now old
  pub taken : new.taken ≡ old.taken
  pub empty : Rose old.counts.empty new.counts.empty

-- Nothing changed but what was taken, and the room for polls.
pub record OnlyYields (old new : PipeValue) : Type 0 where
  pub slots : new.slots ≡ old.slots
  pub session : new.session ≡ old.session
  pub sent : new.sent ≡ old.sent
  pub drops : new.drops ≡ old.drops
  pub full : new.counts.full ≡ old.counts.full
  pub empty : old.counts.empty ≤ new.counts.empty
  pub puts : new.room.puts ≡ old.room.puts
  pub renewals : new.room.renewals ≡ old.room.renewals

-- The next session began, with nothing put and nothing taken.
pub record Renews (old new : PipeValue) : Type 0 where
  pub session : new.session ≡ old.session + 1
  pub few_sessions : new.session < 2 ^ 60
  pub sent_now : sent_now new ≡ []
  pub taken_now : taken_now new ≡ []
  pub slots : new.slots ≡ old.slots
  pub sent : new.sent ≡ old.sent
  pub taken : new.taken ≡ old.taken
  pub drops : new.drops ≡ old.drops
  pub counts : new.counts ≡ old.counts
  pub puts : new.room.puts ≡ old.room.puts
  pub polls : new.room.polls ≡ old.room.polls
  pub renewals : old.room.renewals ≡ new.room.renewals + 1

-- Nothing changed but the room, and there is no less of it.
pub record OnlyReserves (old new : PipeValue) : Type 0 where
  pub slots : new.slots ≡ old.slots
  pub session : new.session ≡ old.session
  pub sent : new.sent ≡ old.sent
  pub taken : new.taken ≡ old.taken
  pub drops : new.drops ≡ old.drops
  pub counts : new.counts ≡ old.counts
  pub puts : old.room.puts ≤ new.room.puts
  pub polls : old.room.polls ≤ new.room.polls
  pub renewals : old.room.renewals ≤ new.room.renewals

-- There is room for n calls of each kind.
pub record HasRoom (pipe : PipeValue) (n : ℕ) : Type 0 where
  pub puts : n ≤ pipe.room.puts
  pub polls : n ≤ pipe.room.polls
  pub renewals : n ≤ pipe.room.renewals
