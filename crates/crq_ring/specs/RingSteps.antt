-- What each kind of step on a ring's words tells the seat that makes it.
use Rattle.std.specs.Prelude.{◌≡◌, ◌≢◌, ℕ, ◌+◌, ◌-◌, ◌/◌, ◌%◌, ◌<◌, ◌≤◌, true, false, List, [], ◌∷◌, ◌++◌, length}
use Rattle.atomic_table.specs.Table.{Me, Step}
use Rattle.vio_num.specs.declared.entry.Entry.{Entry}
use Rattle.crq_ring.specs.declared.rows.PipeRow.{PipeRow}
use Rattle.crq_ring.specs.declared.view.RingView.{RingView}
use Rattle.crq_ring.specs.declared.view.Role.TheVariants.{Receiver}
use Rattle.crq_ring.specs.Control.{control_word, ShowsClosed, IsEnded}
use Rattle.vio_num.specs.Words.{Begins}
use Rattle.crq_ring.specs.Sessions.{of_session}
use Rattle.crq_ring.specs.Window.{entry_of, entry_at, IsFull, IsVacant}

abbrev pub Seated : Type 0
Seated = Me (Unit {0}) RingView

-- what the seat put, or took, in its session, and what it knows that the other end took, or put, in it
abbrev pub own_now : Seated → List Entry
own_now m = of_session m.0.session m.0.own

abbrev pub other_now : Seated → List Entry
other_now m = of_session m.0.session m.0.other

abbrev pub seated_row : Seated → Entry → PipeRow
seated_row m entry = record { session = m.0.session; entry = entry }

-- The seat has the same role, in the same session.
pub record Keeps (m m' : Seated) : Type 0 where
  pub role : m'.0.role ≡ m.0.role
  pub slots : m'.0.slots ≡ m.0.slots
  pub carried : m'.1 ≡ m.1
  pub inside : m'.0.inside ≡ m.0.inside
  pub is_open : m'.0.is_open ≡ m.0.is_open
  pub session : m'.0.session ≡ m.0.session
  pub swept : m'.0.swept ≡ m.0.swept

-- The seat read a word on which an answer may rest, or none.
pub record Reads (m : Seated) (word : ℕ) (m' : Seated) : Type 0 where
  pub count : m'.0.reads ≡ m.0.reads + 1
  pub word_is : m'.0.word ≡ word

pub record ReadsNone (m m' : Seated) : Type 0 where
  pub count : m'.0.reads ≡ m.0.reads
  pub word_is : m'.0.word ≡ m.0.word

-- The receiver knows no more of a session that has ended, since it knows all that was put in it.
abbrev pub KnowsEnded : Seated → Seated → Type 0
KnowsEnded m m' = (q : ℕ) → IsEnded m.0.session m.0.is_open q → of_session q m'.0.other ≡ of_session q m.0.other

-- The sender's load of its next slot's high half: the slot is empty exactly where fewer entries than there
-- are slots were put and not taken, and in a full one lies the entry of one lap before.
pub record Probed (m : Seated) (high : ℕ) (m' : Seated) : Type 0 where
  pub keeps : Keeps m m'
  pub own : m'.0.own ≡ m.0.own
  pub other : Begins m.0.other m'.0.other
  pub front : Begins (other_now m') (own_now m')
  pub vacant : IsVacant high → length (own_now m) < length (other_now m') + m.0.slots
  pub full : IsFull high → length (own_now m) ≡ length (other_now m') + m.0.slots
  pub held : IsFull high → high ≡ (entry_at (own_now m) (length (own_now m) - m.0.slots)).high
  pub reads : Reads m high m'

-- The sender's store of the low half.
pub record Staged (m : Seated) (low : ℕ) (m' : Seated) : Type 0 where
  pub keeps : Keeps m m'
  pub own : m'.0.own ≡ m.0.own
  pub other : m'.0.other ≡ m.0.other
  pub staged : m'.0.low ≡ low
  pub reads : ReadsNone m m'

-- The sender's store of the high half, which puts the entry.
pub record Sent (m : Seated) (high : ℕ) (m' : Seated) : Type 0 where
  pub keeps : Keeps m m'
  pub own : m'.0.own ≡ m.0.own ++ seated_row m (entry_of high m.0.low) ∷ []
  pub other : m'.0.other ≡ m.0.other
  pub reads : ReadsNone m m'

-- The receiver's load of its next slot's high half: the slot is empty exactly where all that was put was
-- taken, and in a full one lies the next entry.
pub record Looked (m : Seated) (high : ℕ) (m' : Seated) : Type 0 where
  pub keeps : Keeps m m'
  pub own : m'.0.own ≡ m.0.own
  pub other : Begins m.0.other m'.0.other
  pub ended : KnowsEnded m m'
  pub front : Begins (own_now m') (other_now m')
  pub vacant : IsVacant high → other_now m' ≡ own_now m
  pub full : IsFull high → length (own_now m) < length (other_now m')
  pub found : IsFull high → high ≡ (entry_at (other_now m') (length (own_now m))).high
  pub reads : Reads m high m'

-- The receiver's load of the low half.
pub record Read (m : Seated) (low : ℕ) (m' : Seated) : Type 0 where
  pub same : m' ≡ m
  pub found : low ≡ (entry_at (other_now m) (length (own_now m))).low

-- The receiver's store of 0 in the high half, which takes the entry.
pub record Cleared (m m' : Seated) : Type 0 where
  pub keeps : Keeps m m'
  pub own : m'.0.own ≡ m.0.own ++ seated_row m (entry_at (other_now m) (length (own_now m))) ∷ []
  pub other : m'.0.other ≡ m.0.other
  pub reads : ReadsNone m m'

-- An end's load after it was handed a note: what that says is so.
pub record Heard (m m' : Seated) : Type 0 where
  pub keeps : Keeps m m'
  pub own : m'.0.own ≡ m.0.own
  pub other : Begins m.0.other m'.0.other
  pub told_own : Begins m.0.told_own m.0.own
  pub told_other : Begins m.0.told_other m'.0.other
  pub reads : ReadsNone m m'

-- The seat learnt the control word alone.
pub record OnlyReads (m : Seated) (word : ℕ) (m' : Seated) : Type 0 where
  pub keeps : Keeps m m'
  pub own : m'.0.own ≡ m.0.own
  pub other : m'.0.other ≡ m.0.other
  pub reads : Reads m word m'

-- The sender's load of the control word, which is of no session before its own.
pub record Showed (m : Seated) (word : ℕ) (m' : Seated) : Type 0 where
  pub only : OnlyReads m word m'
  pub shown : m'.0.shown ≡ word / 8
  pub least : m.0.session ≤ word / 8
  pub inside : m.0.inside ≡ true → word ≡ control_word m.0.session true true
  pub outside : m.0.inside ≡ false → word % 8 < 2

-- The sender's exchange on an open word, which sets its bit: it is inside the session that the word shows.
pub record WentIn (m : Seated) (word : ℕ) (m' : Seated) : Type 0 where
  pub role : m'.0.role ≡ m.0.role
  pub slots : m'.0.slots ≡ m.0.slots
  pub carried : m'.1 ≡ m.1
  pub inside : m'.0.inside ≡ true
  pub session : m'.0.session ≡ word / 8
  pub own : m'.0.own ≡ m.0.own
  pub other : Begins m.0.other m'.0.other
  pub front : Begins (other_now m') (own_now m')
  pub reads : Reads m word m'

-- The same where another word was found: it is not open, or of a later session.
pub record TurnedBack (m : Seated) (word : ℕ) (m' : Seated) : Type 0 where
  pub only : OnlyReads m word m'
  pub shows : ShowsClosed m.0.session word

-- The sender's exchange on the word `open_word`.
pub record Entered (open_word : ℕ) (m : Seated) (word : ℕ) (m' : Seated) : Type 0 where
  pub hit : word ≡ open_word → WentIn m word m'
  pub miss : word ≢ open_word → TurnedBack m word m'

-- The sender's clearing of its bit.
pub record WentOut (m m' : Seated) : Type 0 where
  pub role : m'.0.role ≡ m.0.role
  pub slots : m'.0.slots ≡ m.0.slots
  pub carried : m'.1 ≡ m.1
  pub inside : m'.0.inside ≡ false
  pub session : m'.0.session ≡ m.0.session
  pub own : m'.0.own ≡ m.0.own
  pub other : m'.0.other ≡ m.0.other
  pub reads : ReadsNone m m'

-- The receiver's exchange on the word of a closed queue: the next session is open, with nothing put and
-- nothing taken.
pub record Began (m : Seated) (word : ℕ) (m' : Seated) : Type 0 where
  pub found : word ≡ control_word m.0.session false false
  pub role : m'.0.role ≡ m.0.role
  pub slots : m'.0.slots ≡ m.0.slots
  pub carried : m'.1 ≡ m.1
  pub is_open : m'.0.is_open ≡ true
  pub session : m'.0.session ≡ m.0.session + 1
  pub own : m'.0.own ≡ m.0.own
  pub other : Begins m.0.other m'.0.other
  pub ended : KnowsEnded m m'
  pub none_put : other_now m' ≡ []
  pub none_taken : own_now m' ≡ []
  pub reads : Reads m word m'

-- The receiver's exchange on the word of an open queue without a sender: the session has ended, and all that
-- was put in it is known.
pub record Shut (m : Seated) (word : ℕ) (m' : Seated) : Type 0 where
  pub role : m'.0.role ≡ m.0.role
  pub slots : m'.0.slots ≡ m.0.slots
  pub carried : m'.1 ≡ m.1
  pub is_open : m'.0.is_open ≡ false
  pub session : m'.0.session ≡ m.0.session
  pub swept : m'.0.swept ≡ 0
  pub own : m'.0.own ≡ m.0.own
  pub other : Begins m.0.other m'.0.other
  pub ended : KnowsEnded m m'
  pub front : Begins (own_now m') (other_now m')
  pub reads : Reads m word m'

-- The same where another word was found: a sender is inside.
pub record FoundSender (m : Seated) (word : ℕ) (m' : Seated) : Type 0 where
  pub only : OnlyReads m word m'
  pub found : word ≡ control_word m.0.session true true

-- The receiver's exchange on the word `open_word`.
pub record Closed (open_word : ℕ) (m : Seated) (word : ℕ) (m' : Seated) : Type 0 where
  pub hit : word ≡ open_word → Shut m word m'
  pub miss : word ≢ open_word → FoundSender m word m'

-- The receiver's store of 0 in the next slot of a closed queue.
pub record Zeroed (m m' : Seated) : Type 0 where
  pub role : m'.0.role ≡ m.0.role
  pub slots : m'.0.slots ≡ m.0.slots
  pub carried : m'.1 ≡ m.1
  pub is_open : m'.0.is_open ≡ m.0.is_open
  pub session : m'.0.session ≡ m.0.session
  pub swept : m'.0.swept ≡ m.0.swept + 1
  pub own : m'.0.own ≡ m.0.own
  pub other : m'.0.other ≡ m.0.other
  pub reads : ReadsNone m m'

-- The slots of a closed queue were zeroed up to this one, and nothing else changed.
pub record Sweeps (m m' : Seated) (upto : ℕ) : Type 0 where
  pub role : m'.0.role ≡ m.0.role
  pub slots : m'.0.slots ≡ m.0.slots
  pub carried : m'.1 ≡ m.1
  pub is_open : m'.0.is_open ≡ m.0.is_open
  pub session : m'.0.session ≡ m.0.session
  pub swept : m'.0.swept ≡ upto
  pub own : m'.0.own ≡ m.0.own
  pub other : m'.0.other ≡ m.0.other
  pub count : m'.0.reads ≡ m.0.reads
  pub word : m'.0.word ≡ m.0.word

-- A receiver's seat at a table of n slots, whose queue was closed and has no slot zeroed yet.
pub record MaySweep (n : ℕ) (m : Seated) : Type 0 where
  pub role : m.0.role ≡ Receiver
  pub slots : m.0.slots ≡ n
  pub is_open : m.0.is_open ≡ false
  pub swept : m.0.swept ≡ 0

-- the steps as the table's plays
abbrev pub probed : Step (Unit {0}) → Seated → ℕ → Seated → Type 0
probed _ m high m' = Probed m high m'

abbrev pub staged : Step (Unit {0}) → Seated → ℕ → Seated → Type 0
staged _ m low m' = Staged m low m'

abbrev pub sent : Step (Unit {0}) → Seated → ℕ → Seated → Type 0
sent _ m high m' = Sent m high m'

abbrev pub looked : Step (Unit {0}) → Seated → ℕ → Seated → Type 0
looked _ m high m' = Looked m high m'

abbrev pub read : Step (Unit {0}) → Seated → ℕ → Seated → Type 0
read _ m low m' = Read m low m'

abbrev pub cleared : Step (Unit {0}) → Seated → ℕ → Seated → Type 0
cleared _ m _ m' = Cleared m m'

-- the sender's, after a room
abbrev pub heard_room : Step (Unit {0}) → Seated → ℕ → Seated → Type 0
heard_room _ m _ m' = Heard m m' × Begins (other_now m') (own_now m')

-- the receiver's, after a front
abbrev pub heard_front : Step (Unit {0}) → Seated → ℕ → Seated → Type 0
heard_front _ m _ m' = Heard m m' × Begins (own_now m') (other_now m') × KnowsEnded m m'

abbrev pub showed : Step (Unit {0}) → Seated → ℕ → Seated → Type 0
showed _ m word m' = Showed m word m'

abbrev pub entered : Step (Unit {0}) → Seated → ℕ → Seated → Type 0
entered st m word m' = Entered st.first m word m'

abbrev pub went_out : Step (Unit {0}) → Seated → ℕ → Seated → Type 0
went_out _ m _ m' = WentOut m m'

abbrev pub began : Step (Unit {0}) → Seated → ℕ → Seated → Type 0
began _ m word m' = Began m word m'

abbrev pub closed : Step (Unit {0}) → Seated → ℕ → Seated → Type 0
closed st m word m' = Closed st.first m word m'

abbrev pub zeroed : Step (Unit {0}) → Seated → ℕ → Seated → Type 0
zeroed _ m _ m' = Zeroed m m'
