-- What each call of a seat leaves, each answer with its cause. A word on which an answer rests was read in the
-- call, and is the last that the seat's end read.
use Rattle.std.specs.Prelude.{◌≡◌, ◌↔◌, ◌<◌, ◌≤◌, ℕ, true, false, None}
use Rattle.vio_num.specs.declared.entry.Entry.{Entry}
use Rattle.vio_num.specs.Entry.{first_byte}
use Rattle.vio_num.specs.Words.{ReadsWord}
use Rattle.crq_ring.specs.Ends.{RingValue}
use Rattle.crq_ring.specs.Ring.{OnlySees}
use Rattle.crq_ring.specs.RingSessions.{EndsSession}
use Rattle.crq_session.specs.declared.answers.RegAnswer.{RegAnswer}
use Rattle.crq_session.specs.declared.answers.RegAnswer.TheVariants as reg
use Rattle.crq_session.specs.declared.answers.FreeAnswer.{FreeAnswer}
use Rattle.crq_session.specs.declared.answers.FreeAnswer.TheVariants as freeing
use Rattle.crq_session.specs.declared.answers.SendAnswer.{SendAnswer}
use Rattle.crq_session.specs.declared.answers.SendAnswer.TheVariants as sending
use Rattle.crq_session.specs.declared.answers.PollAnswer.{PollAnswer}
use Rattle.crq_session.specs.declared.answers.PollAnswer.TheVariants as polling
use Rattle.crq_session.specs.declared.answers.EventAnswer.{EventAnswer}
use Rattle.crq_session.specs.declared.seat.LinkSeat.{LinkSeat}
use Rattle.crq_session.specs.declared.seat.Passed.{Passed}
use Rattle.crq_session.specs.declared.seat.Passed.TheVariants as passing
use Rattle.crq_session.specs.Answers.{OnOpened, IfAlone, IfHeldUp, OnNotRegistered}
use Rattle.crq_session.specs.Answers.{OnFreed, OnNotFreed, IfInUse, OnNothing, OnPut, IfKept}
use Rattle.crq_session.specs.Answers.{IfSent, OnNotSent, OnReached, IfClosed, IfDropped, IfGot, IfEmpty, OnNotPolled}
use Rattle.crq_session.specs.Answered.{MaySend, Sends, TurnsBack, FindsFull, Takes, FindsNone, Opens, FindsClosed}
use Rattle.crq_session.specs.Answered.{HoldsUp, Frees, FindsInUse, Pushes, PutsNone, StillKept, Puts, Loses, Settles}
use Rattle.crq_session.specs.Control.{fits_queue}
use Rattle.crq_session.specs.EndState.{OnlyReserves, OnlyRegisters, OnlyFrees, OnlySends, OnlyTakes, OnlyPushes}
use Rattle.crq_session.specs.Side.{IsKeptBy, OnNotKept}
use Rattle.crq_session.specs.SeatState.{AtSeat, Anywhere, KeepsSeat, SpendsSeat}

-- where the entry was put: P of its number
abbrev pub IfPut : Passed → (ℕ → Type 0) → Type 0
IfPut (passing.Put number) P = P number
IfPut _ P = Unit {0}

-- where the partner's queue was closed: P of its control word
abbrev pub IfShut : Passed → (ℕ → Type 0) → Type 0
IfShut (passing.Closed control) P = P control
IfShut _ P = Unit {0}

-- where its slot was full: P of its number and of what lay there
abbrev pub IfFull : Passed → (ℕ → ℕ → Type 0) → Type 0
IfFull (passing.Full number held) P = P number held
IfFull _ P = Unit {0}

-- The last word that the sender's end read, in this call; or that the receiver's end read.
abbrev pub SendRead : LinkSeat → LinkSeat → ℕ → Type 0
SendRead old new word = ReadsWord old.send.last new.send.last word

abbrev pub RecvRead : LinkSeat → LinkSeat → ℕ → Type 0
RecvRead old new word = ReadsWord old.recv.last new.recv.last word

-- An entry was passed to the partner.
pub record IsPass (partner : RingValue) (old : LinkSeat) (entry : Entry) (answer : Passed) (new : LinkSeat) : Type 0 where
  pub put : IfPut answer (λ number. AtSeat (λ x y. Sends true x entry y number) partner.slots old new)
  pub closed : IfShut answer (λ word. AtSeat (λ x y. TurnsBack true x y word) partner.slots old new)
  pub full : IfFull answer (λ number held. AtSeat (λ x y. FindsFull true x y number held) partner.slots old new)
  pub closed_read : IfShut answer (SendRead old new)
  pub full_read : IfFull answer (λ number held. SendRead old new held)
  pub reads : old.send.last.count ≤ new.send.last.count
  pub rest : AtSeat (OnlySends true) partner.slots old new
  pub recv : new.recv ≡ old.recv
  pub kept : new.kept ≡ old.kept
  pub room : SpendsSeat old new
  pub keeps : KeepsSeat old new

-- An entry was sent.
pub record IsSeatSend (partner : RingValue) (old : LinkSeat) (entry : Entry) (answer : SendAnswer) (new : LinkSeat) : Type 0 where
  pub parameter : (answer ≡ sending.Parameter) ↔ (first_byte entry < 0x80)
  pub not_registered : (answer ≡ sending.NotRegistered) ↔ ((0x80 ≤ first_byte entry) × (old.recv.is_open ≡ false))
  pub may : AtSeat (λ x y. OnReached answer (MaySend x entry)) partner.slots old new
  pub success : AtSeat (λ x y. IfSent answer (Sends true x entry y)) partner.slots old new
  pub closed : AtSeat (λ x y. IfClosed answer (TurnsBack true x y)) partner.slots old new
  pub dropped : AtSeat (λ x y. IfDropped answer (FindsFull true x y)) partner.slots old new
  pub closed_read : IfClosed answer (SendRead old new)
  pub dropped_read : IfDropped answer (λ number held. SendRead old new held)
  pub refused : AtSeat (λ x y. OnNotSent answer (OnlyReserves x y)) partner.slots old new
  pub rest : AtSeat (OnlySends true) partner.slots old new
  pub room : SpendsSeat old new
  pub keeps : KeepsSeat old new

-- The own queue was polled.
pub record IsSeatPoll (old : LinkSeat) (answer : PollAnswer) (new : LinkSeat) : Type 0 where
  pub not_registered : (answer ≡ polling.NotRegistered) ↔ (old.recv.is_open ≡ false)
  pub got : Anywhere (λ x y. IfGot answer (Takes true x y)) old new
  pub empty : Anywhere (λ x y. IfEmpty answer (FindsNone true x y)) old new
  pub empty_read : IfEmpty answer (λ _. RecvRead old new new.recv.last.word)
  pub refused : Anywhere (λ x y. OnNotPolled answer (OnlyReserves x y)) old new
  pub rest : Anywhere (OnlyTakes true) old new
  pub room : SpendsSeat old new
  pub keeps : KeepsSeat old new

-- An event of a side that is not registered was put, is kept, or is lost.
pub record IsSeatEvent (partner : RingValue) (old : LinkSeat) (event : Entry) (answer : EventAnswer) (new : LinkSeat) : Type 0 where
  pub nothing : AtSeat (λ x y. OnNothing answer (Loses true x y)) partner.slots old new
  pub put : AtSeat (λ x y. OnPut answer (Puts true x event y)) partner.slots old new
  pub still : AtSeat (λ x y. IfKept answer (FindsFull true x y)) partner.slots old new
  pub still_read : IfKept answer (λ number held. SendRead old new held)
  pub reads : old.send.last.count ≤ new.send.last.count
  pub kept : IsKeptBy answer event new.kept
  pub rest : AtSeat (OnlyPushes true) partner.slots old new
  pub recv : new.recv ≡ old.recv
  pub room : SpendsSeat old new
  pub keeps : KeepsSeat old new

-- The partner's control word was read: nothing else changed, but that it was found closed is counted.
pub record SeesWord (old new : LinkSeat) : Type 0 where
  pub send : OnlySees old.send new.send
  pub recv : new.recv ≡ old.recv
  pub first : new.first ≡ old.first
  pub kept : new.kept ≡ old.kept
  pub closed : old.closed ≤ new.closed
  pub in_use : new.in_use ≡ old.in_use

-- The kept event was pushed.
pub record IsSeatPush (partner : RingValue) (old : LinkSeat) (answer : EventAnswer) (new : LinkSeat) : Type 0 where
  pub nothing : AtSeat (λ x y. OnNothing answer (PutsNone true x y)) partner.slots old new
  pub put : AtSeat (λ x y. OnPut answer (Pushes true x y)) partner.slots old new
  pub still : AtSeat (λ x y. IfKept answer (StillKept true x y)) partner.slots old new
  pub still_read : IfKept answer (λ number held. SendRead old new held)
  pub reads : old.send.last.count ≤ new.send.last.count
  pub settles : AtSeat (λ x y. OnNotKept answer (Settles true x.kept x y)) partner.slots old new
  pub none : OnNotKept answer (new.kept ≡ None)
  pub rest : AtSeat (OnlyPushes true) partner.slots old new
  pub recv : new.recv ≡ old.recv
  pub room : SpendsSeat old new
  pub keeps : KeepsSeat old new

-- The own queue was registered, or that was refused.
pub record IsSeatRegistration (own partner : RingValue) (old : LinkSeat) (ioba bytes : ℕ) (answer : RegAnswer) (new : LinkSeat) : Type 0 where
  pub parameter : (answer ≡ reg.Parameter) ↔ (fits_queue own.slots ioba bytes ≡ false)
  pub resource : (answer ≡ reg.Resource) ↔ ((fits_queue own.slots ioba bytes ≡ true) × (old.recv.is_open ≡ true))
  pub opened : AtSeat (λ x y. OnOpened answer (Opens true x y)) partner.slots old new
  pub closed : AtSeat (λ x y. IfAlone answer (FindsClosed true x y)) partner.slots old new
  pub closed_read : IfAlone answer (SendRead old new)
  pub busy : AtSeat (λ x y. IfHeldUp answer (HoldsUp true x y)) partner.slots old new
  pub busy_read : IfHeldUp answer (λ number held. SendRead old new held)
  pub refused : AtSeat (λ x y. OnNotRegistered answer (OnlyReserves x y)) partner.slots old new
  pub rest : AtSeat (OnlyRegisters true) partner.slots old new
  pub room : SpendsSeat old new
  pub keeps : KeepsSeat old new

-- The own queue was freed, with this event for the partner, and its session has ended: no sender puts anything
-- in it any more.
pub record IsSeatFree (partner : RingValue) (old : LinkSeat) (event : Entry) (answer : FreeAnswer) (new : LinkSeat) : Type 0 where
  pub parameter : (answer ≡ freeing.Parameter) ↔ (old.recv.is_open ≡ false)
  pub success : AtSeat (λ x y. OnFreed answer (Frees true x event y)) partner.slots old new
  pub ended : OnFreed answer (EndsSession old.recv new.recv)
  pub busy : AtSeat (λ x y. IfInUse answer (FindsInUse true x y)) partner.slots old new
  pub busy_read : IfInUse answer (RecvRead old new)
  pub refused : AtSeat (λ x y. OnNotFreed answer (OnlyReserves x y)) partner.slots old new
  pub rest : AtSeat (OnlyFrees true) partner.slots old new
  pub room : SpendsSeat old new
  pub keeps : KeepsSeat old new
