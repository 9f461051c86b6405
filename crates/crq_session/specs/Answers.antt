-- What is said of one answer of an end.
use Rattle.std.specs.Prelude.{ℕ}
use Rattle.vio_num.specs.declared.entry.Entry.{Entry}
use Rattle.crq_session.specs.declared.answers.RegAnswer.{RegAnswer}
use Rattle.crq_session.specs.declared.answers.RegAnswer.TheVariants as reg
use Rattle.crq_session.specs.declared.answers.FreeAnswer.{FreeAnswer}
use Rattle.crq_session.specs.declared.answers.FreeAnswer.TheVariants as free
use Rattle.crq_session.specs.declared.answers.SendAnswer.{SendAnswer}
use Rattle.crq_session.specs.declared.answers.SendAnswer.TheVariants as send
use Rattle.crq_session.specs.declared.answers.PollAnswer.{PollAnswer}
use Rattle.crq_session.specs.declared.answers.PollAnswer.TheVariants as poll
use Rattle.crq_session.specs.declared.answers.EventAnswer.{EventAnswer}
use Rattle.crq_session.specs.declared.answers.EventAnswer.TheVariants as event

-- where the queue was registered: P
abbrev pub OnOpened : RegAnswer → Type 0 → Type 0
OnOpened reg.Success P = P
OnOpened (reg.Closed control) P = P
OnOpened _ P = Unit {0}

-- where it was registered and the partner's was, too: P
abbrev pub OnBoth : RegAnswer → Type 0 → Type 0
OnBoth reg.Success P = P
OnBoth _ P = Unit {0}

-- where it was registered and the partner's was not: P of the partner's control word
abbrev pub IfAlone : RegAnswer → (ℕ → Type 0) → Type 0
IfAlone (reg.Closed control) P = P control
IfAlone _ P = Unit {0}

-- where the kept event found its slot full: P of its number and of what lay there
abbrev pub IfHeldUp : RegAnswer → (ℕ → ℕ → Type 0) → Type 0
IfHeldUp (reg.Busy number held) P = P number held
IfHeldUp _ P = Unit {0}

-- where it was refused, before the kept event was looked at: P
abbrev pub OnNotRegistered : RegAnswer → Type 0 → Type 0
OnNotRegistered reg.Parameter P = P
OnNotRegistered reg.Resource P = P
OnNotRegistered _ P = Unit {0}

-- where a sender was inside: P of the own control word
abbrev pub IfInUse : FreeAnswer → (ℕ → Type 0) → Type 0
IfInUse (free.Busy control) P = P control
IfInUse _ P = Unit {0}

-- where the queue was freed, and where it was refused: P
abbrev pub OnFreed : FreeAnswer → Type 0 → Type 0
OnFreed free.Success P = P
OnFreed _ P = Unit {0}

abbrev pub OnNotFreed : FreeAnswer → Type 0 → Type 0
OnNotFreed free.Parameter P = P
OnNotFreed _ P = Unit {0}

-- where the entry was put: P of its number
abbrev pub IfSent : SendAnswer → (ℕ → Type 0) → Type 0
IfSent (send.Success number) P = P number
IfSent _ P = Unit {0}

-- where the partner's queue was not registered: P of its control word
abbrev pub IfClosed : SendAnswer → (ℕ → Type 0) → Type 0
IfClosed (send.Closed control) P = P control
IfClosed _ P = Unit {0}

-- where the entry found its slot full: P of its number and of what lay there
abbrev pub IfDropped : SendAnswer → (ℕ → ℕ → Type 0) → Type 0
IfDropped (send.Dropped number held) P = P number held
IfDropped _ P = Unit {0}

-- where it was refused, before the partner's control word was read: P
abbrev pub OnNotSent : SendAnswer → Type 0 → Type 0
OnNotSent send.Parameter P = P
OnNotSent send.NotRegistered P = P
OnNotSent _ P = Unit {0}

-- where the partner's control word was read: P
abbrev pub OnReached : SendAnswer → Type 0 → Type 0
OnReached send.Parameter P = Unit {0}
OnReached send.NotRegistered P = Unit {0}
OnReached _ P = P

-- where an entry was taken: P of its number and of the entry
abbrev pub IfGot : PollAnswer → (ℕ → Entry → Type 0) → Type 0
IfGot (poll.Got number entry) P = P number entry
IfGot _ P = Unit {0}

-- where nothing was found: P of the number of the next entry
abbrev pub IfEmpty : PollAnswer → (ℕ → Type 0) → Type 0
IfEmpty (poll.Empty number) P = P number
IfEmpty _ P = Unit {0}

-- where the own queue is not registered: P
abbrev pub OnNotPolled : PollAnswer → Type 0 → Type 0
OnNotPolled poll.NotRegistered P = P
OnNotPolled _ P = Unit {0}

-- where there was no event to be put, and where it was put: P
abbrev pub OnNothing : EventAnswer → Type 0 → Type 0
OnNothing event.Nothing P = P
OnNothing _ P = Unit {0}

abbrev pub OnPut : EventAnswer → Type 0 → Type 0
OnPut event.Put P = P
OnPut _ P = Unit {0}

-- where the event is still kept: P of its number and of what lay in its slot
abbrev pub IfKept : EventAnswer → (ℕ → ℕ → Type 0) → Type 0
IfKept (event.Kept number held) P = P number held
IfKept _ P = Unit {0}
