-- What is said of each answer of a port.
use Rattle.std.specs.Prelude.{◌≡◌, ℕ, Bool}
use Rattle.vio_num.specs.Counts.{Rose}
use Rattle.tce_window.specs.PortState.{PortState, LaysNone, OnlyHolds}
use Rattle.tce_window.specs.declared.answers.HoldFault.{HoldFault}
use Rattle.lan_buffers.specs.declared.answers.AddAnswer.{AddAnswer}
use Rattle.lan_buffers.specs.declared.answers.AddAnswer.TheVariants as add
use Rattle.lan_buffers.specs.declared.answers.Harvest.{Harvest}
use Rattle.lan_buffers.specs.declared.answers.Harvest.TheVariants as read
use Rattle.lan_buffers.specs.declared.answers.Deliver.{Deliver}
use Rattle.lan_buffers.specs.declared.answers.Deliver.TheVariants as sent

-- P of the post's number, where the buffer was posted
abbrev pub IfPosted : AddAnswer → (ℕ → Type 0) → Type 0
IfPosted (add.Posted number) P = P number
IfPosted _ P = Unit {0}

-- P of the posts, harvests and lengths of the session, where there was no place for the buffer
abbrev pub IfNoPlace : AddAnswer → (ℕ → ℕ → ℕ → Type 0) → Type 0
IfNoPlace (add.Resource posted harvested sizes) P = P posted harvested sizes
IfNoPlace _ P = Unit {0}

-- P, where the buffer was not posted
abbrev pub OnNotPosted : AddAnswer → Type 0 → Type 0
OnNotPosted (add.Posted number) P = Unit {0}
OnNotPosted _ P = P

-- P of the entry's number, the frame's length and the correlator, where a frame was read
abbrev pub IfFrame : Harvest → (ℕ → ℕ → ℕ → Type 0) → Type 0
IfFrame (read.Frame number len correlator) P = P number len correlator
IfFrame _ P = Unit {0}

-- P of the entry's number and the correlator, where a blank was read
abbrev pub IfBlank : Harvest → (ℕ → ℕ → Type 0) → Type 0
IfBlank (read.Blank number correlator) P = P number correlator
IfBlank _ P = Unit {0}

-- P of the next entry's number and of what its slot has, where no entry was read
abbrev pub IfNothing : Harvest → (ℕ → ℕ → Type 0) → Type 0
IfNothing (read.Nothing number high) P = P number high
IfNothing _ P = Unit {0}

-- P of the post, where the frame was written
abbrev pub IfDone : Deliver → (ℕ → Type 0) → Type 0
IfDone (sent.Done post) P = P post
IfDone _ P = Unit {0}

-- P of the post and of why its buffer was refused
abbrev pub IfUngranted : Deliver → (ℕ → HoldFault → Type 0) → Type 0
IfUngranted (sent.Ungranted post fault) P = P post fault
IfUngranted _ P = Unit {0}

-- P of the page and the word that were found in use
abbrev pub IfSentInUse : Deliver → (ℕ → ℕ → Type 0) → Type 0
IfSentInUse (sent.InUse page word) P = P page word
IfSentInUse _ P = Unit {0}

-- an answer of the plain form: no word shows its turn taken, and a closed one has no control word
abbrev pub IsPlain : Deliver → Type 0
IsPlain (sent.Turn word) = ⊥
IsPlain (sent.Closed control) = control ≡ 0
IsPlain _ = Unit {0}

-- P, where the frame was not written
abbrev pub OnNotDone : Deliver → Type 0 → Type 0
OnNotDone (sent.Done post) P = Unit {0}
OnNotDone _ P = P

-- P, where the frame was dropped without a buffer
abbrev pub OnDropped : Deliver → Type 0 → Type 0
OnDropped sent.NoSize P = P
OnDropped sent.NoBuffer P = P
OnDropped _ P = Unit {0}

-- P, where the frame found its buffer: it was written, the buffer was refused or in use, or memory ran
-- out
abbrev pub OnFound : Deliver → Type 0 → Type 0
OnFound (sent.Done post) P = P
OnFound (sent.Ungranted post fault) P = P
OnFound (sent.InUse page word) P = P
OnFound sent.NoMemory P = P
OnFound _ P = Unit {0}

-- the frame found a buffer, which took it or was refused, or memory ran out
abbrev pub IsTried : Deliver → Type 0
IsTried (sent.Done post) = Unit {0}
IsTried (sent.Ungranted post fault) = Unit {0}
IsTried (sent.InUse page word) = Unit {0}
IsTried sent.NoMemory = Unit {0}
IsTried _ = ⊥

-- P, where the port is as before: it had no turn to give, was closed, or its buffer stays posted
abbrev pub OnNothing : Deliver → Type 0 → Type 0
OnNothing (sent.Turn word) P = P
OnNothing (sent.InUse page word) P = P
OnNothing (sent.Closed control) P = P
OnNothing sent.NoMemory P = P
OnNothing _ P = Unit {0}

-- the window's count of words read in use rose where the answer says so, and else stands still
abbrev pub CountsDeliver : Deliver → ℕ → ℕ → Type 0
CountsDeliver (sent.InUse page word) before after = Rose before after
CountsDeliver _ before after = after ≡ before

-- What a frame leaves of the window: nothing is held, only what is known of it and which strokes the port
-- laid may have changed, and an answer other than Done laid none.
pub record LeavesWindow (is_shared : Bool) (answer : Deliver) (old new : PortState) : Type 0 where
  pub free : new.held_count ≡ 0
  pub rest : OnlyHolds is_shared old new
  pub kept : OnNotDone answer (LaysNone is_shared old new)
  pub counts : CountsDeliver answer old.in_use new.in_use
