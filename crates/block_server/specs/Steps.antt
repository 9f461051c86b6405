-- What a part of a turn did that no later part undoes: by numbers, the first of which that is not as before says it.
use Rattle.std.specs.Prelude.{◌≡◌, ◌≢◌, ◌⊎◌, ◌+◌, ◌<◌, ℕ, Bool, true, false, Option, Some, None, length}
use Rattle.crq_session.specs.EndState.{EndState}
use Rattle.block_server.specs.declared.request.Arrival.{Arrival}
use Rattle.block_server.specs.declared.unit.Unit.{Unit}
use Rattle.block_server.specs.Stage.{how_far}
use Rattle.block_server.specs.Turns.{IsStill, under_way}

-- how much was done at a queue's end: the entries that were taken and put, and the number of its last session
abbrev pub work_of : EndState → ℕ
work_of queue = length queue.taken + (length queue.sent + queue.last_session)

-- 1 where the queue is registered, and 0 where it is not
abbrev pub one_if : Bool → ℕ
one_if true = 1
one_if false = 0

-- 1 where an entry waits whose information unit is to be fetched, and 0 where none does
abbrev pub how_many : Option Arrival → ℕ
how_many None = 0
how_many (Some arrival) = 1

-- A number rose; or it is as before, and this is so.
abbrev pub RoseOr : (before after : ℕ) → Type 0 → Type 0
RoseOr before after Else = (before < after) ⊎ ((after ≡ before) × Else)

-- A number fell; or it is as before, and this is so.
abbrev pub FellOr : (before after : ℕ) → Type 0 → Type 0
FellOr before after Else = (after < before) ⊎ ((after ≡ before) × Else)

-- Nothing was done, and nothing more was noted as done.
pub record DidNothing (unit unit' : Unit) (old new : EndState) : Type 0 where
  pub moved : unit'.moved ≡ unit.moved
  pub still : IsStill old new
  pub same : under_way unit' ≡ under_way unit

-- Entries were taken or put, or a session was begun; or else the queue was freed; or else the entry that waited does so no
-- more; or else there are fewer requests; or else the oldest came on in this way; or nothing was done.
abbrev pub ComesOn : (Comes : ℕ × ℕ → ℕ × ℕ → Type 0) → (unit unit' : Unit) → (old new : EndState) → Type 0
ComesOn Comes unit unit' old new =
    RoseOr (work_of old) (work_of new)
    (FellOr (one_if old.registered) (one_if new.registered)
    (FellOr (how_many unit.waiting) (how_many unit'.waiting)
    (FellOr (length unit.pending.items) (length unit'.pending.items)
    (Comes (how_far unit.service.stage) (how_far unit'.service.stage) ⊎ DidNothing unit unit' old new))))

-- The oldest request did not come on.
abbrev pub NoStage : (before after : ℕ × ℕ) → Type 0
NoStage before after = ⊥

-- It is at another stage.
abbrev pub OtherStage : (before after : ℕ × ℕ) → Type 0
OtherStage before after = after ≢ before

-- It is at another stage, and was not where the entry of its answer is to be put.
abbrev pub BeforeEntry : (before after : ℕ × ℕ) → Type 0
BeforeEntry before after = (before ≢ (7, 0)) × (after ≢ before)

-- It came to where the entry of its answer is to be put.
abbrev pub ToEntry : (before after : ℕ × ℕ) → Type 0
ToEntry before after = (before ≢ (7, 0)) × (after ≡ (7, 0))
