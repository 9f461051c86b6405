-- A unit that has nothing to do, and whose queue is empty.
use Rattle.std.specs.Prelude.{◌≡◌, ℕ, List, None, IfSome, slice_get}
use Rattle.crq_session.specs.Answered.{received_now, taken_now}
use Rattle.crq_session.specs.EndState.{EndState}
use Rattle.block_server.specs.Ready.{HasNothing}
use Rattle.block_server.specs.declared.unit.Unit.{Unit}

-- All that was received in the session was taken.
abbrev pub IsEmptied : EndState → Type 0
IsEmptied queue = received_now queue ≡ taken_now queue

-- The unit has nothing to do, no event is kept, and all that was received was taken.
pub record IsResting (unit : Unit) (queue : EndState) : Type 0 where
  pub nothing : HasNothing unit
  pub event : queue.kept ≡ None
  pub emptied : IsEmptied queue

-- the same of the unit of this number
abbrev pub RestsAt : List Unit → (unit : ℕ) → EndState → Type 0
RestsAt units unit queue = IfSome (slice_get units unit) (λ u. IsResting u queue)
