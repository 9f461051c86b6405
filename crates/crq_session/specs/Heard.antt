-- What an end knows of its own queue, and what can no more be put into it.
use Rattle.std.specs.Prelude.{◌≡◌, ℕ, List}
use Rattle.vio_num.specs.Words.{Begins}
use Rattle.crq_ring.specs.declared.rows.PipeRow.{PipeRow}
use Rattle.crq_ring.specs.Control.{IsEnded}
use Rattle.crq_ring.specs.Sessions.{of_session}
use Rattle.crq_session.specs.EndState.{EndState}

-- What is known to be put into the own queue only grows, and nothing is put in a session that has ended: of such a
-- one it stays as it was.
pub record HearsOn (end : EndState) (old new : List PipeRow) : Type 0 where
  pub more : Begins old new
  pub ended : (q : ℕ) → IsEnded end.last_session end.registered q → of_session q new ≡ of_session q old
