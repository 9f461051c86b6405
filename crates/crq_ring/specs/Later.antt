-- A receiver's end after any of its calls: what has ended stays so.
use Rattle.std.specs.Prelude.{◌≡◌, ℕ}
use Rattle.crq_ring.specs.Control.{IsEnded}
use Rattle.vio_num.specs.Words.{Begins}
use Rattle.crq_ring.specs.Ends.{RecvValue}
use Rattle.crq_ring.specs.Sessions.{of_session}

-- Of a session that had ended the later end knows the very same, and the session has ended for it, too.
pub record IsLater (old new : RecvValue) : Type 0 where
  pub ring : new.ring ≡ old.ring
  pub heard : Begins old.heard new.heard
  pub stays : (q : ℕ) → IsEnded old.session old.is_open q → IsEnded new.session new.is_open q
  pub ended : (q : ℕ) → IsEnded old.session old.is_open q → of_session q new.heard ≡ of_session q old.heard
