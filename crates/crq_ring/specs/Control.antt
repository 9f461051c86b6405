-- A queue's control word (LoPAR, "H_REG_CRQ"): bit 0 open, bit 1 a sender inside, the session from bit 3 up.
use Rattle.std.specs.Prelude.{◌≡◌, ℕ, ◌⊎◌, ◌+◌, ◌*◌, ◌/◌, ◌%◌, ◌<◌, ◌≤◌, Bool, true, false, if◌then◌else◌}

abbrev pub control_word : ℕ → Bool → Bool → ℕ
control_word session is_open inside = 8 * session + (if inside then 2 else 0) + (if is_open then 1 else 0)

-- The word is not open, or is of a later session than this one.
abbrev pub ShowsClosed : ℕ → ℕ → Type 0
ShowsClosed session word = (word % 2 ≡ 0) ⊎ (session < word / 8)

-- The word is open, with a sender inside, and of this session.
pub record ShowsInside (session word : ℕ) : Type 0 where
  pub open_bit : word % 2 ≡ 1
  pub inside_bit : (word / 2) % 2 ≡ 1
  pub session_is : word / 8 ≡ session

-- A session of a queue has ended: a later one began, or the last one was closed.
abbrev pub IsEnded : ℕ → Bool → ℕ → Type 0
IsEnded session true q = q < session
IsEnded session false q = q ≤ session
