-- That a client's queue was not freed, once it was registered.
use Rattle.std.specs.Prelude.{◌≡◌, ℕ, ◌≤◌, Bool, true, false, List, IfSome, slice_get}
use Rattle.crq_session.specs.EndState.{EndState}
use Rattle.crq_session.specs.PlainState.{side_of}
use Rattle.vcpu_run.specs.declared.pair.Pair.{Pair}

-- a queue that was registered once, in a session, is so still
abbrev pub NotFreed : (session : ℕ) → (registered : Bool) → Type 0
NotFreed session registered = 1 ≤ session → registered ≡ true

-- the own queue of an end was not freed, if it had not been before
abbrev pub FreesNone : EndState → EndState → Type 0
FreesNone old new = NotFreed old.last_session old.registered → NotFreed new.last_session new.registered

-- the same of the client's queue of a pair
abbrev pub IsNotFreed : Pair → Type 0
IsNotFreed pair = NotFreed (side_of pair.link false).queue.session (side_of pair.link false).registered

abbrev pub FreesNoneAt : Pair → Pair → Type 0
FreesNoneAt old new = IsNotFreed old → IsNotFreed new

-- the same of each pair of which P is so
abbrev pub FreesNoneIf : (P : ℕ → Type 0) → List Pair → List Pair → Type 0
FreesNoneIf P old new = (k : ℕ) → P k → IfSome (slice_get old k) IsNotFreed → IfSome (slice_get new k) IsNotFreed
