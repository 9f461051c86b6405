-- What taking a line leaves of the plan so far.
use Rattle.std.specs.Prelude.{◌≡◌, Result, MatchResult}
use Rattle.boot_text.specs.declared.cause.Cause.{Cause}
use Rattle.boot_text.specs.declared.cause.Stop.{Stop}
use Rattle.boot_text.specs.Said.{Said, good, bad, IsStop}
use Rattle.boot_text.specs.SoFar.{SoFar}

-- the line was taken, which leaves this plan, or it was not, for its cause or for want of memory
abbrev pub Takes : Result Unit Stop → Said SoFar → SoFar → Type 0
Takes result said s = MatchResult result (λ _. said ≡ good s) (IsStop said)

-- a result that wants no memory is what is said
abbrev pub TellsCause : {A : Type 0} → Result A Cause → Said A → Type 0
TellsCause result said = MatchResult result (λ value. said ≡ good value) (λ cause. said ≡ bad cause)
