-- Plain clients in a run, between the turns of a round: each talks plainly with its server unit, and stands in its script as the replay of
-- its lines says.
use Rattle.std.specs.Prelude.{◌≡◌, ℕ, ◌<◌, ◌≤◌, true, false, IsSomeAnd, List, [], Some, slice_get}
use Rattle.vcpu_run.specs.PlainPairs.{IsIdleUnit, IsPlainAt, IsReadyAt, ServerBooks}
use Rattle.vcpu_run.specs.PlainScripts.{IsPlainSeat, NoneAwaits, StandsPlainlyAt, told_in}
use Rattle.vcpu_run.specs.Scripts.{are_servers}
use Rattle.vcpu_run.specs.declared.pair.Pair.{Pair}
use Rattle.vcpu_run.specs.declared.script.Script.{Script}

-- P of each plain client: unit u of script i, which sits at pair k
abbrev pub AtPlainSeats : List Script → (P : (i u k : ℕ) → Script → Type 0) → Type 0
AtPlainSeats scripts P = (i u k : ℕ) (script : Script) → slice_get scripts i ≡ Some script → IsPlainSeat script u k → P i u k script

-- The partition of the server units is this one, and script i comes behind it.
pub record ComesBehind (home i : ℕ) (scripts : List Script) : Type 0 where
  pub less : home < i
  pub servers : IsSomeAnd (slice_get scripts home) (λ script. are_servers script.seats.items ≡ true)

-- A plain client in a round in which the first scripts had their turns: its server unit is ready for its turn; where that had its turn, and the
-- client had not, nothing is to come.
pub record StandsInRound (granted home n : ℕ) (books : ServerBooks) (pairs : List Pair) (scripts : List Script) (i u k : ℕ) (script : Script) : Type 0 where
  pub behind : ComesBehind home i scripts
  pub others : are_servers script.seats.items ≡ false
  pub ready : IsReadyAt granted (told_in u script) home books k pairs
  pub served : home < n → n ≤ i → IsPlainAt granted (told_in u script) home books k [] pairs
  pub stands : StandsPlainlyAt granted u k pairs script

abbrev pub ArePlainTo : (granted home n : ℕ) → ServerBooks → List Pair → List Script → Type 0
ArePlainTo granted home n books pairs scripts = AtPlainSeats scripts (StandsInRound granted home n books pairs scripts)

-- the same between rounds
abbrev pub ArePlain : (granted home : ℕ) → ServerBooks → List Pair → List Script → Type 0
ArePlain granted home = ArePlainTo granted home 0

-- In a round in which nothing was done so far, nothing is pending in its server unit once that had its turn, and none of its lines waits for
-- an answer once it had its own.
pub record RestsInRound (home n : ℕ) (books : ServerBooks) (i u k : ℕ) (script : Script) : Type 0 where
  pub idle : home < n → IsIdleUnit k books
  pub none : i < n → NoneAwaits u script

abbrev pub ArePlainlyQuietTo : (home n : ℕ) → ServerBooks → List Script → Type 0
ArePlainlyQuietTo home n books scripts = AtPlainSeats scripts (RestsInRound home n books)

-- none of the lines of a plain client waits for an answer
abbrev pub NoneAwait : List Script → Type 0
NoneAwait scripts = AtPlainSeats scripts (λ i u k script. NoneAwaits u script)

-- the same of script n alone
abbrev pub AwaitsNoneAt : (n : ℕ) → List Script → Type 0
AwaitsNoneAt n scripts = AtPlainSeats scripts (λ i u k script. i ≡ n → NoneAwaits u script)
