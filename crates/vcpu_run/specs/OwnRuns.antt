-- Own clients in the rounds of a run.
use Rattle.std.specs.Prelude.{◌≡◌, ◌<◌, ◌≤◌, ℕ, Bool, false, IsSomeAnd, List, [], Some, slice_get}
use Rattle.vcpu_run.specs.OwnClients.{IsOwnClient}
use Rattle.vcpu_run.specs.OwnPairs.{IsOwnPair, IsReadyOwnPair}
use Rattle.vcpu_run.specs.PlainPairs.{ServerBooks}
use Rattle.vcpu_run.specs.PlainRuns.{ComesBehind}
use Rattle.vcpu_run.specs.PlainScripts.{told_in}
use Rattle.vcpu_run.specs.Scripts.{are_servers}
use Rattle.vcpu_run.specs.declared.pair.Pair.{Pair}
use Rattle.vcpu_run.specs.declared.script.Script.{Script}
use Rattle.vcpu_run.specs.declared.unit_seat.Seat.TheVariants as sits

-- an own client of a script, which is unit u and sits at pair k
pub record IsOwnSeat (script : Script) (u k : ℕ) : Type 0 where
  pub sits : slice_get script.seats.items u ≡ Some (sits.Client k)
  pub own : IsOwnClient u script.lines.now

-- P of each of them
abbrev pub AtOwnSeats : List Script → (P : (i u k : ℕ) → Script → Type 0) → Type 0
AtOwnSeats scripts P = (i u k : ℕ) (script : Script) → slice_get scripts i ≡ Some script → IsOwnSeat script u k → P i u k script

-- its pair, before its server unit's turn, and behind it, when nothing is to come
abbrev pub IsReadyOwnAt : (granted home u k : ℕ) → ServerBooks → Script → List Pair → Type 0
IsReadyOwnAt granted home u k books script pairs =
    IsSomeAnd (slice_get pairs k) (IsReadyOwnPair granted (told_in u script) script.lines.now home u k books (slice_get script.lines.now script.at) script.progress)

abbrev pub IsServedOwnAt : (granted home u k : ℕ) → ServerBooks → Script → List Pair → Type 0
IsServedOwnAt granted home u k books script pairs =
    IsSomeAnd (slice_get pairs k) (λ pair. (failed : Bool) × IsOwnPair granted failed (told_in u script) script.lines.now home u k books [] (slice_get script.lines.now script.at) script.progress pair)

-- An own client in a round in which the first scripts had their turns.
pub record OwnInRound (granted home n : ℕ) (books : ServerBooks) (pairs : List Pair) (scripts : List Script) (i u k : ℕ) (script : Script) : Type 0 where
  pub behind : ComesBehind home i scripts
  pub others : are_servers script.seats.items ≡ false
  pub ready : IsReadyOwnAt granted home u k books script pairs
  pub served : home < n → n ≤ i → IsServedOwnAt granted home u k books script pairs

abbrev pub AreOwnTo : (granted home n : ℕ) → ServerBooks → List Pair → List Script → Type 0
AreOwnTo granted home n books pairs scripts = AtOwnSeats scripts (OwnInRound granted home n books pairs scripts)

-- the same between rounds
abbrev pub AreOwn : (granted home : ℕ) → ServerBooks → List Pair → List Script → Type 0
AreOwn granted home = AreOwnTo granted home 0
