-- Plain clients and own clients, side by side, in the turns of a round: what a turn, a round and a run keep of both.
use Rattle.std.specs.Prelude.{◌≡◌, ℕ, List}
use Rattle.boot_text.specs.declared.plan.Partition.{Partition}
use Rattle.vio_trace.specs.declared.rows.Trace.{Trace}
use Rattle.vcpu_run.specs.OwnClients.{OwnClientsTell}
use Rattle.vcpu_run.specs.OwnQuiets.{AreOwnQuietTo, NoneOwnAwait}
use Rattle.vcpu_run.specs.OwnRuns.{AreOwnTo, AtOwnSeats}
use Rattle.vcpu_run.specs.OwnServes.{EndsOwn, ServesOwn, ServesOwnAt}
use Rattle.vcpu_run.specs.PlainClients.{PlainClientsAreScripted}
use Rattle.vcpu_run.specs.PlainPairs.{ServerBooks, ServesPlainly, ServesPlainlyAt}
use Rattle.vcpu_run.specs.PlainRuns.{ArePlainTo, ArePlainlyQuietTo, AwaitsNoneAt, NoneAwait}
use Rattle.vcpu_run.specs.PlainScripts.{EndsPlainly, NoneAwaits}
use Rattle.vcpu_run.specs.declared.pair.Pair.{Pair}
use Rattle.vcpu_run.specs.declared.script.Script.{Script}

-- What a turn of server unit k leaves of its pair, if its client is plain, or an own client.
pub record ServesClients (home : ℕ) (books books' : ServerBooks) (k : ℕ) (old new : Pair) : Type 0 where
  pub plain : ServesPlainly home books books' k old new
  pub own : ServesOwn home books books' k old new

-- What turns of server units leave of pair k.
pub record ServesClientsAt (home : ℕ) (books books' : ServerBooks) (old new : List Pair) (k : ℕ) : Type 0 where
  pub plain : ServesPlainlyAt home books books' old new k
  pub own : ServesOwnAt home books books' old new k

-- Plain clients and own clients in a round in which the first scripts had their turns.
pub record AreClientsTo (granted home n : ℕ) (books : ServerBooks) (pairs : List Pair) (scripts : List Script) : Type 0 where
  pub plain : ArePlainTo granted home n books pairs scripts
  pub own : AreOwnTo granted home n books pairs scripts

-- the same between rounds
abbrev pub AreClients : (granted home : ℕ) → ServerBooks → List Pair → List Script → Type 0
AreClients granted home = AreClientsTo granted home 0

-- What the trace of a run tells of both, where a login grants so many requests.
pub record ClientsTell (granted : ℕ) (partitions : List Partition) (trace : Trace) : Type 0 where
  pub scripted : PlainClientsAreScripted granted partitions trace
  pub own : OwnClientsTell granted partitions trace

-- What the end of a line that waits leaves of plain clients, and of own clients, at these pairs.
pub record EndsClients (pairs : List Pair) (script script' : Script) : Type 0 where
  pub plain : (granted u k : ℕ) → EndsPlainly granted u k pairs script script'
  pub own : EndsOwn pairs script script'

-- Both in a round in which nothing was done so far: which lines do not wait, and why.
pub record AreClientsQuietTo (home n : ℕ) (books : ServerBooks) (pairs : List Pair) (scripts : List Script) : Type 0 where
  pub plain : ArePlainlyQuietTo home n books scripts
  pub own : AreOwnQuietTo home n books.units pairs scripts

-- None of the lines of a plain client waits for an answer, and none of an own client's.
pub record NoClientAwaits (scripts : List Script) : Type 0 where
  pub plain : NoneAwait scripts
  pub own : NoneOwnAwait scripts

-- The same of script n alone.
pub record NoClientAwaitsAt (n : ℕ) (scripts : List Script) : Type 0 where
  pub plain : AwaitsNoneAt n scripts
  pub own : AtOwnSeats scripts (λ i u k script. i ≡ n → NoneAwaits u script)
