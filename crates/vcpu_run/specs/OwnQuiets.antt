-- Own clients in a round in which nothing was done: what a server unit that waits and a client whose line waits say of one another, and what a round
-- leaves of that.
use Rattle.std.specs.Prelude.{◌≡◌, ◌≢◌, ◌⊎◌, ◌<◌, ◌≤◌, ℕ, false, IsSomeAnd, List, [], ◌∷◌, None, slice_get}
use Rattle.crq_session.specs.declared.handshake.Handshake.TheVariants.{Up}
use Rattle.block_server.specs.Doings.{Doing}
use Rattle.block_server.specs.declared.unit.Unit.{Unit}
use Rattle.vscsi_client.specs.State.{ClientState}
use Rattle.vscsi_client.specs.declared.stage.Due.{Due}
use Rattle.vscsi_client.specs.declared.stage.Due.TheVariants as dues
use Rattle.vscsi_client.specs.declared.stage.Stage.TheVariants.{Sent}
use Rattle.vcpu_run.specs.Links.{ServerWaits, link_state}
use Rattle.vcpu_run.specs.OwnOver.{IsAware}
use Rattle.vcpu_run.specs.OwnRuns.{AtOwnSeats, IsOwnSeat, IsServedOwnAt}
use Rattle.vcpu_run.specs.PlainPairs.{ServerBooks}
use Rattle.vcpu_run.specs.PlainScripts.{NoneAwaits}
use Rattle.vcpu_run.specs.declared.pair.Pair.{Pair}
use Rattle.vcpu_run.specs.declared.script.Script.{Script}

-- AT A PAIR ---------------------------------------------------------------------------------------

-- The unit has nothing to do: its session goes on, nothing is to come to it, and nothing is pending or kept.
pub record HasNoWork (d : Doing) : Type 0 where
  pub going : d.ended ≡ false
  pub coming : d.coming ≡ []
  pub pending : d.pending ≡ []
  pub kept : d.kept ≡ None

-- How a client stands then that looked at all, its unit's session being over, or having been: it awaits nothing, and no login was asked for. It is
-- to put its entry of the initialisation, or it has heard of the unit.
pub record HasAll (s : ClientState) : Type 0 where
  pub aware : IsAware s
  pub unsent : (tag slot : ℕ) → s.login ≢ Sent tag slot
  pub met : ((others : List Due) × (s.due ≡ dues.Initialize ∷ others)) ⊎ (s.handshake ≡ Up)

-- IN A ROUND --------------------------------------------------------------------------------------

-- its server unit waits
abbrev pub ServerWaitsAt : (k : ℕ) → List Unit → List Pair → Type 0
ServerWaitsAt k units pairs = IsSomeAnd (slice_get pairs k) (λ pair. ServerWaits (slice_get units k) (link_state pair.link))

-- A turn of a script in which nothing was done leaves no line of an own client that waits, where its server unit waits.
abbrev pub QuietsOwn : (old new : List Pair) → (script script' : Script) → Type 0
QuietsOwn old new script script' = (granted home u k : ℕ) (books : ServerBooks) → IsOwnSeat script u k → IsServedOwnAt granted home u k books script old
    → ServerWaitsAt k books.units old → NoneAwaits u script'

-- In a round in which nothing was done so far, an own client's server unit waits once that had its turn and the client had not, and none of the
-- client's lines waits once it had its own.
pub record RestsOwnInRound (home n : ℕ) (units : List Unit) (pairs : List Pair) (i u k : ℕ) (script : Script) : Type 0 where
  pub waits : home < n → n ≤ i → ServerWaitsAt k units pairs
  pub none : i < n → NoneAwaits u script

abbrev pub AreOwnQuietTo : (home n : ℕ) → List Unit → List Pair → List Script → Type 0
AreOwnQuietTo home n units pairs scripts = AtOwnSeats scripts (RestsOwnInRound home n units pairs)

-- none of the lines of an own client waits
abbrev pub NoneOwnAwait : List Script → Type 0
NoneOwnAwait scripts = AtOwnSeats scripts (λ i u k script. NoneAwaits u script)
