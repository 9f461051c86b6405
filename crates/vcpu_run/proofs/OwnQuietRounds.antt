-- Own clients in a round in which nothing was done: none of their lines waits behind it.
use Rattle.std.proofs.Common.{◌≡◌, ◌≢◌, ◌∙◌, ◌⊎◌, inl, inr, ℕ, ◌+◌, ◌<◌, ◌≤◌, true, false, true≢false, IsSomeAnd, List, Option, Some, length, slice_get, slice_set, sym, ap, subst, arith}
use Rattle.std.proofs.lemmas.Option.{slice_get_within}
use Rattle.block_server.specs.declared.unit.Unit.{Unit}
use Rattle.lan_script.specs.declared.seat.PortSeat.{PortSeat}
use Rattle.vcpu_run.specs.Agreed.{SameElse}
use Rattle.vcpu_run.specs.Links.{ServerWaits, ServersWait, link_state, links_of}
use Rattle.vcpu_run.specs.Machines.{AreScripts}
use Rattle.vcpu_run.specs.OwnPairs.{IsReadyOwnPair}
use Rattle.vcpu_run.specs.OwnQuiets.{AreOwnQuietTo, NoneOwnAwait, QuietsOwn, RestsOwnInRound}
use Rattle.vcpu_run.specs.OwnRuns.{AreOwnTo, IsOwnSeat}
use Rattle.vcpu_run.specs.PlainPairs.{ServerBooks}
use Rattle.vcpu_run.specs.PlainScripts.{NoneAwaits, told_in}
use Rattle.vcpu_run.specs.Scripts.{OnlyRuns, are_servers}
use Rattle.vcpu_run.specs.declared.pair.Pair.{Pair}
use Rattle.vcpu_run.specs.declared.script.Script.{Script}
use Rattle.vcpu_run.proofs.Driving.{same_or, some_is}
use Rattle.vcpu_run.proofs.Listed.{each_set, held, is_held}
use Rattle.vcpu_run.proofs.OwnQuieted.{link_at}
use Rattle.vcpu_run.proofs.OwnRuns.{home_before, seat_same_own}
use Rattle.vcpu_run.proofs.RoundsTold.{others_same}

-- before the round
pub own_quiet_none : (home : ℕ) (units : List Unit) (pairs : List Pair) (scripts : List Script) → AreOwnQuietTo home 0 units pairs scripts
own_quiet_none home units pairs scripts i u k script found seat = record { waits = λ less upto. absurd (omega (arith, less)); none = λ less. absurd (omega (arith, less)) }

-- ---- the server units have their turns, and wait

pub idled_own : (granted home n : ℕ) (books books' : ServerBooks) (old new : List Pair) (scripts : List Script) (here : Script) → slice_get scripts n ≡ Some here
    → are_servers here.seats.items ≡ true → ServersWait books'.units (links_of new) → AreOwnTo granted home (n + 1) books' new scripts → AreOwnQuietTo home n books.units old scripts
    → AreOwnQuietTo home (n + 1) books'.units new scripts
idled_own granted home n books books' old new scripts here there servers wait own quiet i u k script found seat = record {
  waits = λ less upto. is_held (λ (pair : Pair). ServerWaits (slice_get books'.units k) (link_state pair.link)) (slice_get new k) at.0 at.1 (wait k (link_state at.0.link) (link_at new k at.0 at.1));
  none = λ less. by less (same_or i n);
}
  where
    at : (pair : Pair) × (slice_get new k ≡ Some pair)
        × IsReadyOwnPair granted (told_in u script) script.lines.now home u k books' (slice_get script.lines.now script.at) script.progress pair
    at = held (IsReadyOwnPair granted (told_in u script) script.lines.now home u k books' (slice_get script.lines.now script.at) script.progress) (slice_get new k) (own i u k script found seat).ready

    by : i < n + 1 → (i ≡ n) ⊎ (i ≢ n) → NoneAwaits u script
    by less (inr apart) = (quiet i u k script found seat).none (omega (arith, less, apart))
    by less (inl is) =
        let same : here ≡ script = some_is here script (sym there ∙ (ap (slice_get scripts) (sym is) ∙ found)) in
        absurd (true≢false (sym (ap (λ (s : Script). are_servers s.seats.items) (sym same) ∙ servers) ∙ (own i u k script found seat).others))

-- ---- a script has its turn, and did nothing in it

pub quieted_own : (granted home n : ℕ) (books : ServerBooks) (old new : List Pair) (ports : List PortSeat) (scripts : List Script) (script later : Script) → slice_get scripts n ≡ Some script
    → AreScripts old ports scripts → SameElse script.seats.items old new → OnlyRuns script later → are_servers script.seats.items ≡ false → QuietsOwn old new script later
    → AreOwnTo granted home n books old scripts → AreOwnQuietTo home n books.units old scripts → AreOwnQuietTo home (n + 1) books.units new (slice_set scripts n later)
quieted_own granted home n books old new ports scripts script later found are others rest plain quiets own quiet i u k now there seat =
    each_set (λ j (s : Script). IsOwnSeat s u k → RestsOwnInRound home (n + 1) books.units new j u k s) scripts n later
    (λ j s at apart sits. record {
      waits = λ less upto. subst (λ (o : Option Pair). IsSomeAnd o (λ pair. ServerWaits (slice_get books.units k) (link_state pair.link)))
          (sym (others_same old new ports scripts n j script s found at apart are others u k sits.sits))
          ((quiet j u k s at sits).waits (home_before home n scripts script found plain (own j u k s at sits).behind.servers less) (omega (arith, upto)));
      none = λ less. (quiet j u k s at sits).none (omega (arith, less, apart));
    })
    (λ sits. mine (seat_same_own script later u k rest sits)) i now there seat
  where
    mine : IsOwnSeat script u k → RestsOwnInRound home (n + 1) books.units new n u k later
    mine sits =
        let was = own n u k script found sits in
        record {
          waits = λ less upto. absurd (omega (arith, upto));
          none = λ less. quiets granted home u k books sits (was.served was.behind.less (omega arith)) ((quiet n u k script found sits).waits was.behind.less (omega arith));
        }

-- ---- a round

-- all scripts had their turns
pub round_quiet_own : (home n : ℕ) (units : List Unit) (pairs : List Pair) (scripts : List Script) → length scripts ≤ n → AreOwnQuietTo home n units pairs scripts → NoneOwnAwait scripts
round_quiet_own home n units pairs scripts all quiet i u k script found seat = (quiet i u k script found seat).none (omega (arith, all, slice_get_within scripts i script found))
