-- Own clients in a run: what the turns of the server units, and those of the scripts, leave of them.
use Rattle.std.proofs.Common.{◌≡◌, ◌≢◌, ◌∙◌, ◌⊎◌, inl, inr, ℕ, ◌+◌, ◌<◌, ◌≤◌, true, false, true≢false, List, Option, Some, IsSomeAnd, length, slice_get, slice_set, sym, ap, subst, arith}
use Rattle.lan_script.specs.declared.seat.PortSeat.{PortSeat}
use Rattle.vcpu_run.specs.Agreed.{SameElse}
use Rattle.vcpu_run.specs.Machines.{AreScripts}
use Rattle.vcpu_run.specs.OwnClients.{IsOwnClient}
use Rattle.vcpu_run.specs.OwnPairs.{IsReadyOwnPair}
use Rattle.vcpu_run.specs.OwnRuns.{AreOwn, AreOwnTo, IsOwnSeat, IsServedOwnAt, OwnInRound}
use Rattle.vcpu_run.specs.OwnServes.{IsServedOwnPair, ServesOwnAt, TurnsOwn}
use Rattle.vcpu_run.specs.PlainPairs.{ServerBooks}
use Rattle.vcpu_run.specs.PlainScripts.{told_in}
use Rattle.vcpu_run.specs.Scripts.{OnlyRuns, are_servers}
use Rattle.vcpu_run.specs.declared.pair.Pair.{Pair}
use Rattle.vcpu_run.specs.declared.script.Script.{Script}
use Rattle.vcpu_run.specs.declared.unit_seat.Seat.{Seat}
use Rattle.vcpu_run.proofs.Driving.{same_or, some_is}
use Rattle.vcpu_run.proofs.Listed.{each_set, held}
use Rattle.vcpu_run.proofs.OwnRounds.{own_ready}
use Rattle.vcpu_run.proofs.PlainRuns.{behind_set}
use Rattle.vcpu_run.proofs.RoundsTold.{others_same}

pub seat_same_own : (script later : Script) (u k : ℕ) → OnlyRuns script later → IsOwnSeat later u k → IsOwnSeat script u k
seat_same_own script later u k rest seat = record {
  sits = sym (ap (λ (seats : List Seat). slice_get seats u) (ap (λ s. s.items) rest.seats)) ∙ seat.sits;
  own = subst (IsOwnClient u) (ap (λ lines. lines.now) rest.lines) seat.own;
}

-- ---- the server units have their turns

pub served_own : (granted home n : ℕ) (books books' : ServerBooks) (old new : List Pair) (scripts : List Script) → ((k : ℕ) → ServesOwnAt home books books' old new k)
    → AreOwnTo granted home n books old scripts → AreOwnTo granted home (n + 1) books' new scripts
served_own granted home n books books' old new scripts serves own i u k script found seat =
    let is = own i u k script found seat in
    let now : IsServedOwnAt granted home u k books' script new = serves k granted u (told_in u script) script.lines.now (slice_get script.lines.now script.at) script.progress is.ready in
    record {
      behind = is.behind;
      others = is.others;
      ready = own_ready granted (told_in u script) script.lines.now home u k books' (slice_get script.lines.now script.at) script.progress new now;
      served = λ _ _. now;
    }

-- ---- a script has its turn

-- the script that had its turn is not that of the server units
pub home_before : (home n : ℕ) (scripts : List Script) (script : Script) → slice_get scripts n ≡ Some script → are_servers script.seats.items ≡ false
    → IsSomeAnd (slice_get scripts home) (λ (s : Script). are_servers s.seats.items ≡ true) → home < n + 1 → home < n
home_before home n scripts script found plain servers less = by (same_or home n)
  where
    at : (s : Script) × (slice_get scripts home ≡ Some s) × (are_servers s.seats.items ≡ true)
    at = held (λ (s : Script). are_servers s.seats.items ≡ true) (slice_get scripts home) servers

    by : (home ≡ n) ⊎ (home ≢ n) → home < n
    by (inr differ) = omega (arith, less, differ)
    by (inl e) = absurd (true≢false (sym at.2
        ∙ ap (λ (s : Script). are_servers s.seats.items) (some_is at.0 script (sym at.1 ∙ (ap (slice_get scripts) e ∙ found)))
        ∙ plain))

-- the others' pairs and lines are as they were
else_own : (granted home n : ℕ) (books : ServerBooks) (old new : List Pair) (scripts : List Script) (script later : Script) (i u k : ℕ) (other : Script)
    → slice_get scripts n ≡ Some script → OnlyRuns script later → are_servers script.seats.items ≡ false → slice_get new k ≡ slice_get old k → i ≢ n
    → OwnInRound granted home n books old scripts i u k other → OwnInRound granted home (n + 1) books new (slice_set scripts n later) i u k other
else_own granted home n books old new scripts script later i u k other found rest plain same apart is = record {
  behind = behind_set home i n scripts script later found rest is.behind;
  others = is.others;
  ready = subst (λ (o : Option Pair). IsSomeAnd o (IsReadyOwnPair granted (told_in u other) other.lines.now home u k books (slice_get other.lines.now other.at) other.progress)) (sym same) is.ready;
  served = λ less upto.
      subst (λ (o : Option Pair). IsSomeAnd o (IsServedOwnPair granted (told_in u other) other.lines.now home u k books (slice_get other.lines.now other.at) other.progress)) (sym same)
      (is.served (home_before home n scripts script found plain is.behind.servers less) (omega (arith, upto)));
}

pub turned_own_at : (granted home n : ℕ) (books : ServerBooks) (old new : List Pair) (ports : List PortSeat) (scripts : List Script) (script later : Script) → slice_get scripts n ≡ Some script
    → AreScripts old ports scripts → SameElse script.seats.items old new → OnlyRuns script later → are_servers script.seats.items ≡ false → TurnsOwn old new script later
    → AreOwnTo granted home n books old scripts → AreOwnTo granted home (n + 1) books new (slice_set scripts n later)
turned_own_at granted home n books old new ports scripts script later found are others rest plain turns is i u k now there seat =
    each_set (λ j (s : Script). IsOwnSeat s u k → OwnInRound granted home (n + 1) books new (slice_set scripts n later) j u k s) scripts n later
    (λ j s at apart sits.
    else_own granted home n books old new scripts script later j u k s found rest plain
    (others_same old new ports scripts n j script s found at apart are others u k sits.sits) apart (is j u k s at sits))
    (λ sits. own (seat_same_own script later u k rest sits)) i now there seat
  where
    own : IsOwnSeat script u k → OwnInRound granted home (n + 1) books new (slice_set scripts n later) n u k later
    own sits =
        let was = is n u k script found sits in
        record {
          behind = behind_set home n n scripts script later found rest was.behind;
          others = ap (λ seats. are_servers seats.items) rest.seats ∙ was.others;
          ready = turns granted home u k books sits (was.served was.behind.less (omega arith));
          served = λ less upto. absurd (omega (arith, upto));
        }

-- ---- a round

-- all scripts had their turns
pub round_own : (granted home n : ℕ) (books : ServerBooks) (pairs : List Pair) (scripts : List Script) → length scripts ≤ n → AreOwnTo granted home n books pairs scripts
    → AreOwn granted home books pairs scripts
round_own granted home n books pairs scripts all is i u k script found seat =
    let at = is i u k script found seat in record { behind = at.behind; others = at.others; ready = at.ready; served = λ less upto. absurd (omega (arith, less)) }
