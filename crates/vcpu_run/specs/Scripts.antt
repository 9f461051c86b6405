-- What is so of a partition's script at each moment of a run.
use Rattle.std.specs.Prelude.{◌≡◌, ℕ, ◌<◌, ◌≤◌, ◌++◌, ◌∷◌, All, Bool, true, false, List, Some, IsSomeAnd, length, map, drop}
use Rattle.std.specs.List.{slice_get, AllPairs}
use Rattle.vio_num.specs.Words.{Begins}
use Rattle.boot_text.specs.declared.plan.Line.{Line}
use Rattle.vio_trace.specs.declared.rows.LogRow.{LogRow}
use Rattle.vcpu_run.specs.declared.pair.Pair.{Pair}
use Rattle.vcpu_run.specs.declared.script.Script.{Script}
use Rattle.vcpu_run.specs.Lines.{numbers_to_fail}
use Rattle.vcpu_run.specs.Suited.{IsLineAt}
use Rattle.vcpu_run.specs.declared.unit_seat.Seat.{Seat}
use Rattle.vcpu_run.specs.declared.unit_seat.Seat.TheVariants as sits

-- unit u of a partition is the client of pair k
abbrev pub IsSeat : (partition u k : ℕ) → List Pair → Type 0
IsSeat partition u k pairs =
    IsSomeAnd (slice_get pairs k) (λ pair. IsSomeAnd pair.driver (λ driver. driver.unit ≡ record { partition = partition; unit = u }))

-- each client unit of a partition is the client of its pair
abbrev pub AreSeats : (partition : ℕ) → List Seat → List Pair → Type 0
AreSeats partition seats pairs = (u k : ℕ) → slice_get seats u ≡ Some (sits.Client k) → IsSeat partition u k pairs

-- whether a partition has server units
abbrev pub are_servers : List Seat → Bool
are_servers (sits.Server ∷ others) = true
are_servers _ = false

-- The rows of the lines that ended: they are of this partition, and a front of its lines has one each; while lines are left,
-- all those before the current one; with those that are left, the lines up to the first that fails the partition.
pub record AreLogged (partition at : ℕ) (lines : List Line) (logs : List LogRow) : Type 0 where
  pub own : All (λ row. row.partition ≡ partition) logs
  pub numbers : Begins (map (λ row. row.line) logs) (map (λ line. line.number) lines)
  pub reached : at < length lines → length logs ≡ at
  pub whole : numbers_to_fail lines ≡ map (λ row. row.line) logs ++ numbers_to_fail (drop at lines)

-- The script of a partition.
pub record IsScript (pairs : List Pair) (script : Script) : Type 0 where
  pub seats : AreSeats script.partition script.seats.items pairs
  pub lines : All (IsLineAt script.seats.items) script.lines.now
  pub in_order : AllPairs (λ a b. a.number < b.number) script.lines.now
  pub at : script.at ≤ length script.lines.now
  pub logs : AreLogged script.partition script.at script.lines.now script.logs.items

-- Nothing changed but how far the script came, and its rows.
pub record OnlyRuns (old new : Script) : Type 0 where
  pub partition : new.partition ≡ old.partition
  pub lines : new.lines ≡ old.lines
  pub seats : new.seats ≡ old.seats
