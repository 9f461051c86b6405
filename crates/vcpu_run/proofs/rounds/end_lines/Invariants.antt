use Rattle.std.proofs.Common.{◌≡◌, ◌<◌, ◌≤◌, ℕ, List, length, slice_get}
use Rattle.vio_num.specs.declared.hypervisor.Moved.TheVariants.{Quiet}
use Rattle.lan_script.specs.declared.seat.PortSeat.{PortSeat}
use Rattle.vcpu_run.specs.declared.pair.Pair.{Pair}
use Rattle.vcpu_run.specs.ClientRuns.{AreClients, NoClientAwaits}
use Rattle.vcpu_run.specs.Machines.{AllRun, AreScripts}
use Rattle.vcpu_run.specs.PlainPairs.{ServerBooks}
use Rattle.vcpu_run.specs.Rounds.{KeepsScripts}
use Rattle.vcpu_run.proofs.rounds.end_lines.Given as goal

abbrev pub invariant-loop-number : goal.invariant-loop-number
invariant-loop-number l = record {
  scripts : (pairs : List Pair) (ports : List PortSeat) → AreScripts pairs ports l.initial.scripts → AreScripts pairs ports l.scripts;
  run : AllRun l.initial.scripts l.scripts;
  keeps : (pairs : List Pair) (ports : List PortSeat) → AreScripts pairs ports l.initial.scripts → KeepsScripts (λ i. i < length l.initial.scripts) pairs l.initial.scripts l.scripts;
  rest : (i : ℕ) → l.number ≤ i → slice_get l.scripts i ≡ slice_get l.initial.scripts i;
  clients : (granted home : ℕ) (books : ServerBooks) (pairs : List Pair) (ports : List PortSeat) → AreScripts pairs ports l.initial.scripts → NoClientAwaits l.initial.scripts
      → AreClients granted home books pairs l.initial.scripts → AreClients granted home books pairs l.scripts;
  same : l.moved ≡ Quiet → l.scripts ≡ l.initial.scripts;
}
