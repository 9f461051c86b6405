use Rattle.std.proofs.Common.{◌≡◌, ◌+◌, ◌≤◌, length, map, take, vec_capacity}
use Rattle.lan_switch.specs.Switch.{opened}
use Rattle.lan_switch.proofs.switch.PlainSwitch.open.Given as goal

abbrev pub invariant-loop-plan : goal.invariant-loop-plan
invariant-loop-plan l = record {
  made : l.stations.items ≡ map opened (take l.plan-index l.ports);
  room : length l.ports ≤ vec_capacity l.stations;
}
