use Rattle.std.proofs.Common.{◌≡◌, ℕ}
use Rattle.vio_num.specs.declared.names.UnitId.{UnitId}
use Rattle.lan_switch.specs.Map.{HasFound}
use Rattle.lan_switch.proofs.Targets.{SoFar}
use Rattle.lan_switch.proofs.switch.PlainSwitch.offer.Given as goal

abbrev pub invariant-loop-place : goal.invariant-loop-place
invariant-loop-place g l = record {
  so_far : SoFar l.name l.frame g.M.PortMap.is_shared (g.M.PortMap.state l.fn.others) (g.M.PortMap.state l.others)
      (HasFound g.M.PortMap.state g.M.PortMap.found) l.fn.self l.self l.place l.offers.items;
  free : (u : UnitId) → (g.M.PortMap.state l.others u).held_count ≡ 0;
}
