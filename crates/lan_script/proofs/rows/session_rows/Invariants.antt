use Rattle.std.proofs.Common.{◌≡◌, All, take}
use Rattle.std.specs.List.{flat_map}
use Rattle.lan_script.specs.Rows.{HasLawfulPort, port_in, port_rows}
use Rattle.lan_script.proofs.rows.session_rows.Given as goal

abbrev pub invariant-loop-seat : goal.invariant-loop-seat
invariant-loop-seat l = record {
  rows : l.rows.items ≡ flat_map (λ seat. port_rows seat.unit (port_in l.switch seat)) (take l.seat-index l.seats);
  lawful : All (HasLawfulPort l.switch) (take l.seat-index l.seats);
}
