use Rattle.std.proofs.Common.{◌≡◌, take}
use Rattle.std.specs.List.{flat_map}
use Rattle.lan_script.specs.Rows.{deliver_rows, port_in}
use Rattle.lan_script.proofs.rows.delivered_rows.Given as goal

abbrev pub invariant-loop-seat : goal.invariant-loop-seat
invariant-loop-seat l = l.rows.items ≡ flat_map (λ seat. deliver_rows seat.unit (port_in l.switch seat)) (take l.seat-index l.seats)
