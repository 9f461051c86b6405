use Rattle.std.proofs.Common.{◌≡◌, ◌++◌, OnOk, sym, subst}
use Rattle.lan_buffers.specs.Port.{PortValue}
use Rattle.lan_script.specs.Rows.{deliver_rows}
use Rattle.lan_script.proofs.Cuts.{port_is}
use Rattle.lan_script.proofs.rows.put_deliveries_of.Goals as goal

pub returns : goal.returns
returns c =
    subst (λ (p : PortValue). OnOk c.put_deliveries.result (c.put_deliveries.new.rows.items ≡ c.args.rows.now.items ++ deliver_rows c.args.seat.now.unit p))
    (sym (port_is c.args.switch.now c.args.seat.now c.port.result.now c.port.ensures)) c.put_deliveries.ensures
